-- `sheet_number::number` meets its contract.
use Rattle.sheet_number.proofs.NumberedLaws.{page_room, page_numbers, page_done}
use Rattle.sheet_number.proofs.number.Goals as goal

pub number_from-requires : goal.number_from-requires
number_from-requires c =
    let a = c.args in
    let w = c.put_head-used in
    let n = c.line_of-first.ensures in
    record {
      s_in_bounds = page_room a.m a.s.now c.requires.s_len_bound c.requires.out_len w.ensures w.auto.out;
      s_bound = page_numbers a.m a.s.now c.requires.s_len_bound c.requires.line_le_most_number n;
    }

pub returns : goal.returns
returns c =
    let a = c.args in
    page_done a.m a.s.now c.requires.s_len_bound c.requires.out_len c.put_head-used.ensures
    c.line_of-first.ensures c.number_from.ensures

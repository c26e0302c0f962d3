-- `sheet_number::number_from` meets its contract.
use Rattle.sheet_number.proofs.NumberedLaws.{numbering_start, numbering_long, numbering_room, numbering_next, numbering_done}
use Rattle.sheet_number.proofs.number_from.Goals as goal

pub loop-b-init : goal.loop-b-init
loop-b-init c =
    numbering_start c.args.starts c.args.first c.args.s.now c.args.at
    c.args.out.now c.requires.s_in_bounds c.requires.s_bound

pub put_byte-used-requires : goal.put_byte-used-requires
put_byte-used-requires c = (numbering_room c.loop-b.invariant c.loop-b-test.true).0

pub number_after-n-requires : goal.number_after-n-requires
number_after-n-requires c = (numbering_room c.loop-b.invariant c.loop-b-test.true).1

pub loop-b-preserved : goal.loop-b-preserved
loop-b-preserved c =
    numbering_next c.loop-b.invariant c.loop-b-test.true c.number_after-n.ensures
    c.put_byte-used.ensures

pub shape_of-out : goal.shape_of-out
shape_of-out c = numbering_long c.loop-b.invariant

pub returns : goal.returns
returns c = numbering_done c.loop-b.invariant c.loop-b-test.false

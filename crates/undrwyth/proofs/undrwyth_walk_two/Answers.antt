-- `undrwyth::undrwyth_walk_two` meets its contract.
use mathlib.Core.Path.{subst₂}
use Rattle.grid.specs.declared.Corner.{Corner}
use Rattle.pair.specs.Call.{PairIs}
use Rattle.undrwyth_words.proofs.WordLaws.{pair_first}
use Rattle.undrwyth.proofs.BoundaryLaws.{same_corner, pair_fits}
use Rattle.undrwyth.proofs.undrwyth_walk_two.Goals as goal

pub pair_answer_words-words-requires : goal.pair_answer_words-words-requires
pair_answer_words-words-requires c =
    let a = c.args in
    let w = c.follow-a in
    pair_fits _ _ a.ops.now
    (record { table = a.table.now; marks = a.marks.now; first = a.chain0.now; second = a.chain1.now }) w.result
    (record { table = w.new.t; marks = w.new.marks; first = w.new.first; second = w.new.second }) w.ensures

pub returns : goal.returns
returns c =
    let a = c.args in
    let w = c.follow-a in
    record {
      answer = w.result;
      walked = subst₂ (λ (x y : Corner). PairIs x y a.ops.now
          (record { table = a.table.now; marks = a.marks.now; first = a.chain0.now; second = a.chain1.now }) w.result (record { table = w.new.t; marks = w.new.marks; first = w.new.first; second = w.new.second }))
          (same_corner c.ranges.start0_x c.ranges.start0_y)
          (same_corner c.ranges.start1_x c.ranges.start1_y)
          w.ensures;
      words_are = c.pair_answer_words-words.ensures;
      result = pair_first w.result c.pair_answer_words-words.result c.pair_answer_words-words.ensures;
    }

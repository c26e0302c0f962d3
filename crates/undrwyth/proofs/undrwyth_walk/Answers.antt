-- `undrwyth::undrwyth_walk` meets its contract.
use mathlib.Core.Path.{subst}
use Rattle.grid.specs.declared.Corner.{Corner}
use Rattle.walk.specs.Walk.{WalkIs}
use Rattle.undrwyth_words.proofs.WordLaws.{answer_first}
use Rattle.undrwyth.proofs.BoundaryLaws.{same_corner, answer_fits}
use Rattle.undrwyth.proofs.undrwyth_walk.Goals as goal

pub walk_words-words-requires : goal.walk_words-words-requires
walk_words-words-requires c =
    let a = c.args in
    let w = c.follow-a in
    answer_fits _ a.ops.now a.table.now a.marks.now a.chain.now w.result w.new.t
    w.new.marks w.new.chain w.ensures

pub returns : goal.returns
returns c =
    let a = c.args in
    let w = c.follow-a in
    record {
      answer = w.result;
      walked = subst (λ (k : Corner). WalkIs k a.ops.now a.table.now a.marks.now a.chain.now w.result
          w.new.t w.new.marks w.new.chain) (same_corner c.ranges.start_x c.ranges.start_y) w.ensures;
      words_are = c.walk_words-words.ensures;
      result = answer_first w.result c.walk_words-words.result c.walk_words-words.ensures;
    }

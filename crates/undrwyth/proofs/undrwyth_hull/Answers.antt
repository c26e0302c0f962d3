-- `undrwyth::undrwyth_hull` meets its contract.
use mathlib.Core.Path.{subst}
use Rattle.grid.specs.declared.Corner.{Corner}
use Rattle.hull.specs.Call.{HullCall}
use Rattle.undrwyth_words.proofs.WordLaws.{counted_first}
use Rattle.undrwyth.proofs.BoundaryLaws.{same_corner, counted_fits}
use Rattle.undrwyth.proofs.undrwyth_hull.Goals as goal

pub counted_words-words-requires : goal.counted_words-words-requires
counted_words-words-requires c =
    let a = c.args in
    let w = c.list-c in
    counted_fits _ a.chain.now a.out.now w.result w.new.out w.ensures

pub returns : goal.returns
returns c =
    let a = c.args in
    let w = c.list-c in
    record {
      answer = w.result;
      listed = subst (λ (s : Corner). HullCall s a.chain.now a.out.now w.result w.new.out)
          (same_corner c.ranges.start_x c.ranges.start_y)
          w.ensures;
      words_are = c.counted_words-words.ensures;
      result = counted_first w.result c.counted_words-words.result c.counted_words-words.ensures;
    }

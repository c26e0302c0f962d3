-- `undrwyth::undrwyth_overlay` meets its contract.
use mathlib.Core.Path.{subst₂}
use Rattle.grid.specs.declared.Corner.{Corner}
use Rattle.overlay.specs.Call.{of_parts, OverlayCall}
use Rattle.undrwyth_words.proofs.WordLaws.{overlaid_first}
use Rattle.undrwyth.proofs.BoundaryLaws.{same_corner, overlay_fit}
use Rattle.undrwyth.proofs.undrwyth_overlay.Goals as goal

pub overlaid_words-words-requires : goal.overlaid_words-words-requires
overlaid_words-words-requires c =
    let a = c.args in
    let w = c.list-o in
    overlay_fit _ a.chain1.now _ a.chain2.now (of_parts a.first.now a.second.now a.both.now) w.result
    (of_parts w.new.first w.new.second w.new.both) w.ensures

pub returns : goal.returns
returns c =
    let a = c.args in
    let w = c.list-o in
    record {
      answer = w.result;
      laid = subst₂ (λ (x y : Corner). OverlayCall x a.chain1.now y a.chain2.now
          (of_parts a.first.now a.second.now a.both.now) w.result (of_parts w.new.first w.new.second w.new.both))
          (same_corner c.ranges.start1_x c.ranges.start1_y)
          (same_corner c.ranges.start2_x c.ranges.start2_y)
          w.ensures;
      words_are = c.overlaid_words-words.ensures;
      result = overlaid_first w.result c.overlaid_words-words.result c.overlaid_words-words.ensures;
    }

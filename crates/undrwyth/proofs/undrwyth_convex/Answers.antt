-- `undrwyth::undrwyth_convex` meets its contract.
use mathlib.Core.Path.{subst}
use Rattle.grid.specs.declared.Corner.{Corner}
use Rattle.convex.specs.Convex.{ConvexCall}
use Rattle.undrwyth_words.proofs.WordLaws.{counted_first}
use Rattle.undrwyth.proofs.BoundaryLaws.{same_corner, convex_fits}
use Rattle.undrwyth.proofs.undrwyth_convex.Goals as goal

pub counted_words-words-requires : goal.counted_words-words-requires
counted_words-words-requires c = convex_fits _ c.args.chain.now c.tell-c.result c.tell-c.ensures

pub returns : goal.returns
returns c =
    let w = c.tell-c in
    record {
      answer = w.result;
      told = subst (λ (s : Corner). ConvexCall s c.args.chain.now w.result)
          (same_corner c.ranges.start_x c.ranges.start_y) w.ensures;
      words_are = c.counted_words-words.ensures;
      result = counted_first w.result c.counted_words-words.result c.counted_words-words.ensures;
    }

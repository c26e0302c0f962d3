-- `undrwyth::undrwyth_orthogonal_hull` meets its contract.
use mathlib.Core.Path.{subst}
use Rattle.grid.specs.declared.Corner.{Corner}
use Rattle.orthogonal.specs.Call.{OrthogonalCall}
use Rattle.undrwyth_words.proofs.WordLaws.{orthogonal_first}
use Rattle.undrwyth.proofs.BoundaryLaws.{same_corner, orthogonal_fit}
use Rattle.undrwyth.proofs.undrwyth_orthogonal_hull.Goals as goal

pub orthogonal_words-words-requires : goal.orthogonal_words-words-requires
orthogonal_words-words-requires c =
    let a = c.args in
    let w = c.outline-o in
    orthogonal_fit _ a.chain.now a.grid a.out.now w.result w.new.out w.ensures

pub returns : goal.returns
returns c =
    let a = c.args in
    let w = c.outline-o in
    record {
      answer = w.result;
      outlined = subst (λ (s : Corner). OrthogonalCall s a.chain.now a.grid a.out.now w.result
          w.new.out) (same_corner c.ranges.start_x c.ranges.start_y) w.ensures;
      words_are = c.orthogonal_words-words.ensures;
      result = orthogonal_first w.result c.orthogonal_words-words.result c.orthogonal_words-words.ensures;
    }

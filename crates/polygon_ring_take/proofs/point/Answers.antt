-- `polygon_ring_take::point` meets its contract.
use mathlib.Core.Path.{ap, ◌∙◌}
use Rattle.polygon_ring_laws.specs.Fields.{float_kept}
use Rattle.polygon_ring_take.proofs.point.Goals as goal

pub returns : goal.returns
returns c =
    record {
      x = c.float_of-x.ensures ∙ ap float_kept c.eight.ensures;
      y = c.float_of-y.ensures ∙ ap float_kept c.eight-2.ensures;
    }

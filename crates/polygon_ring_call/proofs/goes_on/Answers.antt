-- `polygon_ring_call::goes_on` meets its contract.
use mathlib.Core.Bool.{Bool, ◌&&◌}
use mathlib.Core.Path.{sym, ap, ◌∙◌}
use Rattle.polygon_ring.specs.Ring.{straight}
use Rattle.polygon_ring_call.proofs.goes_on.Goals as goal

pub returns-then-line : goal.returns-then-line
returns-then-line c =
    c.is_straight-straight.ensures ∙ sym
    (ap (λ (b : Bool). b && straight c.args.a c.args.b) c.if-line.true)

pub returns-else-line : goal.returns-else-line
returns-else-line c = sym (ap (λ (b : Bool). b && straight c.args.a c.args.b) c.if-line.false)

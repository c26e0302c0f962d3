-- `polygon_ring_take::signed` meets its contract.
use mathlib.Core.Path.{sym, ap, ◌∙◌}
use mathlib.Core.Bool.{Bool}
use Rattle.polygon.specs.Coordinate.{signed}
use Rattle.polygon_ring_laws.proofs.SignLaws.{plain_is, negated_fits, negated_is}
use Rattle.polygon_ring_take.proofs.signed.Goals as goal

pub overflow_sub-result : goal.overflow_sub-result
overflow_sub-result c = negated_fits c.args.n c.requires

pub returns-then-below : goal.returns-then-below
returns-then-below c = negated_is c.args.n c.requires ∙ ap (λ (b : Bool). signed b c.args.n) (sym c.if-below.true)

pub returns-else-below : goal.returns-else-below
returns-else-below c = plain_is c.args.n c.requires ∙ ap (λ (b : Bool). signed b c.args.n) (sym c.if-below.false)

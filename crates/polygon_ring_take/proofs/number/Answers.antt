-- `polygon_ring_take::number` meets its contract.
use mathlib.Core.Path.{sym, ap, ◌∙◌}
use mathlib.Core.Bool.{Bool}
use Rattle.polygon_ring.specs.Bytes.{number_in}
use Rattle.polygon_ring_take.proofs.number.Goals as goal

pub returns-then-first_lowest : goal.returns-then-first_lowest
returns-then-first_lowest c = c.little.ensures ∙ ap (λ (b : Bool). number_in b c.args.s.now) (sym c.if-first_lowest.true)

pub returns-else-first_lowest : goal.returns-else-first_lowest
returns-else-first_lowest c = c.big.ensures ∙ ap (λ (b : Bool). number_in b c.args.s.now) (sym c.if-first_lowest.false)

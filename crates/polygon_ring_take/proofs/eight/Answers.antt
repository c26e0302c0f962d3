-- `polygon_ring_take::eight` meets its contract.
use mathlib.Core.Path.{sym, ap, ◌∙◌}
use mathlib.Core.Bool.{Bool}
use Rattle.polygon_ring.specs.Bytes.{number_in}
use Rattle.polygon_ring_laws.proofs.NumberLaws.{eight_swapped, swapped_is}
use Rattle.polygon_ring_take.proofs.eight.Goals as goal

pub returns-then-first_lowest : goal.returns-then-first_lowest
returns-then-first_lowest c = c.little-v.ensures ∙ ap (λ (b : Bool). number_in b c.args.s.now) (sym c.if-first_lowest.true)

pub returns-else-first_lowest : goal.returns-else-first_lowest
returns-else-first_lowest c =
    c.swap_bytes.ensures ∙ swapped_is c.little-v.result
    ∙ eight_swapped c.args.s.now c.little-v.result c.requires
    (λ i. (c.type_inv.s i).fits) c.little-v.ensures
    ∙ ap (λ (b : Bool). number_in b c.args.s.now) (sym c.if-first_lowest.false)

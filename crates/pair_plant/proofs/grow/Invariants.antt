-- What the loops of `pair_plant::grow` keep, and how they end.
use mathlib.Core.List.{List}
use mathlib.Core.Path.{◌≡◌}
use Prim.Native.Nat.{◌≤◌}
use lib.ListN.{length}
use Rattle.grid.specs.Tree.{up_by}
use Rattle.pair_table.specs.Slots.{Slot}
use Rattle.pair_table_laws.specs.Hold.{Both}
use Rattle.walk_plant.specs.Plants.{Deep}
use Rattle.pair_plant.specs.Plants.{Plants}
use Rattle.pair_plant.proofs.GrowLaws.{Grows}
use Rattle.pair_plant.proofs.grow.Given as goal

abbrev pub invariant-loop-left : goal.invariant-loop-left
invariant-loop-left l = (length l.t ≡ length l.initial.t) × Deep l.c l.initial.left × (l.left ≤ l.initial.left) × ((slots : List Slot) (C : Both) → Plants l.initial.t slots C l.q l.initial.to.stock → Grows slots C l.q (up_by l.left l.c) l.t l.to)

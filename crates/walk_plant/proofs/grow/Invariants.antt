-- What the loops of `walk_plant::grow` keep, and how they end.
use mathlib.Core.Path.{◌≡◌}
use Prim.Native.Nat.{◌≤◌}
use lib.ListN.{length}
use Rattle.walk_plant.specs.Plants.{Deep}
use Rattle.walk_plant.proofs.GrowLaws.{Growing}
use Rattle.walk_plant.proofs.grow.Given as goal

abbrev pub invariant-loop-left : goal.invariant-loop-left
invariant-loop-left l = (length l.t ≡ length l.initial.t) × Deep l.c l.initial.left × (l.left ≤ l.initial.left) × Growing (length l.initial.t) l.c l.t l.left l.last

-- What the loops of `walk_lookup::come_down` keep, and how they end.
use mathlib.Core.Path.{◌≡◌}
use Prim.Native.Nat.{◌+◌}
use lib.ListN.{length}
use Rattle.tree_laws.specs.State.{State}
use Rattle.table_laws.specs.Climb.{Descends}
use Rattle.walk_lookup.proofs.come_down.Given as goal

abbrev pub invariant-loop-left : goal.invariant-loop-left
invariant-loop-left l = (length l.t ≡ length l.initial.t) × ((S : State) → Descends l.initial.t l.nodes l.u (l.v + 1) l.from.at l.from.d l.from.step l.level S → Descends l.t l.nodes l.at (l.to + 1) l.from.at l.from.d l.from.step l.left S)

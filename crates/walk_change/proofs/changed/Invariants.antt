-- What the loops of `walk_change::changed` keep, and how they end.
use mathlib.Core.List.{List, [], ◌∷◌, ◌++◌}
use mathlib.Core.Path.{◌≡◌}
use Prim.Native.Nat.{ℕ, ◌<◌}
use Rattle.grid.specs.declared.Corner.{Corner}
use Rattle.walk_step.specs.declared.Spot.{Spot}
use Rattle.walk_step.specs.Spots.{Walked}
use Rattle.walk_change.proofs.ChangedLaws.{Up}
use Rattle.walk_change.proofs.changed.Given as goal

abbrev pub invariant-loop-level : goal.invariant-loop-level
invariant-loop-level l = (w : Spot) → w.node ≡ l.initial.v → w.steps ≡ l.step → (c : Corner) (ds : List ℕ) (small : l.d < 4) → Walked l.t c (ds ++ (l.d ∷ [])) w → Up c ds l.d small l.u l.v l.sum

abbrev pub decreases-loop-level : goal.decreases-loop-level
decreases-loop-level l = l.u

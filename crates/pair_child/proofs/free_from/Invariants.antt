-- What the loops of `pair_child::free_from` keep, and how they end.
use Prim.Native.Nat.{ℕ, ◌-◌, ◌^◌, ◌<◌, ◌≤◌}
use Rattle.pair_child.specs.Finds.{taken_at}
use lib.ListN.{length}
use mathlib.Core.Bool.{true}
use mathlib.Core.Path.{◌≡◌}
use Rattle.pair_child.proofs.free_from.Given as goal

abbrev pub invariant-loop-r : goal.invariant-loop-r
invariant-loop-r l = (l.low ≤ l.r) × ((i : ℕ) → l.low ≤ i → i < l.r → taken_at l.t i ≡ true) × (l.r < 2 ^ 32)

abbrev pub decreases-loop-r : goal.decreases-loop-r
decreases-loop-r l = length l.t - l.r

-- What the loop of `orthogonal_lanes::end_row` keeps.
use mathlib.Core.Path.{◌≡◌}
use Prim.Native.Nat.{ℕ, ◌≤◌, ◌<◌}
use lib.ListN.{length, get_or}
use Rattle.hull_laws.specs.Lowest.{blank}
use Rattle.orthogonal_lanes.proofs.end_row.Given as goal

abbrev pub invariant-loop-q : goal.invariant-loop-q
invariant-loop-q l = (l.q ≤ length l.a) × ((k : ℕ) → l.q ≤ k → k < length l.a → get_or l.a k 0 ≡ blank)

-- What the loop of `orthogonal_lanes::first_row` keeps.
use mathlib.Core.Path.{◌≡◌}
use Prim.Native.Nat.{ℕ, ◌<◌}
use lib.ListN.{get_or}
use Rattle.hull_laws.specs.Lowest.{blank}
use Rattle.orthogonal_lanes.proofs.first_row.Given as goal

abbrev pub invariant-loop-q : goal.invariant-loop-q
invariant-loop-q l = (k : ℕ) → k < l.q → get_or l.a k 0 ≡ blank

-- What the loops of `polygon_ring_take::little` keep, and how they end.
use mathlib.Core.Path.{◌≡◌}
use mathlib.Core.List.{List}
use Prim.Native.Nat.{ℕ, ◌-◌, ◌^◌, ◌≤◌, ◌<◌}
use lib.ListN.{length, drop}
use Rattle.polygon_ring.specs.Bytes.{number_of}
use Rattle.polygon_ring_take.proofs.little.Given as goal

-- v is the number of the bytes from place i on
pub record Read (s : List ℕ) (v i : ℕ) : Type 0 where
  pub within : i ≤ length s
  pub small : v < 256 ^ (length s - i)
  pub is : v ≡ number_of (drop i s)

abbrev pub invariant-loop-i : goal.invariant-loop-i
invariant-loop-i l = Read l.s l.v l.i

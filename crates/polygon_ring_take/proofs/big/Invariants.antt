-- What the loops of `polygon_ring_take::big` keep, and how they end.
use mathlib.Core.Path.{◌≡◌}
use mathlib.Core.List.{List, reverse}
use Prim.Native.Nat.{ℕ, ◌^◌, ◌≤◌, ◌<◌}
use lib.ListN.{length, take}
use Rattle.polygon_ring.specs.Bytes.{number_of}
use Rattle.polygon_ring_take.proofs.big.Given as goal

-- v is the number of the bytes before place i
pub record Read (s : List ℕ) (v i : ℕ) : Type 0 where
  pub within : i ≤ length s
  pub small : v < 256 ^ i
  pub is : v ≡ number_of (reverse (take i s))

abbrev pub invariant-loop-d : goal.invariant-loop-d
invariant-loop-d l = Read l.s l.v l.d-index

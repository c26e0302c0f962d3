-- What the loop of `overlay_call::narrow` keeps.
use mathlib.Core.Path.{◌≡◌}
use Prim.Native.Nat.{ℕ, ◌<◌}
use lib.ListN.{length, get_or}
use lib.IntN.{pos}
use Rattle.overlay_call.proofs.narrow.Given as goal

abbrev pub invariant-loop-k : goal.invariant-loop-k
invariant-loop-k l = (length l.out ≡ length l.initial.out) × ((j : ℕ) → j < l.k → get_or l.out j (pos 0) ≡ get_or l.list j (pos 0))

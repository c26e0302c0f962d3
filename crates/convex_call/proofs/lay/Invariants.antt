-- What the loop of `convex_call::lay` keeps.
use Rattle.convex_call.specs.Laid.{LaidTwice}
use Rattle.convex_laws.specs.Way.{travelled}
use lib.ListN.{length}
use Prim.Native.Nat.{◌≤◌}
use mathlib.Core.Path.{◌≡◌}
use Rattle.convex_call.proofs.lay.Given as goal

abbrev pub invariant-loop-i : goal.invariant-loop-i
invariant-loop-i l = (l.i ≤ length l.chain) × (length l.out ≡ length l.initial.out) × LaidTwice (travelled l.back l.chain) (length l.chain) l.out l.i

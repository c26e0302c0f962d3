-- What the loops of `hull_chains::push` keep, and how they end.
use mathlib.Core.Path.{◌≡◌}
use Prim.Native.Nat.{◌-◌, ◌≤◌}
use lib.ListN.{length, drop}
use Rattle.hull_laws.specs.Chain.{cut_at}
use Rattle.hull_chains.proofs.push.Given as goal

abbrev pub invariant-loop-f : goal.invariant-loop-f
invariant-loop-f l = (l.q ≤ l.f) × (l.f ≤ length l.s) × (cut_at l.ys l.p (drop l.f l.s) ≡ cut_at l.ys l.p (drop l.q l.s))

abbrev pub decreases-loop-f : goal.decreases-loop-f
decreases-loop-f l = length l.s - l.f

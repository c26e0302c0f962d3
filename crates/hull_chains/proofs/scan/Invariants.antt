-- What the loops of `hull_chains::scan` keep, and how they end.
use mathlib.Core.Path.{◌≡◌}
use Prim.Native.Nat.{◌+◌, ◌-◌, ◌≤◌}
use lib.ListN.{length, drop}
use Rattle.hull_laws.specs.Chain.{chain_from}
use Rattle.hull_chains.proofs.scan.Given as goal

abbrev pub invariant-loop-i : goal.invariant-loop-i
invariant-loop-i l = (l.i ≤ length l.ys) × (l.q ≤ length l.s) × (length l.s ≡ length l.initial.s) × (length l.s + l.i ≤ l.q + length l.ys) × (drop l.q l.s ≡ chain_from l.ys l.i (length l.ys - l.i))

abbrev pub decreases-loop-i : goal.decreases-loop-i
decreases-loop-i l = l.i

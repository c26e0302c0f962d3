-- What the loops of `hull_chains::pass` keep.
use mathlib.Core.Path.{◌≡◌}
use Prim.Native.Nat.{◌≤◌}
use Rattle.hull_laws.specs.Chain.{turn_from}
use Rattle.hull_chains.proofs.pass.Given as goal

abbrev pub invariant-loop-j : goal.invariant-loop-j
invariant-loop-j l = (l.j ≤ l.i) × (turn_from l.ys l.j ≡ turn_from l.ys l.i)

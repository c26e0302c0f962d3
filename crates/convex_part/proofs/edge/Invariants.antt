-- What the loop of `convex_part::edge` keeps.
use mathlib.Core.Path.{◌≡◌}
use Prim.Native.Nat.{◌+◌, ◌-◌, ◌≤◌}
use Rattle.convex_laws.specs.Level.{levels}
use Rattle.convex_part.proofs.edge.Given as goal

abbrev pub invariant-loop-c : goal.invariant-loop-c
invariant-loop-c l = (l.p + 1 ≤ l.c) × (l.c ≤ l.b) × (levels l.ys l.p l.b l.c (l.b - l.c) ≡ levels l.ys l.p l.b (l.p + 1) (l.b - (l.p + 1)))

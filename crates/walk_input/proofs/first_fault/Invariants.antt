-- What the loop of `walk_input::first_fault` keeps.
use mathlib.Core.Path.{◌≡◌}
use Prim.Native.Nat.{◌≤◌}
use lib.ListN.{drop}
use Rattle.steps.specs.Operations.{operations_judged}
use Rattle.walk_input.proofs.first_fault.Given as goal

abbrev pub invariant-loop-i : goal.invariant-loop-i
invariant-loop-i l = (l.steps ≤ l.i) × (operations_judged 0 0 l.ops ≡ operations_judged l.i l.steps (drop l.i l.ops))

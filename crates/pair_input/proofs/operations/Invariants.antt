-- What the loop of `pair_input::operations` keeps.
use mathlib.Core.Path.{◌≡◌}
use Prim.Native.Nat.{◌≤◌}
use lib.ListN.{drop}
use Rattle.pair_steps.specs.Parties.{bytes_judged}
use Rattle.pair_input.proofs.operations.Given as goal

abbrev pub invariant-loop-i : goal.invariant-loop-i
invariant-loop-i l = (l.first ≤ l.i) × (l.second ≤ l.i) × (bytes_judged 0 0 0 l.ops ≡ bytes_judged l.i l.first l.second (drop l.i l.ops))

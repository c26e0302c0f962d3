-- What the loop of `walk_facts::sweep` keeps.
use mathlib.Core.Path.{◌≡◌}
use Prim.Native.Nat.{◌+◌, ◌*◌, ◌≤◌}
use lib.IntN.{nat_abs, ◌+ℤ◌}
use lib.ListN.{drop}
use Rattle.answer.specs.Limits.{most_start, farthest}
use Rattle.trace.specs.Verdict.{sweep_from}
use Rattle.walk_facts.proofs.sweep.Given as goal

abbrev pub invariant-loop-d : goal.invariant-loop-d
invariant-loop-d l = (nat_abs l.at.0 ≤ most_start + l.d-index) × (nat_abs l.at.1 ≤ most_start + l.d-index) × (nat_abs l.sum ≤ l.d-index * farthest) × (sweep_from l.initial.at l.steps ≡ l.sum +ℤ sweep_from l.at (drop l.d-index l.steps))

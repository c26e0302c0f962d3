-- What the loops of `walk_corner::up_by` keep, and how they end.
use mathlib.Core.Path.{◌≡◌}
use Rattle.grid.specs.Tree.{up_by}
use Rattle.walk_corner.proofs.up_by.Given as goal

abbrev pub invariant-loop : goal.invariant-loop
invariant-loop l = l.at ≡ up_by l.counter l.initial.at

-- What the loops of `box_walk::enclose` keep.
use Rattle.column_laws.specs.Columns.{col_after, row_after}
use Rattle.box_laws.proofs.PassLaws.{Passed}
use Rattle.box_walk.proofs.enclose.Given as goal

abbrev pub invariant-loop-step : goal.invariant-loop-step
invariant-loop-step l = Passed col_after l.chain l.step-index l.x l.west l.east × Passed row_after l.chain l.step-index l.y l.south l.north

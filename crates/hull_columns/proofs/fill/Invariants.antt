-- What the loops of `hull_columns::fill` keep.
use Rattle.hull_columns.proofs.MirrorLaws.{Filled}
use Rattle.hull_columns.proofs.fill.Given as goal

abbrev pub invariant-loop-d : goal.invariant-loop-d
invariant-loop-d l = Filled l.chain l.extent.west l.extent.east l.initial.lo l.initial.hi l.lo l.hi l.x l.y l.d-index

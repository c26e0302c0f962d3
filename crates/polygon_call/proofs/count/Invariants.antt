-- What the loops of `polygon_call::count` keep, and how they end.
use Rattle.polygon_laws.proofs.BendLaws.{Counting}
use Rattle.polygon_call.proofs.count.Given as goal

abbrev pub invariant-loop-d : goal.invariant-loop-d
invariant-loop-d l = Counting l.chain l.last l.k l.d-index

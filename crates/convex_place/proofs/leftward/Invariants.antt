-- What the loop of `convex_place::leftward` keeps.
use Rattle.convex_place.proofs.SumLaws.{Sums}
use Rattle.convex_place.proofs.leftward.Given as goal

abbrev pub invariant-loop-d : goal.invariant-loop-d
invariant-loop-d l = Sums l.chain l.x l.up l.down l.d-index

-- What the loop of `convex_place::place` keeps.
use Rattle.convex_place.proofs.FindLaws.{Seeks}
use Rattle.convex_place.proofs.place.Given as goal

abbrev pub invariant-loop-i : goal.invariant-loop-i
invariant-loop-i l = Seeks l.chain l.turn l.x l.y l.least l.i

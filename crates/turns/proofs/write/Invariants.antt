-- What the loops of `turns::write` keep, and how they end.
use Rattle.turns.proofs.ConvertLaws.{SoFar}
use Rattle.turns.proofs.write.Given as goal

abbrev pub invariant-loop-i : goal.invariant-loop-i
invariant-loop-i l = SoFar l.way l.digits l.out l.last l.i

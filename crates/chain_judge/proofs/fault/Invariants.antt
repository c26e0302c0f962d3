-- What the loops of `chain_judge::fault` keep.
use Rattle.steps.proofs.ChainLaws.{Judging}
use Rattle.chain_judge.proofs.fault.Given as goal

abbrev pub invariant-loop-i : goal.invariant-loop-i
invariant-loop-i l = Judging l.chain l.i

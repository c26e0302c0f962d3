-- What the loops of `outline_path::put` keep, and how they end.
use Rattle.outline_path.proofs.RingLaws.{Writing}
use Rattle.outline_path.proofs.put.Given as goal

abbrev pub invariant-loop-k : goal.invariant-loop-k
invariant-loop-k l = Writing l.chain l.initial.out l.out l.k l.i l.d

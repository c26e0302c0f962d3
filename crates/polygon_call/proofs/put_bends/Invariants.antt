-- What the loops of `polygon_call::put_bends` keep, and how they end.
use Rattle.polygon_laws.proofs.BendLaws.{Bent}
use Rattle.polygon_call.proofs.put_bends.Given as goal

abbrev pub invariant-loop-d : goal.invariant-loop-d
invariant-loop-d l = Bent l.initial.buf l.initial.at l.chain l.buf l.at l.last l.k l.d-index

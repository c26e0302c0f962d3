-- What the loops of `polygon_ring_call::Points::put_chain` keep, and how they end.
use Rattle.polygon_ring_laws.proofs.RingLaws.{Chaining}
use Rattle.polygon_ring_call.proofs.Points.put_chain.Given as goal

abbrev pub invariant-loop-i : goal.invariant-loop-i
invariant-loop-i l = Chaining l.self.little l.self.bytes.now l.self.n l.initial.out l.out l.a l.at l.i

-- What the loops of `polygon_ring_call::Points::measure` keep, and how they end.
use Rattle.polygon_ring_laws.proofs.RingLaws.{Measuring}
use Rattle.polygon_ring_call.proofs.Points.measure.Given as goal

abbrev pub invariant-loop-i : goal.invariant-loop-i
invariant-loop-i l = Measuring l.self.little l.self.bytes.now l.self.n l.a l.line l.steps l.i

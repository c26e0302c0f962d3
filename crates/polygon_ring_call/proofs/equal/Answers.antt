-- `polygon_ring_call::equal` meets its contract.
use Rattle.polygon_ring_laws.proofs.AxisLaws.{equal_bits}
use Rattle.polygon_ring_call.proofs.equal.Goals as goal

pub returns : goal.returns
returns c = equal_bits c.args.x c.args.y c.ranges.x c.ranges.y

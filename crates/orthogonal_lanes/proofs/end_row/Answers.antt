-- `orthogonal_lanes::end_row` meets its contract.
use Rattle.orthogonal_lanes.proofs.LaneLaws.{from_less}
use native.Mathlib.Omega.{arith}
use Rattle.orthogonal_lanes.proofs.end_row.Goals as goal

pub loop-q-preserved : goal.loop-q-preserved
loop-q-preserved c = (omega arith, from_less c.args.a.now c.loop-q.q c.loop-q-test.true c.loop-q.invariant.1 c.if-a-q.false)

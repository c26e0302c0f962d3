-- `orthogonal_lanes::settle` meets its contract.
use native.Mathlib.Omega.{arith}
use Rattle.orthogonal_lanes.proofs.LaneLaws.{settling_step}
use Rattle.orthogonal_lanes.proofs.settle.Goals as goal

pub loop-q-preserved : goal.loop-q-preserved
loop-q-preserved c =
    let l = c.loop-q in
    let t = c.loop-q-test.true in
    settling_step l.invariant t (omega (arith, l.auto.a)) c.min-least.result _ c.max.result c.min-least.ensures
    (c.requires.2 l.q t) c.max.ensures

pub returns : goal.returns
returns c = λ q h. c.loop-q.invariant.before q (omega (arith, c.loop-q-test.false))

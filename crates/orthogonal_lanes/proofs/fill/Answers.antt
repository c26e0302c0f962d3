-- `orthogonal_lanes::fill` meets its contract.
use native.Mathlib.Omega.{arith}
use Rattle.orthogonal_lanes.proofs.LaneLaws.{fill_ready, fill_done}
use Rattle.orthogonal_lanes.proofs.fill.Goals as goal

pub settle-requires : goal.settle-requires
settle-requires c =
    let a = c.args in
    let u = c.look_back in
    let k = u.auto.a in
    (omega (arith, k, c.requires.0), omega (arith, k, u.auto.t, c.requires.1), fill_ready a.a.now u.new.a a.g k u.ensures.0 u.new.t u.ensures.1)

pub returns : goal.returns
returns c =
    let a = c.args in
    let u = c.look_back in
    fill_done a.a.now u.new.a a.g u.auto.a u.ensures.0 c.settle.new.a
    c.settle.ensures

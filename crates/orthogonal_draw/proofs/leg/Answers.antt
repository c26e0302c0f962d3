-- `orthogonal_draw::leg` meets its contract.
use native.Mathlib.Omega.{arith}
use Rattle.orthogonal_chain_laws.specs.Chain.{sideways}
use Rattle.orthogonal_draw.proofs.SideLaws.{leg_done}
use Rattle.orthogonal_draw.proofs.leg.Goals as goal

pub returns : goal.returns
returns c =
    let a = c.args in (leg_done a.out.now a.at (sideways a.x a.to) a.d c.along-end.result c.along-end.new.out c.along-end.ensures.0 c.along-end.ensures.1, omega (arith, c.along-end.ensures.1))

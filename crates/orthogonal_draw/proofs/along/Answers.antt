-- `orthogonal_draw::along` meets its contract.
use native.Mathlib.Omega.{arith}
use mathlib.Core.Path.{refl}
use Prim.Native.Nat.{◌+◌, ◌-◌}
use Rattle.orthogonal_chain_laws.specs.Chain.{sideways}
use Rattle.orthogonal_draw.proofs.SideLaws.{sideways-east, sideways_west, run_along, run_fits}
use Rattle.orthogonal_draw.proofs.along.Goals as goal

pub run-requires : goal.run-requires
run-requires c =
    let a = c.args in omega
    (arith, c.requires, run_fits (a.to - a.x) 0 (sideways a.x a.to) (sideways-east a.x a.to c.if-x-to.true))

pub overflow_add-result : goal.overflow_add-result
overflow_add-result c =
    let a = c.args in omega
    (arith, c.requires, run_fits (a.to - a.x) 0 (sideways a.x a.to) (sideways-east a.x a.to c.if-x-to.true))

pub returns-then-x-to : goal.returns-then-x-to
returns-then-x-to c =
    let a = c.args in run_along a.out.now a.at (a.to - a.x) 0 (a.at + (a.to - a.x))
    (sideways a.x a.to) (sideways-east a.x a.to c.if-x-to.true) refl c.run.new.out
    c.run.ensures

pub run-requires-2 : goal.run-requires-2
run-requires-2 c =
    let a = c.args in omega
    (arith, c.requires, run_fits (a.x - a.to) 2 (sideways a.x a.to) (sideways_west a.x a.to c.if-x-to.false))

pub overflow_add-result-2 : goal.overflow_add-result-2
overflow_add-result-2 c =
    let a = c.args in omega
    (arith, c.requires, run_fits (a.x - a.to) 2 (sideways a.x a.to) (sideways_west a.x a.to c.if-x-to.false))

pub returns : goal.returns
returns c =
    let a = c.args in run_along a.out.now a.at (a.x - a.to) 2 (a.at + (a.x - a.to))
    (sideways a.x a.to) (sideways_west a.x a.to c.if-x-to.false) refl c.run-2.new.out
    c.run-2.ensures

-- `polygon_call::write` meets its contract.
use Rattle.polygon_laws.proofs.WriteLaws.{room_drawable, call_good, call_refused}
use Rattle.std.specs.Prelude.{Err}
use Rattle.std.proofs.Common.{rules, ◌≡◌}
use Rattle.polygon_call.proofs.write.Goals as goal

pub draw-requires : goal.draw-requires
draw-requires c =
    let a = c.args in
    room_drawable a.start a.chain.now c.judge.result c.judge.ensures c.in_ok-judge.was

pub returns : goal.returns
returns c =
    let a = c.args in
    call_good a.start a.chain.now a.out.now c.judge.result c.judge.ensures
    c.draw.result _ c.in_ok-judge.was c.draw.ensures

pub returns-in_err-judge : goal.returns-in_err-judge
returns-in_err-judge c =
    let a = c.args in
    let r : c.from_residual.result ≡ Err c.in_err-judge.field-0.0 = search rules in
    rw r (call_refused a.start a.chain.now a.out.now c.judge.result c.judge.ensures _ c.in_err-judge.was)

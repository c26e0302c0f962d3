-- `outline_call::write` meets its contract.
use Rattle.std.proofs.lemmas.Result.{err_from_is_err_and}
use mathlib.Core.Path.{sym, ◌∙◌}
use Rattle.outline_laws.proofs.CallLaws.{call_refused}
use Rattle.outline_call.proofs.ScanLaws.{steady, call_traced}
use Rattle.outline_call.proofs.write.Goals as goal

pub write_from-requires : goal.write_from-requires
write_from-requires c =
    let a = c.args in
    steady a.start a.chain.now (sym c.judge.ensures ∙ c.in_ok-judge.was)

pub returns : goal.returns
returns c =
    let a = c.args in
    let w = c.write_from in
    call_traced a.start a.chain.now (sym c.judge.ensures ∙ c.in_ok-judge.was) a.out.now
    w.result _ (w.ensures a.start)

pub returns-in_err-judge : goal.returns-in_err-judge
returns-in_err-judge c =
    let a = c.args in
    let p = err_from_is_err_and c.from_residual.result c.from_residual.ensures.1 in
    rw (p.1, p.2) (call_refused a.start a.chain.now a.out.now c.in_err-judge.field-0.0 (sym c.judge.ensures ∙ c.in_err-judge.was))

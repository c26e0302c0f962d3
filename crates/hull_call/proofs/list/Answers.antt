-- `hull_call::list` meets its contract.
use mathlib.Core.Path.{sym, ◌∙◌}
use Rattle.std.proofs.lemmas.Result.{err_from_is_err_and}
use Rattle.steps.proofs.ChainLaws.{good_walk}
use Rattle.hull_laws.proofs.CallLaws.{call_refused}
use Rattle.hull_call.proofs.ListLaws.{call_listed}
use Rattle.hull_call.proofs.list.Goals as goal

pub list_from-requires : goal.list_from-requires
list_from-requires c =
    let w = good_walk c.args.start c.args.chain.now
    (sym c.judge.ensures ∙ c.in_ok-judge.was) in
    (w.steps, w.near)

pub returns : goal.returns
returns c = call_listed (sym c.judge.ensures ∙ c.in_ok-judge.was) c.list_from.ensures

pub returns-in_err-judge : goal.returns-in_err-judge
returns-in_err-judge c =
    let a = c.args in
    let p = err_from_is_err_and c.from_residual.result c.from_residual.ensures.1 in
    rw (p.1, p.2) (call_refused a.start a.chain.now a.out.now c.in_err-judge.field-0.0 (sym c.judge.ensures ∙ c.in_err-judge.was))

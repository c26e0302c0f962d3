-- `row_call::list` meets its contract.
use Rattle.std.proofs.lemmas.Result.{err_from_is_err_and}
use mathlib.Core.Path.{sym, ◌∙◌}
use Rattle.row_laws.proofs.CallLaws.{refused_call}
use Rattle.row_call.proofs.list.Goals as goal

pub invariant_of-room : goal.invariant_of-room
invariant_of-room c = record { judged = sym c.judge.ensures ∙ c.in_ok-judge.was }

pub returns-in_err-judge : goal.returns-in_err-judge
returns-in_err-judge c =
    let a = c.args in
    let p = err_from_is_err_and c.from_residual.result c.from_residual.ensures.1 in
    rw (p.1, p.2) (refused_call a.start a.chain.now a.out.now c.in_err-judge.field-0.0 (sym c.judge.ensures ∙ c.in_err-judge.was))

-- `overlay_call::list` meets its contract.
use Rattle.std.specs.Prelude.{Err}
use Rattle.std.proofs.Common.{rules, ◌≡◌}
use mathlib.Core.Path.{sym, ◌∙◌}
use Rattle.overlay.specs.Call.{of_parts}
use Rattle.overlay_call.proofs.ListLaws.{call_first, call_second}
use Rattle.overlay_call.proofs.list.Goals as goal

pub invariant_of-one : goal.invariant_of-one
invariant_of-one c = record { judged = sym c.judge.ensures ∙ c.in_ok-judge.was }

pub invariant_of-other : goal.invariant_of-other
invariant_of-other c = record { judged = sym c.judge-2.ensures ∙ c.in_ok-judge-2.was }

pub returns-in_err-judge : goal.returns-in_err-judge
returns-in_err-judge c =
    let r : c.from_residual.result ≡ Err c.in_err-judge.field-0.0 = search rules in
    rw r (call_first c.args.s c.args.ds.now c.args.t c.args.es.now
    (of_parts c.args.first.now c.args.second.now c.args.both.now) _
    (sym c.judge.ensures ∙ c.in_err-judge.was))

pub returns-in_err-judge-2 : goal.returns-in_err-judge-2
returns-in_err-judge-2 c =
    let r : c.from_residual-in_err-judge-2.result ≡ Err c.in_err-judge-2.field-0.0 = search rules in
    rw r (call_second c.args.s c.args.ds.now c.args.t c.args.es.now
    (of_parts c.args.first.now c.args.second.now c.args.both.now) _
    (sym c.judge.ensures ∙ c.in_ok-judge.was) (sym c.judge-2.ensures ∙ c.in_err-judge-2.was))

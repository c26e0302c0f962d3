-- `walk_call::follow_clear` meets its contract.
use Rattle.std.proofs.lemmas.Result.{err_from_is_err_and}
use mathlib.Core.Path.{sym, ◌∙◌}
use Rattle.walk_call.proofs.CallLaws.{walk_refused, walk_followed}
use Rattle.walk_call.proofs.follow_clear.Goals as goal

pub returns-in_err-input : goal.returns-in_err-input
returns-in_err-input c =
    let a = c.args in
    let p = err_from_is_err_and c.from_residual.result c.from_residual.ensures.1 in
    rw (p.1, p.2) (walk_refused a.start a.ops.now a.t.now a.marks.now a.chain.now c.in_err-input.field-0.0
    (sym c.in_err-input.was ∙ c.input.ensures))

pub set_out-requires : goal.set_out-requires
set_out-requires c = record { chain_value = sym c.input.ensures ∙ c.in_ok-input.was; t_value = c.requires }

pub returns : goal.returns
returns c =
    let a = c.args in
    let g = c.set_out in
    walk_followed a.start a.ops.now a.t.now a.marks.now a.chain.now g.result g.new.t
    g.new.marks g.new.chain (sym c.in_ok-input.was ∙ c.input.ensures)
    g.ensures

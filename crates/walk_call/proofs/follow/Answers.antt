-- `walk_call::follow` meets its contract.
use Rattle.std.proofs.lemmas.Result.{err_from_is_err_and}
use mathlib.Core.Path.{◌≡◌, ap, sym, ◌∙◌}
use Prim.Native.Nat.{ℕ}
use borrow.Author.Rules.{rules}
use lib.ListN.{length, replicate}
use Rattle.walk_input.specs.Input.{input_judged}
use Rattle.walk_call.proofs.CallLaws.{walk_refused, followed_from, walk_followed}
use Rattle.walk_call.proofs.follow.Goals as goal

pub returns-in_err-input : goal.returns-in_err-input
returns-in_err-input c =
    let a = c.args in
    let p = err_from_is_err_and c.from_residual.result c.from_residual.ensures.1 in
    rw (p.1, p.2) (walk_refused a.start a.ops.now a.t.now a.marks.now a.chain.now c.in_err-input.field-0.0
    (sym c.in_err-input.was ∙ c.input.ensures))

pub set_out-requires : goal.set_out-requires
set_out-requires c =
    let a = c.args in
    let z = c.zero in
    let l : length z.new.t ≡ length a.t.now = search rules in
    record {
      chain_value = ap (λ (n : ℕ). input_judged a.start a.ops.now n (length a.marks.now) (length a.chain.now)) l ∙ sym c.input.ensures ∙ c.in_ok-input.was;
      t_value = z.ensures ∙ ap (λ (n : ℕ). replicate n 0) (sym l);
    }

pub returns : goal.returns
returns c =
    let a = c.args in
    let z = c.zero in
    let g = c.set_out in
    let l : length z.new.t ≡ length a.t.now = search rules in
    walk_followed a.start a.ops.now a.t.now a.marks.now a.chain.now g.result g.new.t
    g.new.marks g.new.chain (sym c.in_ok-input.was ∙ c.input.ensures)
    (followed_from a.start a.ops.now a.t.now z.new.t a.marks.now a.chain.now g.result
    g.new.t g.new.marks g.new.chain l g.ensures)

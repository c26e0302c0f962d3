-- `walk_call::go_on` meets its contract.
use Rattle.std.specs.Prelude.{Result}
use mathlib.Core.Path.{◌≡◌, ap, subst, ◌∙◌}
use Rattle.answer.specs.declared.Refusal.{Refusal}
use Rattle.std.proofs.lemmas.Result.{err_from_is_err_and}
use Rattle.walk_step.specs.declared.Walk.{Walk}
use Prim.Native.Nat.{ℕ}
use borrow.Author.Rules.{rules}
use lib.ListN.{length, replicate}
use Rattle.walk_run.specs.Runs.{Ended}
use Rattle.steps.specs.Operations.{survivors}
use Rattle.walk_call.proofs.CallLaws.{settled_of, followed_full, followed_all}
use Rattle.walk_call.proofs.go_on.Goals as goal

zeros : {m n : ℕ} → m ≡ n → replicate {A = ℕ} m 0 ≡ replicate n 0
zeros e = ap (λ (k : ℕ). replicate {A = ℕ} k 0) e

pub facts-requires : goal.facts-requires
facts-requires c =
    let a = c.args in
    let r = c.run in
    let e = subst (λ (x : Result Walk Refusal). Ended (length a.t.now) a.start a.ops.now r.new.t r.new.marks
    r.new.chain x) c.in_ok-w.was r.ensures in
    record { chain_steps = survivors a.ops.now; settled = settled_of a.start r.new.t r.new.chain (survivors a.ops.now) c.in_ok-w.w e.0 }

pub returns-in_err-w : goal.returns-in_err-w
returns-in_err-w c =
    let a = c.args in
    let r = c.run in
    let e = subst (λ (x : Result Walk Refusal). Ended (length a.t.now) a.start a.ops.now r.new.t r.new.marks
    r.new.chain x) c.in_err-w.was r.ensures in
    let q : length r.new.marks ≡ length a.marks.now = search rules in
    let o : length r.new.chain ≡ length a.chain.now = search rules in
    let p = err_from_is_err_and c.from_residual.result c.from_residual.ensures.1 in
    rw (p.1, p.2) (followed_full a.start a.ops.now a.t.now a.marks.now a.chain.now r.new.t
    r.new.marks r.new.chain c.in_err-w.field-0.0 e.0 e.1 (e.2 ∙ zeros q) (e.3 ∙ zeros o))

pub returns : goal.returns
returns c =
    let a = c.args in
    let r = c.run in
    let e = subst (λ (x : Result Walk Refusal). Ended (length a.t.now) a.start a.ops.now r.new.t r.new.marks
    r.new.chain x) c.in_ok-w.was r.ensures in
    let l : length r.new.t ≡ length a.t.now = search rules in
    let f = c.facts.ensures (survivors a.ops.now)
    (settled_of a.start r.new.t r.new.chain (survivors a.ops.now) c.in_ok-w.w e.0) in
    followed_all a.start a.ops.now a.t.now a.marks.now a.chain.now r.new.t
    r.new.marks r.new.chain c.in_ok-w.w c.facts.result e.0 e.1 e.2 e.3 l f

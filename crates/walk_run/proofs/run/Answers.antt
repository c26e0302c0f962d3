-- `walk_run::run` meets its contract.
use Rattle.std.specs.Prelude.{Result}
use mathlib.Core.Path.{◌≡◌, ap, subst, sym, ◌∙◌}
use Rattle.answer.specs.declared.Refusal.{Refusal}
use Rattle.walk_step.specs.declared.Walk.{Walk}
use Prim.Native.Nat.{ℕ}
use borrow.Author.Rules.{rules}
use lib.ListN.{length, replicate}
use Rattle.walk_run.specs.Runs.{PerformedAll}
use Rattle.walk_run.proofs.RunLaws.{ended-all, ended-steps, cleared_from-0}
use Rattle.walk_run.proofs.run.Goals as goal

zeros : {m n : ℕ} → m ≡ n → replicate {A = ℕ} m 0 ≡ replicate n 0
zeros e = ap (λ (k : ℕ). replicate {A = ℕ} k 0) e

pub zero_from-requires : goal.zero_from-requires
zero_from-requires c =
    let a = c.args in
    let b = c.perform_all in
    ended-steps (length a.t.now) a.start a.ops.now b.new.t b.new.marks
    b.new.chain c.in-Ok.w
    (subst (λ (x : Result Walk Refusal). PerformedAll (length a.t.now) a.start a.ops.now b.new.t b.new.marks
    b.new.chain x) c.in-Ok.is b.ensures)

pub returns-in-Ok : goal.returns-in-Ok
returns-in-Ok c =
    let a = c.args in
    let b = c.perform_all in
    let z = c.zero_from in
    let l : length b.new.chain ≡ length a.chain.now = search rules in
    ended-all (length a.t.now) a.start a.ops.now b.new.t b.new.marks
    b.new.chain c.in-Ok.w (l ∙ c.requires.chain_length)
    (subst (λ (x : Result Walk Refusal). PerformedAll (length a.t.now) a.start a.ops.now b.new.t b.new.marks
    b.new.chain x) c.in-Ok.is b.ensures) z.new.s z.ensures

pub returns-in-Err : goal.returns-in-Err
returns-in-Err c =
    let a = c.args in
    let b = c.perform_all in
    let e = subst (λ (x : Result Walk Refusal). PerformedAll (length a.t.now) a.start a.ops.now b.new.t
    b.new.marks b.new.chain x) c.in-Err.is b.ensures in
    let m = c.zero in
    let z = c.zero_from-in-Err in
    (e.0, e.1, m.ensures ∙ zeros (sym m.auto.t), cleared_from-0 b.new.chain z.new.s z.auto.s z.ensures)

-- `walk_run::perform_all` meets its contract.
use Rattle.std.specs.Prelude.{Err, None, Ok, Some}
use Rattle.std.proofs.lemmas.Result.{err_from_is_err_and}
use mathlib.Core.List.{List, []}
use mathlib.Core.Path.{◌≡◌, refl, ap, sym, ◌∙◌, subst}
use Prim.Native.Nat.{ℕ, ◌<◌}
use native.Mathlib.Omega.{arith}
use borrow.Author.Rules.{rules}
use lib.ListN.{length, get_or, replicate}
use Rattle.grid.specs.declared.Corner.{Corner}
use Rattle.steps.specs.Operations.{operate}
use Rattle.answer.specs.declared.Refusal.TheVariants.{NoRoom}
use Rattle.layout.specs.Table.{records_in}
use Rattle.walk.specs.Walk.{room_from}
use Rattle.walk_step.specs.declared.Walk.{Walk}
use Rattle.walk_step.specs.Walks.{fresh}
use Rattle.walk_run.specs.Runs.{Chained, Performed, PerformedAll}
use Rattle.walk_run.proofs.RunLaws.{Running, running_start, running_ready, running_full, running_next, running_end}
use Rattle.walk_run.proofs.perform_all.Goals as goal
use Rattle.walk_run.proofs.perform_all.Goals.{After-perform}

-- a fresh walk stands at its start
from : {c : Corner} {node : ℕ} {w : Walk} → w ≡ fresh c node → w.spot.at ≡ c
from e = ap (λ (w : Walk). w.spot.at) e

-- what an operation did, in the table's words at the start
performed : (c : After-perform) (x : Corner) (ds : List ℕ) → Chained x c.loop-i.t c.loop-i.chain ds c.loop-i.w
    → Performed (length c.args.t.now) c.loop-i.marks c.loop-i.i x c.perform.new.t c.perform.new.marks c.perform.new.chain ds
    (operate ds (get_or c.args.ops.now c.loop-i.i 0)) c.perform.result
performed c x ds h = rw (← c.loop-i.invariant.0) (c.perform.ensures x ds h)

pub loop-i-init : goal.loop-i-init
loop-i-init c =
    let a = c.args in
    (refl, c.requires.marks_length, c.requires.chain_length, omega arith, subst (λ (x : Corner). Running (length a.t.now) x a.ops.now a.t.now a.marks.now a.chain.now c.new-w.result 0) (sym (from c.new-w.ensures)) (running_start a.start a.node a.ops.now a.t.now a.marks.now a.chain.now c.requires c.new-w.result c.new-w.ensures))

pub perform-requires : goal.perform-requires
perform-requires c =
    let a = c.args in
    let l = c.loop-i in
    let W = length a.t.now in
    let C = c.new-w.result.spot.at in
    let m : l.i < length a.ops.now = omega (arith, c.loop-i-test.true) in
    (running_ready W C a.ops.now l.t l.marks l.chain l.w l.i l.invariant.4 m l.invariant.2 (omega (arith, l.invariant.0, c.requires.words)), omega (arith, m, l.invariant.1), omega (arith, m, c.requires.few))

pub returns-in_err-w : goal.returns-in_err-w
returns-in_err-w c =
    let d = c.new-w in
    let a = c.args in
    let l = c.loop-i in
    let W = length a.t.now in
    let C = d.result.spot.at in
    let m : l.i < length a.ops.now = omega (arith, c.loop-i-test.true) in
    let b = c.perform in
    let n : b.result ≡ None = grind arith in
    let o : c.in_err-w.field-0.0 ≡ NoRoom l.i = grind arith in
    let e = subst (λ (x : Corner). (room_from (records_in W) x 0 [] a.ops.now ≡ Err (NoRoom l.i)) × (b.new.t ≡ replicate W 0))
    (from d.ensures) (running_full W C a.ops.now l.t l.marks l.chain l.w l.i l.invariant.4 m b.new.t
    b.new.marks b.new.chain b.result (performed (goal.at.returns-in_err-w c).After-perform C) n) in
    let p = err_from_is_err_and c.from_residual.result c.from_residual.ensures.1 in
    rw (p.1, p.2, o) e

pub loop-i-preserved : goal.loop-i-preserved
loop-i-preserved c =
    let a = c.args in
    let l = c.loop-i in
    let W = length a.t.now in
    let C = c.new-w.result.spot.at in
    let m : l.i < length a.ops.now = omega (arith, c.loop-i-test.true) in
    let b = c.perform in
    let n : b.result ≡ Some c.in_ok-w.w = grind arith in
    let g = running_next W C a.ops.now l.t l.marks l.chain l.w l.i l.invariant.4 m b.new.t b.new.marks
    b.new.chain b.result (performed (goal.at.loop-i-preserved c).After-perform C) c.in_ok-w.w n (omega (arith, m, l.invariant.1)) in
    (g.0, g.1 ∙ l.invariant.1, search rules, omega (arith, m), g.2)

pub returns : goal.returns
returns c =
    let a = c.args in
    let l = c.loop-i in
    let n = c.new-w in
    subst (λ (x : Corner). PerformedAll (length a.t.now) x a.ops.now l.t l.marks l.chain (Ok l.w))
    (from n.ensures) (running_end (length a.t.now) n.result.spot.at a.ops.now l.t l.marks l.chain l.w
    l.i l.invariant.4 (omega (arith, c.loop-i-test.false)) l.invariant.1 l.invariant.3)

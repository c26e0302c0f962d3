-- `pair_back::drop_up` meets its contract.
use mathlib.Core.Path.{refl, ap, sym, ◌∙◌, subst}
use Prim.Native.Nat.{ℕ, ◌-◌, ◌<◌}
use native.Mathlib.Omega.{arith}
use Rattle.grid.specs.Tree.{size_of}
use Rattle.pair_words.specs.Places.{InTable}
use Rattle.pair_back.proofs.RoundLaws.{dropping_start, dropping_bound, dropping_up, dropping_some, dropping_falls, dropping_done, dropping_next}
use Rattle.pair_back.proofs.drop_up.Goals as goal

pub loop-here-init : goal.loop-here-init
loop-here-init c = let a = c.args in (refl, dropping_start a.t.now a.q a.s a.u a.c a.step)

pub own-requires : goal.own-requires
own-requires c =
    let l = c.loop-here in
    let a = c.args in
    let b = dropping_bound a.t.now a.q a.s a.u a.c a.step l.t l.left l.at l.here l.invariant.1
    c.requires.0 in
    (b.0, b.1, omega arith)

pub word-requires : goal.word-requires
word-requires c =
    let l = c.loop-here in
    let a = c.args in
    omega (arith, (dropping_bound a.t.now a.q a.s a.u a.c a.step l.t l.left l.at l.here l.invariant.1 c.requires.0).0)

pub overflow_sub-up : goal.overflow_sub-up
overflow_sub-up c =
    let l = c.loop-here in
    let a = c.args in
    omega (arith, (dropping_up a.t.now a.q a.s a.u a.c a.step l.t l.left l.at l.here l.invariant.1 c.requires.0 (sym c.own.ensures ∙ c.loop-here-test.true)).0, c.word.ensures)

pub leave-left-requires : goal.leave-left-requires
leave-left-requires c =
    let l = c.loop-here in
    let a = c.args in
    let e = sym c.own.ensures ∙ c.loop-here-test.true in
    let b = dropping_bound a.t.now a.q a.s a.u a.c a.step l.t l.left l.at l.here l.invariant.1
    c.requires.0 in
    let p = dropping_up a.t.now a.q a.s a.u a.c a.step l.t l.left l.at l.here l.invariant.1
    c.requires.0 e in
    (b.0, subst (λ (n : ℕ). InTable l.t (n - 1)) (sym c.word.ensures) p.1, b.1, dropping_some a.t.now a.q a.s a.u a.c a.step l.t l.left l.at l.here l.invariant.1 c.requires.0 e)

pub loop-here-smaller : goal.loop-here-smaller
loop-here-smaller c =
    let l = c.loop-here in
    let a = c.args in
    subst (λ y. size_of y < size_of l.here) (sym c.parent_of-here.ensures)
    (dropping_falls a.t.now a.q a.s a.u a.c a.step l.t l.left l.at l.here l.invariant.1
    c.requires.0 (sym c.own.ensures ∙ c.loop-here-test.true))

pub loop-here-preserved : goal.loop-here-preserved
loop-here-preserved c =
    let l = c.loop-here in
    let a = c.args in
    let n = c.leave-left in
    let w = c.word in
    (n.auto.t ∙ l.invariant.0, dropping_next a.t.now a.q a.s a.u a.c a.step l.t l.left l.at l.here l.invariant.1 (sym c.own.ensures ∙ c.loop-here-test.true) (w.result - 1) (ap (λ (m : ℕ). m - 1) w.ensures) n.new.t n.result n.ensures c.parent_of-here.result c.parent_of-here.ensures)

pub returns : goal.returns
returns c =
    let l = c.loop-here in
    let a = c.args in
    dropping_done a.t.now a.q a.s a.u a.c a.step l.t l.left l.at l.here l.invariant.1
    (λ e. c.loop-here-test.false (c.own.ensures ∙ e))

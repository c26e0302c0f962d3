-- `room_threads::follow` meets its contract.
use native.Mathlib.Omega.{arith}
use mathlib.Core.Path.{refl, sym, ap, ◌∙◌, subst}
use Prim.Native.Nat.{ℕ, ◌-◌}
use lib.ListN.{get_or, set, length-set}
use Rattle.room_thread_laws.specs.Threads.{Following}
use Rattle.room_thread_laws.proofs.ThreadLaws.{follow_start, follow_step, follow_twice, follow_end}
use Rattle.room_threads.proofs.follow.Goals as goal

pub loop-p-init : goal.loop-p-init
loop-p-init c =
    let a = c.args in
    (omega (arith, c.from-p.ensures), refl, subst (λ (m : ℕ). Following a.next.now a.hs.now a.stamps.now a.tag a.last m a.stamps.now) (sym c.from-p.ensures) (follow_start a.next.now a.hs.now a.stamps.now a.tag a.last))

pub bounds-hs-p : goal.bounds-hs-p
bounds-hs-p c = let l = c.loop-p in omega (arith, l.invariant.0, c.requires.0.both)

pub offset_bounds-stamps-h : goal.offset_bounds-stamps-h
offset_bounds-stamps-h c = record { fits = omega (arith, c.from-h.ensures) }

pub bounds-stamps-h : goal.bounds-stamps-h
bounds-stamps-h c =
    let l = c.loop-p in
    omega (arith, c.from-h.ensures, l.invariant.1, c.requires.0.heights (l.p - 1))

pub returns-then-stamps-h : goal.returns-then-stamps-h
returns-then-stamps-h c =
    let l = c.loop-p in
    let a = c.args in
    follow_twice a.next.now a.hs.now a.stamps.now a.tag a.last l.p l.stamps l.invariant.2 (l.p - 1)
    (omega arith) (ap (λ (m : ℕ). get_or l.stamps m 0) (sym c.from-h.ensures) ∙ c.if-stamps-h.true)

pub offset_bounds-stamps-h-in-loop-p : goal.offset_bounds-stamps-h-in-loop-p
offset_bounds-stamps-h-in-loop-p c = record { fits = omega (arith, c.from-h.ensures) }

pub bounds-stamps-h-in-loop-p : goal.bounds-stamps-h-in-loop-p
bounds-stamps-h-in-loop-p c =
    let l = c.loop-p in
    omega (arith, c.from-h.ensures, l.invariant.1, c.requires.0.heights (l.p - 1))

pub loop-p-smaller : goal.loop-p-smaller
loop-p-smaller c =
    let l = c.loop-p in
    omega (arith, c.from-p-in-loop-p.ensures, c.requires.0.falls (l.p - 1))

pub loop-p-preserved : goal.loop-p-preserved
loop-p-preserved c =
    let l = c.loop-p in
    let a = c.args in
    let h = c.from-h.ensures in
    let f = c.requires.0.falls (l.p - 1) in (
      omega (arith, c.from-p-in-loop-p.ensures, f, l.invariant.0),
      length-set l.stamps c.from-h.result a.tag ∙ l.invariant.1,
      subst (λ (m : ℕ). Following a.next.now a.hs.now a.stamps.now a.tag a.last m
          (set l.stamps c.from-h.result a.tag)) (sym c.from-p-in-loop-p.ensures)
          (subst (λ (m : ℕ). Following a.next.now a.hs.now a.stamps.now a.tag a.last (get_or a.next.now (l.p - 1) 0) (set l.stamps m a.tag)) (sym h)
          (follow_step a.next.now a.hs.now a.stamps.now a.tag a.last l.p l.stamps l.invariant.2 (l.p - 1) (omega arith) (λ e. c.if-stamps-h.false (ap (λ (m : ℕ). get_or l.stamps m 0) h ∙ e)) (omega (arith, l.invariant.1, c.requires.0.heights (l.p - 1))))),
    )

pub returns : goal.returns
returns c =
    let l = c.loop-p in
    let a = c.args in
    follow_end a.next.now a.hs.now a.stamps.now a.tag a.last l.p l.stamps l.invariant.2 (omega arith)

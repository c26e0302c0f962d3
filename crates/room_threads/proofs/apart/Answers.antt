-- `room_threads::apart` meets its contract.
use native.Mathlib.Omega.{arith}
use mathlib.Core.Path.{refl, sym, ◌∙◌, subst}
use mathlib.Core.Bool.{Bool}
use Prim.Native.Nat.{◌+◌}
use lib.ListN.{get_or}
use Rattle.room_thread_laws.specs.Threads.{Leads, ThreadFollowed}
use Rattle.room_thread_laws.proofs.ThreadLaws.{part_start, part_step, part_twice, part_end}
use Rattle.room_threads.proofs.apart.Goals as goal

pub loop-c-init : goal.loop-c-init
loop-c-init c = (refl, part_start c.args.head.now c.args.next.now c.args.hs.now c.args.stamps.now c.requires.3)

pub follow-requires : goal.follow-requires
follow-requires c =
    let l = c.loop-c in
    (subst (Leads c.args.next.now c.args.hs.now) (sym l.invariant.0) c.requires.0, c.requires.1 l.c)

pub returns-then-not-follow : goal.returns-then-not-follow
returns-then-not-follow c =
    let l = c.loop-c in
    let a = c.args in
    let f = c.follow in
    part_twice a.head.now a.next.now a.hs.now l.c l.stamps f.new.stamps l.invariant.1 (omega arith)
    (subst (λ (b : Bool). ThreadFollowed a.next.now a.hs.now l.stamps (l.c + 1) (get_or a.head.now l.c 0) b
    f.new.stamps) c.if-not-follow.true f.ensures)

pub loop-c-preserved : goal.loop-c-preserved
loop-c-preserved c =
    let l = c.loop-c in
    let a = c.args in
    let f = c.follow in (
      f.auto.stamps ∙ l.invariant.0,
      part_step a.head.now a.next.now a.hs.now l.c l.stamps f.new.stamps l.invariant.1 (omega arith)
          (subst (λ (b : Bool). ThreadFollowed a.next.now a.hs.now l.stamps (l.c + 1) (get_or a.head.now l.c 0) b
          f.new.stamps) c.if-not-follow.false f.ensures),
    )

pub returns : goal.returns
returns c =
    let l = c.loop-c in
    let a = c.args in
    part_end a.head.now a.next.now a.hs.now l.c l.stamps l.invariant.1 (omega arith)

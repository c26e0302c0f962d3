-- `lines::fill` meets its contract.
use mathlib.Core.Path.{ap, subst, ◌∙◌}
use mathlib.Core.List.{List}
use mathlib.Core.Logic.{inl, inr}
use Prim.Native.Nat.{ℕ, ◌+◌, ◌≤◌}
use native.Mathlib.Omega.{arith}
use lib.ListN.{length, take, drop, length-take, length-drop}
use Rattle.line_stream.specs.Fill.{FedLine}
use Rattle.line_stream.proofs.StreamLaws.{take-rest}
use Rattle.line_stream.proofs.FillLaws.{filling_start, filling_next, filling_done, falls}
use Rattle.lines.specs.Tasks.{job_of}
use Rattle.lines.proofs.TaskLaws.{job_does, room_line}
use Rattle.lines.proofs.fill.Goals as goal

pub loop-p-init : goal.loop-p-init
loop-p-init c =
    let a = c.args in
    (omega arith, c.requires.at_in_bounds.1, c.most-room.ensures, filling_start (job_of a.task) a.line.now a.s.now a.out.now a.held a.at (omega arith) (omega arith))

pub returns-then-out-used : goal.returns-then-out-used
returns-then-out-used c =
    let l = c.loop-p in
    let a = c.args in
    filling_done (job_of a.task) a.line.now a.held a.s.now a.at a.out.now l.line l.out l.p
    l.invariant.3 (inr (omega (arith, c.if-out-used.true, l.invariant.2, l.invariant.3.long, l.invariant.3.room)))

pub feed_line-p-requires : goal.feed_line-p-requires
feed_line-p-requires c =
    let l = c.loop-p in
    let q = l.invariant.3 in
    record {
      held_le_most_held = (q.most, q.wide ∙ l.invariant.0);
      s_in_bounds = omega (arith, ap length (take-rest c.args.s.now l.p.at), length-drop l.p.at c.args.s.now, q.to, l.invariant.1);
      task_in_bounds = omega (arith, c.if-out-used.false, q.room, l.invariant.2);
    }

pub loop-p-smaller : goal.loop-p-smaller
loop-p-smaller c =
    let f = c.feed_line-p in
    let l = c.loop-p in
    let a = c.args in
    let s = a.s.now in
    let fed = subst (λ (q : List ℕ). FedLine (job_of a.task) l.line l.p.held q l.p.at l.out l.p.used f.result f.new.line f.new.out) (take-rest s l.p.at) f.ensures in
    falls (job_of a.task) a.line.now a.held s a.at a.out.now l.line l.out l.p l.invariant.3 f.result f.new.line f.new.out fed c.loop-p-test.true

pub loop-p-preserved : goal.loop-p-preserved
loop-p-preserved c =
    let f = c.feed_line-p in
    let l = c.loop-p in
    let a = c.args in
    let s = a.s.now in
    let q = l.invariant.3 in
    let fed = subst (λ (q : List ℕ). FedLine (job_of a.task) l.line l.p.held q l.p.at l.out l.p.used f.result f.new.line f.new.out) (take-rest s l.p.at) f.ensures in
    let room : l.p.used + (job_of a.task).most ≤ length l.out = omega (arith, c.if-out-used.false, q.room, l.invariant.2) in (
      l.invariant.0,
      l.invariant.1,
      l.invariant.2,
      filling_next (job_of a.task) a.line.now a.held s a.at a.out.now l.line l.out l.p q
          f.result f.new.line f.new.out fed (job_does a.task) room
          (room_line a.task (take l.p.held l.line) (drop l.p.at s) (omega (arith, length-take l.p.held l.line, q.most))
          (omega (arith, length-drop l.p.at s, l.invariant.1)) l.p.used room)
          f.auto.line c.loop-p-test.true,
    )

pub returns : goal.returns
returns c =
    let l = c.loop-p in
    let a = c.args in
    filling_done (job_of a.task) a.line.now a.held a.s.now a.at a.out.now l.line l.out l.p
    l.invariant.3 (inl (omega (arith, c.loop-p-test.false, l.invariant.3.to)))

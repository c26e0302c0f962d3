-- `lines::feed_line` meets its contract.
use mathlib.Core.Path.{sym}
use native.Mathlib.Omega.{arith}
use lib.ListN.{take, length-take}
use lib.Seq.{length-take-le}
use Rattle.line_stream.proofs.StreamLaws.{line_length_most}
use Rattle.line_stream.proofs.FillLaws.{fed_held, fed_ended}
use Rattle.lines.specs.Tasks.{job_of}
use Rattle.lines.proofs.TaskLaws.{job_does, room_line}
use Rattle.lines.proofs.feed_line.Goals as goal

pub slice_bounds-tell_early-end-3 : goal.slice_bounds-tell_early-end-3
slice_bounds-tell_early-end-3 c = sym (length-take-le c.line_end-end.result c.args.s.now (omega (arith, c.line_end-end.ensures, line_length_most c.args.s.now)))

pub slice_bounds-hold-end : goal.slice_bounds-hold-end
slice_bounds-hold-end c = sym (length-take-le c.line_end-end.result c.args.s.now (omega (arith, c.line_end-end.ensures, line_length_most c.args.s.now)))

pub overflow_add-result : goal.overflow_add-result
overflow_add-result c = record { fits = omega (arith, c.line_end-end.ensures, line_length_most c.args.s.now, c.requires.s_in_bounds) }

pub returns-then-s-end : goal.returns-then-s-end
returns-then-s-end c =
    let h = c.hold-kept in
    let t = c.tell_early-next in
    let a = c.args in
    fed_held (job_of a.task) a.line.now a.s.now a.out.now a.held a.at a.used c.line_end-end.result c.line_end-end.ensures h.result t.result h.new.line t.new.out
    c.requires.held_le_most_held.1 c.if-s-end.true h.ensures t.ensures

pub returns : goal.returns
returns c =
    let r = c.tell_end-last in
    let t = c.tell_early-next in
    let a = c.args in
    fed_ended (job_of a.task) a.line.now a.s.now a.out.now a.held a.at a.used c.line_end-end.result c.line_end-end.ensures (job_does a.task) (omega (arith, c.if-s-end.false))
    (room_line a.task (take a.held a.line.now) a.s.now (omega (arith, length-take a.held a.line.now, c.requires.held_le_most_held.0)) (omega (arith, c.requires.s_in_bounds)) a.used c.requires.task_in_bounds)
    t.result r.result r.new.line t.new.out r.new.out t.ensures r.ensures.wrote r.ensures.line_after

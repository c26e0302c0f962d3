-- `line_io::close` meets its contract: the output is long enough.
use Rattle.std.specs.Prelude.{Err}
use Rattle.std.proofs.Common.{rules, ◌≡◌, ◌≤◌, length, arith, sym, subst, take, length-take, length-take-le}
use Rattle.std.specs.Io.KnownBytes.{Appends}
use Rattle.lines.specs.Tasks.{handed_of}
use Rattle.lines.proofs.TaskLaws.{last_most}
use Rattle.line_io.proofs.SendLaws.{wrote_start}
use Rattle.line_io.proofs.close.Goals as goal

pub slice_bounds-send-end : goal.slice_bounds-send-end
slice_bounds-send-end g c =
    let a = c.args in
    omega (arith, last_most a.task (take a.held a.line.now) (omega (arith, length-take a.held a.line.now)), c.finish-used.ensures.end, c.finish-used.auto.out)

pub slice_bounds-send-end-2 : goal.slice_bounds-send-end-2
slice_bounds-send-end-2 g c = sym (length-take-le c.finish-used.result c.finish-used.new.out (slice_bounds-send-end g c))

pub returns-clause-bytes : goal.returns-clause-bytes
returns-clause-bytes g c =
    let a = c.args in
    let f = c.finish-used in
    let fits : f.result ≤ length f.new.out =
    omega (arith, last_most a.task (take a.held a.line.now) (omega (arith, length-take a.held a.line.now)), f.ensures.end, f.auto.out)
    in
    subst (λ w. Appends (g.W.Write.contents a.writer.now) (g.W.Write.contents c.send.new.writer) (handed_of a.task a.m w))
    (wrote_start f.ensures f.auto.out fits) c.in_ok-send.ensures.bytes

pub returns-in_err-send-clause-bytes : goal.returns-in_err-send-clause-bytes
returns-in_err-send-clause-bytes g c =
    let r : c.from_residual.result ≡ Err c.in_err-send.field-0.0 = search rules in
    rw r c.in_err-send.ensures.at

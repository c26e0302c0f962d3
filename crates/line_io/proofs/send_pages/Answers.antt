-- `line_io::send_pages` meets its contract.
use Rattle.std.specs.Prelude.{Err}
use Rattle.std.proofs.Common.{rules, ◌≡◌, ◌+◌, ◌-◌, ◌++◌, [], take, drop, arith, subst, refl}
use Rattle.std.specs.Io.KnownBytes.{Appends}
use Rattle.std.proofs.KnownBytes.{Appends-nil, Appends-trans}
use Rattle.sheet.specs.Sheet.{page_of}
use Rattle.line_io.proofs.SendLaws.{pages_more, bytes_more, bytes_done}
use Rattle.line_io.proofs.send_pages.Goals as goal

pub loop-next-init : goal.loop-next-init
loop-next-init g c = ([], omega arith, refl, Appends-nil (g.W.Write.contents c.args.writer.now), refl)

pub loop-next-preserved : goal.loop-next-preserved
loop-next-preserved g c =
    let l = c.loop-next in
    let (w, in_bounds, stands, given, whole) = l.invariant in
    let s = c.args.s.now in
    let end = l.at + c.min.result in
    let r = c.send_page.ensures in
    let e = c.in_ok-next.was in
    let held = g.W.Write.contents in (
      w ++ page_of l.next (take (end - l.at) (drop l.at s)),
      omega arith,
      pages_more s c.args.m l.next c.in_ok-next.next l.at end (omega arith) stands r.at e,
      Appends-trans (held c.args.writer.now) (held l.writer) (held c.send_page.new.writer) w (page_of l.next (take (end - l.at) (drop l.at s))) given
          c.in_ok-next.ensures.bytes,
      bytes_more s c.args.m l.next c.in_ok-next.next l.at end (omega arith) stands r.at e w (page_of c.args.m s) whole,
    )

pub returns-then-s-end-clause-bytes : goal.returns-then-s-end-clause-bytes
returns-then-s-end-clause-bytes g c =
    let l = c.loop-next in
    let (w, in_bounds, stands, given, whole) = l.invariant in
    let s = c.args.s.now in
    let end = l.at + c.min.result in
    let held = g.W.Write.contents in
    subst (Appends (held c.args.writer.now) (held c.send_page.new.writer))
    (bytes_done s l.next l.at end w (page_of c.args.m s) (omega arith) c.if-s-end.true whole)
    (Appends-trans (held c.args.writer.now) (held l.writer) (held c.send_page.new.writer) w (page_of l.next (take (end - l.at) (drop l.at s))) given
    c.in_ok-next.ensures.bytes)

pub returns-in_err-next : goal.returns-in_err-next
returns-in_err-next g c =
    let r : c.from_residual.result ≡ Err c.in_err-next.field-0.0 = search rules in
    rw r (record { at = c.in_err-next.ensures.at; bytes = tt })

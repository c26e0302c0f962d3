-- `line_io::send_page` meets its contract.
use Rattle.std.proofs.Common.{rules, ◌≡◌, ◌≤◌, length, arith, sym, subst, length-take-le}
use Rattle.std.specs.Io.KnownBytes.{Appends}
use Rattle.sheet_number.specs.Numbered.{most_page}
use Rattle.line_io.proofs.SendLaws.{page_fits, wrote_start}
use Rattle.line_io.proofs.send_page.Goals as goal

pub shared_ref_as_front-write_all : goal.shared_ref_as_front-write_all
shared_ref_as_front-write_all g c = page_fits c.args.m c.args.s.now c.requires c.number-n.ensures

pub slice_bounds-write_all-end : goal.slice_bounds-write_all-end
slice_bounds-write_all-end g c =
    let n = c.number-n in
    let l : length c.args.page.now ≡ most_page = search rules in
    let fits : n.result.used ≤ length n.new.out = omega (arith, page_fits c.args.m c.args.s.now c.requires n.ensures, n.auto.out) in
    sym (length-take-le n.result.used n.new.out fits)

pub returns-clause-bytes : goal.returns-clause-bytes
returns-clause-bytes g c =
    let n = c.number-n in
    let l : length c.args.page.now ≡ most_page = search rules in
    let fits : n.result.used ≤ length n.new.out = omega (arith, page_fits c.args.m c.args.s.now c.requires n.ensures, n.auto.out) in
    subst (Appends (g.W.Write.contents c.args.writer.now) (g.W.Write.contents c.write_all.new.self))
    (wrote_start n.ensures.output n.auto.out fits)
    (search rules)

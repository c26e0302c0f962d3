-- `row_spans::put_rows` meets its contract.
use native.Mathlib.Omega.{arith}
use lib.ListN.{length}
use Rattle.row_bucket_laws.proofs.WriteLaws.{sheet-start, sheet_line, sheet_step, sheet_end}
use Rattle.row_spans.proofs.SpanLaws.{base_is, base_fits}
use Rattle.row_spans.proofs.put_rows.Goals as goal

pub loop-h-init : goal.loop-h-init
loop-h-init c =
    let a = c.args in
    λ key foot done p e. sheet-start a.start a.m a.end key foot done a.out.now

pub row_base-corner-requires : goal.row_base-corner-requires
row_base-corner-requires c = (c.requires.1, c.requires.2, omega (arith, c.requires.3))

pub invariant_of-base : goal.invariant_of-base
invariant_of-base c = record { near = base_fits c.args.start c.row_base-corner.result c.args.m c.requires.1 (omega arith) c.row_base-corner.ensures }

pub put_row-o-requires : goal.put_row-o-requires
put_row-o-requires c =
    let l = c.loop-h in
    let a = c.args in
    let r = c.requires.0 in
    sheet_line (l.invariant r.key r.foot r.done r.poured r.even) a.next.now a.at.now a.row.now (length l.out) (omega arith) r.within r.poured r.even (omega (arith, r.fits, l.auto.out)) r.store

pub loop-h-preserved : goal.loop-h-preserved
loop-h-preserved c =
    let l = c.loop-h in
    let a = c.args in
    let b = c.row_base-corner in
    let u = c.put_row-o in
    λ key foot done p e. sheet_step (l.invariant key foot done p e) a.next.now a.at.now a.row.now b.result u.result u.new.out (omega arith) c.requires.0.within p e (base_is a.start b.result a.m l.h b.ensures) u.ensures

pub returns : goal.returns
returns c = λ key foot done p e. sheet_end (c.loop-h.invariant key foot done p e) (omega arith)

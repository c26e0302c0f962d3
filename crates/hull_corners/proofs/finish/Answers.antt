-- `hull_corners::finish` meets its contract.
use native.Mathlib.Omega.{arith}
use lib.ListN.{length}
use Rattle.hull_corners.proofs.PartsLaws.{close_ge, chained_parts, listed_short, listed_enough}
use Rattle.hull_corners.proofs.finish.Goals as goal

pub slice_bounds-part-count : goal.slice_bounds-part-count
slice_bounds-part-count c = close_ge c.requires.1 c.seam-f.result c.close-g.result c.seam-f.ensures c.close-g.ensures

pub slice_bounds-part-start : goal.slice_bounds-part-start
slice_bounds-part-start c = omega (arith, close_ge c.requires.1 c.seam-f.result c.close-g.result c.seam-f.ensures c.close-g.ensures)

pub returns-then-out-count : goal.returns-then-out-count
returns-then-out-count c =
    let a = c.args in
    let s = c.seam-f in
    listed_short c.requires.1 s.result c.close-g.result s.ensures c.close-g.ensures a.start
    a.out.now c.if-out-count.true

pub write-requires : goal.write-requires
write-requires c =
    let p = c.requires in
    let s = c.seam-f in
    (p.0, chained_parts p.1 s.result c.close-g.result s.ensures c.close-g.ensures (length c.args.out.now) c.if-out-count.false)

pub returns : goal.returns
returns c =
    let a = c.args in
    let s = c.seam-f in
    let b = c.close-g in
    listed_enough c.requires.1 s.result b.result s.ensures b.ensures a.start a.out.now
    c.write.new.out c.if-out-count.false c.write.ensures

-- `hull_corners::ends` meets its contract.
use native.Mathlib.Omega.{arith}
use Rattle.hull_corners.proofs.PartsLaws.{ends-short, ends_base, ends_enough}
use Rattle.hull_corners.proofs.ends.Goals as goal

pub returns-then-out-lt4 : goal.returns-then-out-lt4
returns-then-out-lt4 c = ends-short c.args.start c.args.extent.west c.args.extent.east c.args.out.now (omega arith)

pub put_corner-requires : goal.put_corner-requires
put_corner-requires c =
    let k = ends_base c.args.start c.placed-base.result c.placed-base.ensures c.requires.0 in
    (omega arith, k.0, k.1, omega arith)

pub put_corner-requires-2 : goal.put_corner-requires-2
put_corner-requires-2 c =
    let k = ends_base c.args.start c.placed-base.result c.placed-base.ensures c.requires.0 in
    (omega (arith, c.put_corner.auto.out), k.0, k.1, omega arith)

pub returns : goal.returns
returns c =
    let p = c.placed-base in
    let a = c.put_corner in
    ends_enough c.args.start c.args.extent.west c.args.extent.east p.result c.args.out.now
    a.new.out c.put_corner-2.new.out p.ensures (omega arith) a.ensures
    c.put_corner-2.ensures

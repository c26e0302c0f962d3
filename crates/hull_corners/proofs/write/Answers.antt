-- `hull_corners::write` meets its contract.
use lib.ListN.{length}
use Rattle.hull_corners.proofs.PartsLaws.{puts_lower, puts_upper, both_written}
use Rattle.hull_corners.proofs.write.Goals as goal

pub put-requires : goal.put-requires
put-requires c =
    puts_lower c.args.start c.requires.0 c.requires.1 c.placed-first.result
    c.placed-first.ensures

pub put-requires-2 : goal.put-requires-2
put-requires-2 c =
    let p = c.requires in
    let a = c.placed-last in
    puts_upper c.args.start p.0 p.1 a.result (length c.put.new.out) a.ensures
    c.put.auto.out

pub returns : goal.returns
returns c =
    let a = c.args in
    let p = c.placed-first in
    let b = c.placed-last in
    let d = c.put in
    both_written a.start a.extent.west a.extent.east a.lo.now a.hi.now a.s.now a.t.now
    p.result b.result a.out.now d.new.out c.put-2.new.out p.ensures b.ensures
    d.ensures c.put-2.ensures

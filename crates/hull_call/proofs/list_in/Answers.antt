-- `hull_call::list_in` meets its contract.
use Rattle.hull_call.proofs.ListLaws.{chained, hulled}
use Rattle.hull_call.proofs.list_in.Goals as goal

pub finish-requires : goal.finish-requires
finish-requires c =
    let a = c.scan-a in
    let b = c.scan-b in
    let f = c.fill in
    (c.requires.1, chained c.requires.0 c.requires.2 f.new.lo f.new.hi a.new.s b.new.s a.result b.result f.ensures.0 f.ensures.1 a.auto.s b.auto.s a.ensures b.ensures)

pub returns : goal.returns
returns c =
    let f = c.fill in
    hulled c.requires.0 c.requires.2 c.args.start f.new.lo f.new.hi
    c.args.out.now c.finish.new.out c.finish.result f.ensures.0
    f.ensures.1 c.finish.ensures

-- `outline_call::write_in` meets its contract.
use native.Mathlib.Omega.{arith}
use Rattle.outline_path.proofs.RingLaws.{ring_of, home_small}
use Rattle.outline_call.proofs.ScanLaws.{traced_short, traced_written}
use Rattle.outline_call.proofs.write_in.Goals as goal

pub first_way-first-requires : goal.first_way-first-requires
first_way-first-requires c =
    let f = c.build-home in
    home_small c.args.chain.now f.new.links f.result
    (omega (arith, c.requires.0.room, c.requires.0.small))
    (omega (arith, f.auto.links, c.requires.0.room, c.requires.0.words)) f.ensures

pub count-n-requires : goal.count-n-requires
count-n-requires c =
    let f = c.build-home in
    ring_of c.args.chain.now f.new.links f.result c.first_way-first.result c.requires.1
    (omega (arith, c.requires.0.room, c.requires.0.small))
    (omega (arith, f.auto.links, c.requires.0.room, c.requires.0.words)) f.ensures
    c.first_way-first.ensures

pub returns-then-out-n : goal.returns-then-out-n
returns-then-out-n c =
    traced_short c.args.chain.now c.args.out.now c.count-n.result c.count-n.ensures
    c.if-out-n.true

pub put-requires : goal.put-requires
put-requires c =
    let a = c.first_way-first in
    let f = c.build-home in
    (ring_of c.args.chain.now f.new.links f.result a.result c.requires.1 (omega (arith, c.requires.0.room, c.requires.0.small)) (omega (arith, f.auto.links, c.requires.0.room, c.requires.0.words)) f.ensures a.ensures, c.count-n.ensures, c.if-out-n.false)

pub returns : goal.returns
returns c =
    let a = c.count-n in
    traced_written c.args.chain.now c.args.out.now c.put.new.out a.result
    a.ensures c.if-out-n.false c.put.ensures

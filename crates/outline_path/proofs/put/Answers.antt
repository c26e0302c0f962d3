-- `outline_path::put` meets its contract.
use native.Mathlib.Omega.{arith}
use Rattle.grid.specs.Grid.{origin}
use Rattle.outline_path.proofs.RingLaws.{at_link, at-to, writing_start, writing_next, writing_end}
use Rattle.outline_path.proofs.put.Goals as goal

pub loop-k-init : goal.loop-k-init
loop-k-init c =
    writing_start c.requires.0 c.args.out.now

pub follow-i-requires : goal.follow-i-requires
follow-i-requires c =
    let l = c.loop-k in
    at_link origin c.requires.0 l.k l.i l.d (l.invariant.at origin)

pub turn-d-requires : goal.turn-d-requires
turn-d-requires c =
    let l = c.loop-k in
    at-to origin c.requires.0 l.k l.i l.d
    (l.invariant.at origin) c.follow-i.result c.follow-i.ensures

pub loop-k-preserved : goal.loop-k-preserved
loop-k-preserved c =
    let a = c.args in
    let p = c.requires in
    let l = c.loop-k in
    writing_next c.requires.0 a.out.now l.out l.k l.i l.d l.invariant (omega (arith, c.loop-k-test.true, p.2))
    c.follow-i.result c.turn-d.result c.follow-i.ensures c.turn-d.ensures

pub returns : goal.returns
returns c =
    let a = c.args in
    let p = c.requires in
    let l = c.loop-k in
    writing_end c.requires.0 a.out.now l.out l.k l.i l.d
    l.invariant a.n p.1 (omega (arith, l.auto.k-end, c.loop-k-test.false))

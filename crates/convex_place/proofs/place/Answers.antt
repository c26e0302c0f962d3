-- `convex_place::place` meets its contract.
use native.Mathlib.Omega.{arith}
use Rattle.convex_place.proofs.FindLaws.{seeks_start, seeks_near, seeks_step, seeks_end}
use Rattle.convex_place.proofs.place.Goals as goal

pub loop-i-init : goal.loop-i-init
loop-i-init c =
    let a = c.args in
    seeks_start a.chain.now a.turn c.number_at-least.result c.number_at-least.ensures

pub column-x-requires : goal.column-x-requires
column-x-requires c = let w = c.loop-i.invariant in (omega (arith, w.west), omega (arith, w.east))

pub height-y-requires : goal.height-y-requires
height-y-requires c = let w = c.loop-i.invariant in (omega (arith, w.south), omega (arith, w.north))

pub number_at-requires : goal.number_at-requires
number_at-requires c =
    let l = c.loop-i in
    let a = c.args in
    seeks_near a.chain.now a.turn l.x l.y l.least l.i l.invariant c.column-x.result c.height-y.result
    (omega arith) (omega arith) c.column-x.ensures c.height-y.ensures

pub loop-i-preserved : goal.loop-i-preserved
loop-i-preserved c =
    let l = c.loop-i in
    let a = c.args in
    let x = c.column-x in
    let y = c.height-y in
    let n = c.number_at in
    seeks_step a.chain.now a.turn l.x l.y l.least l.i l.invariant x.result y.result n.result
    c.min-least.result (omega arith) (omega arith) x.ensures y.ensures n.ensures c.min-least.ensures

pub returns : goal.returns
returns c =
    let l = c.loop-i in
    let a = c.args in
    seeks_end a.chain.now a.turn l.x l.y l.least l.i l.invariant (omega arith)

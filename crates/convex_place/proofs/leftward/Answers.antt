-- `convex_place::leftward` meets its contract.
use native.Mathlib.Omega.{arith}
use lib.ListN.{get_or}
use Rattle.convex_place.proofs.SumLaws.{north_le, south_le, sums_start, sums_step, sums_end}
use Rattle.convex_place.proofs.leftward.Goals as goal

pub loop-d-init : goal.loop-d-init
loop-d-init c = sums_start c.args.chain.now

pub north-up-requires : goal.north-up-requires
north-up-requires c = let w = c.loop-d.invariant in omega (arith, w.east)

pub overflow_add-up : goal.overflow_add-up
overflow_add-up c =
    let l = c.loop-d in
    let a = c.args in
    omega (arith, c.north-up.ensures, north_le l.x (get_or a.chain.now l.d-index 0), l.invariant.east, l.invariant.up_most)

pub south-down-requires : goal.south-down-requires
south-down-requires c = let w = c.loop-d.invariant in omega (arith, w.east)

pub overflow_add-down : goal.overflow_add-down
overflow_add-down c =
    let l = c.loop-d in
    let a = c.args in
    omega (arith, c.south-down.ensures, south_le l.x (get_or a.chain.now l.d-index 0), l.invariant.east, l.invariant.down_most)

pub column-x-requires : goal.column-x-requires
column-x-requires c = let w = c.loop-d.invariant in (omega (arith, w.west), omega (arith, w.east))

pub loop-d-preserved : goal.loop-d-preserved
loop-d-preserved c =
    let l = c.loop-d in
    let a = c.args in
    sums_step a.chain.now l.x l.up l.down l.d-index l.invariant (omega arith) (omega arith) c.column-x.result
    c.north-up.result c.south-down.result c.column-x.ensures c.north-up.ensures c.south-down.ensures

pub returns : goal.returns
returns c =
    let l = c.loop-d in
    sums_end c.args.chain.now l.x l.up l.down l.d-index l.invariant (omega arith)

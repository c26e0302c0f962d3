-- `polygon_ring_call::Points::put_chain` meets its contract.
use Rattle.polygon_ring_laws.proofs.RingLaws.{part_room, chaining_first, chaining_room, chaining_more, chaining_last, near-at}
use Rattle.polygon_ring_laws.proofs.PointLaws.{good_at}
use Rattle.polygon_ring_laws.specs.Reading.{PointFits}
use Prim.Native.Nat.{ℕ}
use lib.ListN.{length}
use native.Mathlib.Omega.{arith}
use Prim.Native.Nat.{◌+◌, ◌≤◌}
use mathlib.Core.Path.{sym, subst}
use Rattle.polygon_ring_call.proofs.Points.put_chain.Goals as goal

pub loop-i-init : goal.loop-i-init
loop-i-init c =
    chaining_first c.args.self.now.little c.args.self.now.bytes.now c.args.self.now.n c.args.out.now
    c.args.start c.requires.0 c.requires.3

pub corner-b-requires : goal.corner-b-requires
corner-b-requires c =
    let at = c.loop-i in
    (at.invariant.some, c.loop-i-test.true, good_at c.args.self.now.little c.args.self.now.bytes.now c.args.self.now.n at.i c.requires.2 c.loop-i-test.true)

pub distance-k-requires : goal.distance-k-requires
distance-k-requires c =
    (c.loop-i.invariant.near, subst PointFits (sym c.corner-b.ensures) (near-at c.args.self.now.little c.args.self.now.bytes.now c.loop-i.i))

pub slice_bounds-fill-count : goal.slice_bounds-fill-count
slice_bounds-fill-count c =
    let at = c.loop-i in
    let b = c.corner-b in
    let room = chaining_room c.args.self.now.little c.args.self.now.bytes.now c.args.self.now.n c.args.out.now
    at.out at.a b.result at.at at.i c.loop-i-test.true b.ensures c.requires.1 at.invariant in
    omega (arith, room)

pub slice_bounds-fill-start : goal.slice_bounds-fill-start
slice_bounds-fill-start c =
    let at = c.loop-i in
    let b = c.corner-b in
    let room = chaining_room c.args.self.now.little c.args.self.now.bytes.now c.args.self.now.n c.args.out.now
    at.out at.a b.result at.at at.i c.loop-i-test.true b.ensures c.requires.1 at.invariant in
    omega (arith, room)

pub slice_bounds-fill-end : goal.slice_bounds-fill-end
slice_bounds-fill-end c =
    let at = c.loop-i in
    let b = c.corner-b in
    let room = chaining_room c.args.self.now.little c.args.self.now.bytes.now c.args.self.now.n c.args.out.now
    at.out at.a b.result at.at at.i c.loop-i-test.true b.ensures c.requires.1 at.invariant in
    omega (arith, room)

pub direction-requires : goal.direction-requires
direction-requires c =
    (c.loop-i.invariant.near, subst PointFits (sym c.corner-b.ensures) (near-at c.args.self.now.little c.args.self.now.bytes.now c.loop-i.i))

pub fill-requires : goal.fill-requires
fill-requires c =
    let at = c.loop-i in
    let b = c.corner-b in
    let room = chaining_room c.args.self.now.little c.args.self.now.bytes.now c.args.self.now.n c.args.out.now
    at.out at.a b.result at.at at.i c.loop-i-test.true b.ensures c.requires.1
    at.invariant in
    part_room at.out at.at c.distance-k.result
    (subst (λ (k : ℕ). at.at + k ≤ length at.out) (sym c.distance-k.ensures) room)

pub overflow_add-at : goal.overflow_add-at
overflow_add-at c =
    let at = c.loop-i in
    let b = c.corner-b in
    let room = chaining_room c.args.self.now.little c.args.self.now.bytes.now c.args.self.now.n c.args.out.now
    at.out at.a b.result at.at at.i c.loop-i-test.true
    b.ensures c.requires.1 at.invariant in
    record { fits = omega (arith, room, c.distance-k.ensures) }

pub loop-i-preserved : goal.loop-i-preserved
loop-i-preserved c =
    let at = c.loop-i in
    let b = c.corner-b in
    chaining_more c.args.self.now.little c.args.self.now.bytes.now c.args.self.now.n c.args.out.now at.out
    at.a b.result at.at at.i c.loop-i-test.true b.ensures c.requires.1 at.invariant
    c.distance-k.result c.direction.result c.fill.new.buf c.distance-k.ensures
    c.direction.ensures c.fill.ensures

pub shape_of-out : goal.shape_of-out
shape_of-out c = c.loop-i.invariant.laid.same

pub returns : goal.returns
returns c =
    chaining_last c.args.self.now.little c.args.self.now.bytes.now c.args.self.now.n c.args.out.now
    c.loop-i.out c.loop-i.a c.loop-i.at c.loop-i.i c.requires.0 (omega arith)
    c.loop-i.invariant

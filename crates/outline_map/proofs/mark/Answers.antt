-- `outline_map::mark` meets its contract.
use Rattle.std.proofs.Common.{◌≡◌, ℕ, ◌<◌, List, length, refl, arith}
use Rattle.grid.specs.declared.Corner.{Corner}
use Rattle.grid.specs.Grid.{origin}
use Rattle.outline_map.specs.Map.{MapBlank, Placed}
use Rattle.outline_map.proofs.MarkLaws.{Marking, marking_start, marking_inside, marking_next, marking_end}
use Rattle.outline_map.proofs.mark.Goals as goal

-- the place is in the map, from what the loop keeps
inside : {chain by map now : List ℕ} {from b home last i : ℕ} → MapBlank chain from by map
    → ((a : Corner) (at : Corner → ℕ) → from ≡ at a → Placed a chain by (length map) at → Marking a chain at now b home last i) → b < length map
inside {chain} {by} {map} {now} {from} {b} {home} {last} {i} r f =
    let q = r.placed origin in
    marking_inside origin chain by (length map) q.0 q.2 now b home last i (f origin q.0 q.1 q.2)

pub loop-d-init : goal.loop-d-init
loop-d-init c a at e p =
    marking_start a c.args.chain.now c.args.by.now (length c.args.map.now) at p c.args.from c.args.map.now e refl c.requires.nothing

pub bounds-map-b : goal.bounds-map-b
bounds-map-b c = omega (arith, c.loop-d.auto.map, inside c.requires c.loop-d.invariant)

pub bit-requires : goal.bit-requires
bit-requires c = c.requires.digits c.loop-d.d-index

pub bounds-map-b-in-loop-d : goal.bounds-map-b-in-loop-d
bounds-map-b-in-loop-d c = omega (arith, c.loop-d.auto.map, inside c.requires c.loop-d.invariant)

pub go-b-requires : goal.go-b-requires
go-b-requires c = omega (arith, c.requires.digits c.loop-d.d-index, c.requires.four)

pub bit_back-last-requires : goal.bit_back-last-requires
bit_back-last-requires c = c.requires.digits c.loop-d.d-index

pub loop-d-preserved : goal.loop-d-preserved
loop-d-preserved c a at e p =
    let l = c.loop-d in
    marking_next a c.args.chain.now c.args.by.now (length c.args.map.now) at p
    l.map l.b l.home l.last l.d-index (l.invariant a at e p) l.auto.map c.loop-d-test.true (c.requires.digits l.d-index) c.bit.result c.go-b.result c.min-home.result c.bit_back-last.result c.bit.ensures c.go-b.ensures c.min-home.ensures c.bit_back-last.ensures

pub bounds-map-b-2 : goal.bounds-map-b-2
bounds-map-b-2 c = omega (arith, c.loop-d.auto.map, inside c.requires c.loop-d.invariant)

pub bounds-map-b-3 : goal.bounds-map-b-3
bounds-map-b-3 c = omega (arith, c.loop-d.auto.map, inside c.requires c.loop-d.invariant)

pub returns : goal.returns
returns c a =
    let l = c.loop-d in
    let q = c.requires.placed a in
    marking_end a c.args.chain.now c.args.by.now (length c.args.map.now) q.0 q.2
    l.map l.b l.home l.last l.d-index (l.invariant a q.0 q.1 q.2) l.auto.map c.loop-d-test.false

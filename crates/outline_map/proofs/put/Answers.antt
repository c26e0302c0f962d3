-- `outline_map::put` meets its contract.
use Rattle.std.proofs.Common.{length, sym, refl, ◌∙◌, arith, length-set}
use Rattle.grid.specs.Grid.{origin}
use Rattle.outline_map.proofs.WayLaws.{going_start, going_way, going_in, going_first, going_next, going_less, going_end, put_some, put-start, put_next, put_end}
use Rattle.outline_map.proofs.put.Goals as goal

pub bounds-out-0 : goal.bounds-out-0
bounds-out-0 c =
    put_some c.requires.0 (length c.args.out.now) c.requires.1

pub go-i-requires : goal.go-i-requires
go-i-requires c =
    (going_way c.requires.0 0 c.args.ring.now.home c.args.ring.now.first
    (going_start c.requires.0)).1

pub bounds-map-i : goal.bounds-map-i
bounds-map-i c =
    going_in c.requires.0 0 c.args.ring.now.home c.args.ring.now.first
    (going_start c.requires.0) c.go-i.result c.go-i.ensures

pub turn-d-requires : goal.turn-d-requires
turn-d-requires c =
    (going_way c.requires.0 0 c.args.ring.now.home c.args.ring.now.first
    (going_start c.requires.0)).0

pub loop-by-init : goal.loop-by-init
loop-by-init c = (
  going_first c.requires.0 0 c.args.ring.now.home c.args.ring.now.first
      (going_start c.requires.0) refl c.go-i.result c.turn-d.result c.go-i.ensures c.turn-d.ensures,
  omega arith,
  put-start c.requires.0 c.args.out.now
      (put_some c.requires.0 (length c.args.out.now) c.requires.1),
)

pub bounds-out-n : goal.bounds-out-n
bounds-out-n c =
    let l = c.loop-by in
    omega (arith, l.auto.out, length-set c.args.out.now 0 c.args.ring.now.first, c.requires.1 origin, (going_less c.requires.0 l.n l.i l.d l.invariant.0 (sym c.away.ensures ∙ c.loop-by-test.true) origin).0)

pub go-i-requires-in-loop-by : goal.go-i-requires-in-loop-by
go-i-requires-in-loop-by c =
    let l = c.loop-by in (going_way c.requires.0 l.n l.i l.d l.invariant.0).1

pub bounds-map-i-in-loop-by : goal.bounds-map-i-in-loop-by
bounds-map-i-in-loop-by c =
    let l = c.loop-by in going_in c.requires.0 l.n l.i l.d l.invariant.0 c.go-i-in-loop-by.result
    c.go-i-in-loop-by.ensures

pub turn-d-requires-in-loop-by : goal.turn-d-requires-in-loop-by
turn-d-requires-in-loop-by c =
    let l = c.loop-by in (going_way c.requires.0 l.n l.i l.d l.invariant.0).0

pub overflow_add-n : goal.overflow_add-n
overflow_add-n c =
    let l = c.loop-by in omega
    (arith, c.requires.0.short, (going_less c.requires.0 l.n l.i l.d l.invariant.0 (sym c.away.ensures ∙ c.loop-by-test.true) origin).1)

pub loop-by-smaller : goal.loop-by-smaller
loop-by-smaller c =
    let l = c.loop-by in omega
    (arith, (going_less c.requires.0 l.n l.i l.d l.invariant.0 (sym c.away.ensures ∙ c.loop-by-test.true) origin).1)

pub loop-by-preserved : goal.loop-by-preserved
loop-by-preserved c =
    let l = c.loop-by in
    let g = (going_less c.requires.0 l.n l.i l.d l.invariant.0 (sym c.away.ensures ∙ c.loop-by-test.true) origin).0 in (
      going_next c.requires.0 l.n l.i l.d l.invariant.0
          (sym c.away.ensures ∙ c.loop-by-test.true) c.go-i-in-loop-by.result c.turn-d-in-loop-by.result c.go-i-in-loop-by.ensures
          c.turn-d-in-loop-by.ensures,
      omega arith,
      put_next c.requires.0 _ l.out l.n l.i l.d l.invariant.0 l.invariant.2
          (omega (arith, g, c.requires.1 origin, length-set c.args.out.now 0 c.args.ring.now.first)),
    )

pub returns : goal.returns
returns c =
    let l = c.loop-by in
    let e = going_end c.requires.0 l.n l.i l.d l.invariant.0 l.invariant.1
    (sym c.away.ensures ∙ c.loop-by-test.false) in
    (e, put_end c.requires.0 c.args.out.now l.out l.n l.invariant.1 l.invariant.2 e)

-- `outline_path::count` meets its contract.
use mathlib.Core.Path.{sym, ◌∙◌}
use native.Mathlib.Omega.{arith}
use Rattle.grid.specs.Grid.{origin}
use Rattle.outline_path.proofs.RingLaws.{at-start, at_link, at-to, going_start, going_next, going_less, going_end}
use Rattle.outline_path.proofs.count.Goals as goal

pub follow-i-requires : goal.follow-i-requires
follow-i-requires c =
    let a = c.args in
    at_link origin c.requires 0 a.home a.first (at-start origin c.requires)

pub turn-d-requires : goal.turn-d-requires
turn-d-requires c =
    let a = c.args in
    at-to origin c.requires 0 a.home a.first
    (at-start origin c.requires) c.follow-i.result c.follow-i.ensures

pub loop-i-init : goal.loop-i-init
loop-i-init c =
    going_start c.requires c.follow-i.result c.turn-d.result c.follow-i.ensures c.turn-d.ensures

pub follow-i-requires-in-loop-i : goal.follow-i-requires-in-loop-i
follow-i-requires-in-loop-i c =
    let l = c.loop-i in
    at_link origin c.requires l.n l.i l.d (l.invariant origin).at

pub turn-d-requires-in-loop-i : goal.turn-d-requires-in-loop-i
turn-d-requires-in-loop-i c =
    let l = c.loop-i in
    at-to origin c.requires l.n l.i l.d (l.invariant origin).at
    c.follow-i-in-loop-i.result c.follow-i-in-loop-i.ensures

pub overflow_add-n : goal.overflow_add-n
overflow_add-n c =
    let p = c.requires in
    let l = c.loop-i in
    omega (arith, p.short, going_less c.requires l.n l.i l.d l.invariant (sym c.away.ensures ∙ c.loop-i-test.true))

pub loop-i-smaller : goal.loop-i-smaller
loop-i-smaller c =
    let l = c.loop-i in
    omega (arith, going_less c.requires l.n l.i l.d l.invariant (sym c.away.ensures ∙ c.loop-i-test.true))

pub loop-i-preserved : goal.loop-i-preserved
loop-i-preserved c =
    let l = c.loop-i in
    going_next c.requires l.n l.i l.d l.invariant
    (sym c.away.ensures ∙ c.loop-i-test.true) c.follow-i-in-loop-i.result c.turn-d-in-loop-i.result
    c.follow-i-in-loop-i.ensures c.turn-d-in-loop-i.ensures

pub returns : goal.returns
returns c =
    let l = c.loop-i in
    going_end c.requires l.n l.i l.d l.invariant
    (sym c.away.ensures ∙ c.loop-i-test.false)

-- `room_map::lone` meets its contract.
use Rattle.std.proofs.Common.{ℕ, ◌+◌, ◌%◌, ◌^◌, ◌<◌, List, length, get_or, refl, ap, ap₂, ◌∙◌, arith, length-set}
use Rattle.box_laws.specs.Box.{place_steps}
use Rattle.room_map.proofs.MapLaws.{mark-start, mark_in, mark_again, mark_step, mark_end}
use Rattle.room_map.proofs.lone.Goals as goal

pub loop-d-init : goal.loop-d-init
loop-d-init c =
    let a = c.args in
    (refl, mark-start a.chain.now a.from a.by.now a.map.now c.requires)

pub bounds-map-at : goal.bounds-map-at
bounds-map-at c =
    let l = c.loop-d in
    mark_in c.args.chain.now l.d-index l.at (length l.map) l.map l.invariant.1
    (omega (arith, l.invariant.0, c.requires.fits.few))

pub returns-then-map-at-ne0 : goal.returns-then-map-at-ne0
returns-then-map-at-ne0 c =
    let l = c.loop-d in
    mark_again c.args.chain.now l.d-index l.at l.map l.invariant.1 c.loop-d-test.true
    (λ e. c.if-map-at-ne0.true e)

pub bounds-map-at-in-loop-d : goal.bounds-map-at-in-loop-d
bounds-map-at-in-loop-d c =
    let l = c.loop-d in
    mark_in c.args.chain.now l.d-index l.at (length l.map) l.map l.invariant.1
    (omega (arith, l.invariant.0, c.requires.fits.few))

pub bounds-by-from : goal.bounds-by-from
unfolding place_steps
bounds-by-from c = omega (arith, c.from.ensures, c.requires.fits.steps.digits c.loop-d.d-index, ap length c.requires.table)

pub loop-d-preserved : goal.loop-d-preserved
loop-d-preserved c =
    let l = c.loop-d in
    let a = c.args.chain.now in
    let h : l.at < length l.map = mark_in a l.d-index l.at (length l.map) l.map l.invariant.1 (omega (arith, l.invariant.0, c.requires.fits.few)) in (
      length-set l.map l.at 1 ∙ l.invariant.0,
      mark_step a l.d-index l.at l.map l.invariant.1 c.loop-d-test.true c.if-map-at-ne0.false h
          _ c.requires.fits.steps
          (ap₂ (λ (t : List ℕ) (d : ℕ). (l.at + get_or t d 0) % 2 ^ 64) c.requires.table c.from.ensures),
    )

pub returns : goal.returns
returns c =
    let l = c.loop-d in
    mark_end c.args.chain.now l.d-index l.at l.map l.invariant.1 c.loop-d-test.false

-- `box_walk::enclose` meets its contract.
use Rattle.std.proofs.Common.{ℕ, ◌+◌, ◌%◌, ◌^◌, get_or, ap, sym, ◌∙◌, subst, arith}
use Rattle.column_laws.specs.Columns.{col_after, row_after}
use Rattle.room_thread_laws.specs.Threads.{Closes}
use Rattle.box_laws.specs.Box.{column_steps, height_steps}
use Rattle.box_laws.proofs.PassLaws.{passed_start, passed_step, column-near, height_near, closed_at, found-reached, found-wide, found-high, found-start}
use Rattle.box_laws.proofs.StepLaws.{column_step, height_step}
use Rattle.box_walk.proofs.enclose.Goals as goal

pub loop-step-init : goal.loop-step-init
loop-step-init c = let a = c.args.chain.now in (passed_start col_after a, passed_start row_after a)

pub bounds-dx-d : goal.bounds-dx-d
bounds-dx-d c = omega (arith, c.from-d.ensures, c.requires.digits c.loop-step.step-index)

pub bounds-dy-d : goal.bounds-dy-d
bounds-dy-d c = omega (arith, c.from-d.ensures, c.requires.digits c.loop-step.step-index)

pub loop-step-preserved : goal.loop-step-preserved
unfolding column_steps height_steps
loop-step-preserved c =
    let l = c.loop-step in
    let a = c.args.chain.now in
    let t = c.loop-step-test.true in
    let h = column-near a c.requires l.step-index l.x l.invariant.0.here t in
    let g = height_near a c.requires l.step-index l.y l.invariant.1.here t in (
      passed_step col_after a l.step-index l.x l.west l.east l.invariant.0 _ c.min-west.result c.max-east.result t
          (ap (λ (d : ℕ). (l.x + get_or column_steps d 0) % 2 ^ 64) c.from-d.ensures
          ∙ column_step l.x (get_or a l.step-index 0) h.0 h.1 (c.requires.digits l.step-index)) c.min-west.ensures c.max-east.ensures,
      passed_step row_after a l.step-index l.y l.south l.north l.invariant.1 _ c.min-south.result c.max-north.result t
          (ap (λ (d : ℕ). (l.y + get_or height_steps d 0) % 2 ^ 64) c.from-d.ensures
          ∙ height_step l.y (get_or a l.step-index 0) g.0 g.1 (c.requires.digits l.step-index)) c.min-south.ensures c.max-north.ensures,
    )

pub framed-requires : goal.framed-requires
framed-requires c =
    let l = c.loop-step in
    found-reached c.args.chain.now c.requires l.step-index l.x l.y l.west l.east l.south l.north
    l.invariant.0 l.invariant.1 c.loop-step-test.false

pub returns : goal.returns
returns c =
    let l = c.loop-step in
    let a = c.args.chain.now in
    let e = c.loop-step-test.false in
    let r = c.framed.result in
    let f = c.framed.ensures.0 in
    record {
      wide = found-wide a c.requires l.step-index l.x l.y l.west l.east l.south l.north l.invariant.0 l.invariant.1 e
          r.width r.height r.from f;
      high = found-high a c.requires l.step-index l.x l.y l.west l.east l.south l.north l.invariant.0 l.invariant.1 e
          r.width r.height r.from f;
      start = found-start a c.requires l.step-index l.x l.y l.west l.east l.south l.north l.invariant.0 l.invariant.1
          e r.width r.height r.from f;
      round = subst (Closes a) (sym c.framed.ensures.1)
          (closed_at a c.requires l.step-index l.x l.y c.at_start.result e (omega arith) l.invariant.0.here
          l.invariant.1.here c.at_start.ensures);
    }

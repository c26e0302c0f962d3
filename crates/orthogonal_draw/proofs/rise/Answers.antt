-- `orthogonal_draw::rise` meets its contract.
use native.Mathlib.Omega.{arith}
use mathlib.Core.Path.{sym, ap, ◌∙◌}
use mathlib.Core.List.{◌∷◌, ◌++◌}
use Prim.Native.Nat.{ℕ, ◌+◌, ◌-◌}
use Rattle.orthogonal_chain_laws.specs.Chain.{sideways}
use lib.ListN.{length}
use Rattle.orthogonal_draw.specs.Sides.{right_in, ascent}
use Rattle.orthogonal_draw.proofs.SideLaws.{drawing_start, drawing_room, drawing_step, drawing_end, ascent-next, ascent-none, ascent-all}
use Rattle.orthogonal_draw.proofs.rise.Goals as goal

pub loop-east-init : goal.loop-east-init
loop-east-init c = let a =
    c.args in (drawing_start a.out.now a.from (ascent (right_in a.span a.hi.now) a.x 0 (length a.hi.now - 0)) (ascent (right_in a.span a.hi.now) a.x 0 (length a.hi.now)) (ascent-all (right_in a.span a.hi.now) a.x (length a.hi.now)))

pub overflow_sub-to : goal.overflow_sub-to
overflow_sub-to c = omega (arith, c.from.ensures, c.requires.0 c.loop-east.east-index c.loop-east-test.true)

pub leg-at-requires : goal.leg-at-requires
leg-at-requires c =
    let l = c.loop-east in
    let a = c.args in
    let f = right_in a.span a.hi.now in
    omega (arith, drawing_room l.invariant (sideways l.col (f l.east-index)) 1 (ascent f (f l.east-index) (l.east-index + 1) (length a.hi.now - (l.east-index + 1))) (ascent-next f l.col l.east-index (length a.hi.now) c.loop-east-test.true) c.requires.1, ap (λ (n : ℕ). length (sideways l.col (a.span - n))) c.from.ensures)

pub loop-east-preserved : goal.loop-east-preserved
loop-east-preserved c =
    let l = c.loop-east in
    let a = c.args in
    let f = right_in a.span a.hi.now in
    let w = c.from in
    let x = a.span - w.result in
    let u = c.leg-at in
    let t = c.loop-east-test.true in
    drawing_step l.invariant (sideways l.col x) 1 (ascent f x (l.east-index + 1) (length a.hi.now - (l.east-index + 1)))
    (ascent-next f l.col l.east-index (length a.hi.now) t
    ∙ ap (λ (n : ℕ). sideways l.col (a.span - n) ++ (1 ∷ ascent f (a.span - n) (l.east-index + 1) (length a.hi.now - (l.east-index + 1)))) (sym w.ensures)) u.new.out u.result u.auto.out u.ensures.0 u.ensures.1

pub shape_of-out : goal.shape_of-out
shape_of-out c = c.loop-east.invariant.size

pub returns : goal.returns
returns c =
    let l = c.loop-east in
    let a = c.args in
    drawing_end l.invariant (ascent-none (right_in a.span a.hi.now) l.col l.east-index (length a.hi.now)
    c.loop-east-test.false)

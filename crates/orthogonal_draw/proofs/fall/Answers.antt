-- `orthogonal_draw::fall` meets its contract.
use native.Mathlib.Omega.{arith}
use mathlib.Core.Path.{refl, sym, ap, ◌∙◌}
use mathlib.Core.List.{◌∷◌, ◌++◌}
use Prim.Native.Nat.{ℕ, ◌-◌}
use Rattle.orthogonal_chain_laws.specs.Chain.{sideways}
use lib.ListN.{length}
use Rattle.orthogonal_draw.specs.Sides.{left_in, descent}
use Rattle.orthogonal_draw.proofs.SideLaws.{drawing_start, drawing_room, drawing_step, drawing_end, descent-next, descent-none}
use Rattle.orthogonal_draw.proofs.fall.Goals as goal

pub loop-q-init : goal.loop-q-init
loop-q-init c = let a =
    c.args in (drawing_start a.out.now a.from (descent (left_in a.lo.now) a.x a.first (a.end - a.first)) (descent (left_in a.lo.now) a.x a.first (a.end - a.first)) refl)

pub leg-at-requires : goal.leg-at-requires
leg-at-requires c =
    let l = c.loop-q in
    let a = c.args in
    let f = left_in a.lo.now in
    omega (arith, drawing_room l.invariant (sideways l.col (f (l.q - 1))) 3 (descent f (f (l.q - 1)) a.first (l.q - 1 - a.first)) (descent-next f l.col a.first l.q c.loop-q-test.true) c.requires.2, ap (λ (n : ℕ). length (sideways l.col n)) c.from-to.ensures)

pub loop-q-preserved : goal.loop-q-preserved
loop-q-preserved c =
    let l = c.loop-q in
    let a = c.args in
    let f = left_in a.lo.now in
    let w = c.from-to in
    let u = c.leg-at in
    let t = c.loop-q-test.true in
    drawing_step l.invariant (sideways l.col w.result) 3 (descent f w.result a.first (l.q - 1 - a.first))
    (descent-next f l.col a.first l.q t
    ∙ ap (λ (n : ℕ). sideways l.col n ++ (3 ∷ descent f n a.first (l.q - 1 - a.first))) (sym w.ensures)) u.new.out u.result u.auto.out u.ensures.0 u.ensures.1

pub shape_of-out : goal.shape_of-out
shape_of-out c = c.loop-q.invariant.size

pub returns : goal.returns
returns c =
    let l = c.loop-q in
    let a = c.args in
    drawing_end l.invariant (descent-none (left_in a.lo.now) l.col a.first l.q c.loop-q-test.false)

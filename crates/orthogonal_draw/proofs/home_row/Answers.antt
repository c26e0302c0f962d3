-- `orthogonal_draw::home_row` meets its contract.
use borrow.Author.Rules.{rules}
use mathlib.Core.Logic.{inl, inr}
use Rattle.orthogonal_draw.proofs.SideLaws.{home_next}
use native.Mathlib.Omega.{arith}
use mathlib.Core.Path.{◌≡◌, refl, ap, ◌∙◌}
use Prim.Native.Nat.{ℕ, ◌-◌, ◌≤◌}
use lib.ListN.{length}
use Rattle.orthogonal_chain_laws.specs.Chain.{home_row}
use Rattle.orthogonal_draw.specs.Sides.{left_in}
use Rattle.orthogonal_draw.proofs.home_row.Goals as goal
use Rattle.orthogonal_draw.proofs.home_row.Goals.{then-a-q, else-a-q}

pub loop-q-init : goal.loop-q-init
loop-q-init c = (omega arith, refl)

pub loop-q-preserved : goal.loop-q-preserved
loop-q-preserved c =
    let l = c.loop-q in
    let a = c.args in
    let r = home_next (left_in a.a.now) l.q l.home c.if-a-q.home (omega arith) l.invariant.0 l.invariant.1
    (elim c.if-a-q.branch [ then-a-q w ↦ inl (search rules) | else-a-q w ↦ inr (search rules) ]) in
    (r.0, r.1)

pub returns : goal.returns
returns c =
    let l = c.loop-q in
    let a = c.args in
    (l.invariant.1 ∙ ap (λ (n : ℕ). home_row (left_in a.a.now) (n - 1)) (last l.q (length a.a.now) (omega arith) c.loop-q-test.false), omega arith)
  where
    last : (q n : ℕ) → q ≤ n → n ≤ q → q ≡ n
    last q n h g = omega arith

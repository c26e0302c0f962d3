-- Two coordinates in 32 bits: whether they are equal or in order, and how far apart they are.
-- Assumes nothing.
use mathlib.Core.Path.{◌≡◌, refl, sym, ap, ap₂, ◌∙◌}
use mathlib.Core.Bool.{Bool, true, false, not, cond, false≢true}
use Prim.Native.Nat.{ℕ, ◌+◌, ◌*◌, ◌≤◌}
use native.Mathlib.Omega.{arith}
use borrow.Author.Tests.{eq-eqb, ne_eqb}
use lib.Dec.{eqb}
use lib.IntN.{ℤ, neg_ℤ, nat_abs, ◌-ℤ◌}
use lib.Signed.{◌<ℤ◌, lt_z}
use mir.Syntax.{w32}
use mir.Val.{SFits, to_z, of_z}
use mir.Facts.{to_z-of_z}
use Rattle.answer.specs.Limits.{farthest}
use Rattle.int_laws.proofs.LinearLaws.{nat_eq, bal-, up_neg, dn-neg, zarith}
use Rattle.int_laws.proofs.RangeLaws.{abs-, abs_neg, lt_true, lt_false}
use Rattle.grid.specs.declared.Corner.{Corner}
use Rattle.grid.specs.Grid.{eq_z}
use Rattle.grid.proofs.CornerLaws.{eq_z_sound, eq_z_refl}
use Rattle.polygon_ring.specs.Ring.{straight, apart, direction_of}
use Rattle.polygon_ring_laws.specs.Reading.{PointFits}
use Rattle.polygon_laws.proofs.SignedLaws.{back}

-- a number as the code reads it back from its bits
abbrev read : ℤ → ℤ
read z = to_z w32 (of_z w32 z)

-- ---- a difference

pub diff_swap : (x y : ℤ) → nat_abs (x -ℤ y) ≡ nat_abs (y -ℤ x)
diff_swap x y =
    sym (abs_neg (x -ℤ y))
    ∙ ap nat_abs (nat_eq (neg_ℤ (x -ℤ y)) (y -ℤ x) (omega (arith, bal- x y, bal- y x, up_neg (x -ℤ y), dn-neg (x -ℤ y))))

-- ---- equality, by the bits that the code compares

pub equal_bits : (x y : ℤ) → SFits w32 x → SFits w32 y → eqb (of_z w32 x) (of_z w32 y) ≡ eq_z x y
equal_bits x y h k = go (eq_z x y) refl
  where
    go : (b : Bool) → eq_z x y ≡ b → eqb (of_z w32 x) (of_z w32 y) ≡ eq_z x y
    go true e = eq-eqb (of_z w32 x) (of_z w32 y) (ap (of_z w32) (eq_z_sound x y e)) ∙ sym e
    go false e =
        ne_eqb (of_z w32 x) (of_z w32 y) (λ p. false≢true (sym e ∙ ap (eq_z x) (sym (sym (to_z-of_z h) ∙ ap (to_z w32) p ∙ to_z-of_z k)) ∙ eq_z_refl x)) ∙ sym e

-- ---- the direction, by whether the first coordinates are equal

pub self_no : (x : ℤ) → lt_z x x ≡ false
self_no x = go (lt_z x x) refl
  where
    go : (t : Bool) → lt_z x x ≡ t → lt_z x x ≡ false
    go true e = absurd (bad (lt_true {a = x} {b = x} e))
      where
        bad : x <ℤ x → ⊥
        bad l = omega (zarith, l)
    go false e = e

by_axes : (a b : Corner) → cond (eq_z a.0 b.0) (cond (lt_z a.1 b.1) 1 3) (cond (lt_z a.0 b.0) 0 2) ≡ direction_of a b
by_axes a b = go (eq_z x y) (lt_z x y) (lt_z y x) refl refl refl
  where
    x : ℤ
    x = a.0

    y : ℤ
    y = b.0

    u : ℕ
    u = cond (lt_z a.1 b.1) 1 3

    out : (p q r p' q' r' : Bool) → p ≡ p' → q ≡ q' → r ≡ r' → cond p' u (cond q' 0 2) ≡ cond q' 0 (cond r' 2 u) → cond p u (cond q 0 2) ≡ cond q 0 (cond r 2 u)
    out p q r p' q' r' e f g h = ap₂ (λ (i j : Bool). cond i u (cond j 0 2)) e f ∙ h ∙ sym (ap₂ (λ (i j : Bool). cond i 0 (cond j 2 u)) f g)

    go : (p q r : Bool) → eq_z x y ≡ p → lt_z x y ≡ q → lt_z y x ≡ r → cond (eq_z x y) u (cond (lt_z x y) 0 2) ≡ cond (lt_z x y) 0 (cond (lt_z y x) 2 u)
    go true q r e f g =
        let same : x ≡ y = eq_z_sound x y e in
        out (eq_z x y) (lt_z x y) (lt_z y x) true false false e (ap (λ (z : ℤ). lt_z z y) same ∙ self_no y) (ap (lt_z y) same ∙ self_no y) refl
    go false true r e f g = out (eq_z x y) (lt_z x y) (lt_z y x) false true r e f g refl
    go false false true e f g = out (eq_z x y) (lt_z x y) (lt_z y x) false false true e f g refl
    go false false false e f g =
        let same : x ≡ y = nat_eq x y (omega (zarith, lt_false {a = x} {b = y} f, lt_false {a = y} {b = x} g)) in
        absurd (false≢true (sym e ∙ ap (λ (z : ℤ). eq_z z y) same ∙ eq_z_refl y))

-- ---- corners

module _ (a b : Corner) (p : PointFits a) (q : PointFits b) where
  pub straight-is : (l m : Bool) → l ≡ eq_z (read a.1) (read b.1) → m ≡ eq_z (read a.0) (read b.0) → cond m (not l) l ≡ straight a b
  straight-is l m e f =
      ap₂ (λ (m l : Bool). cond m (not l) l) (f ∙ ap₂ eq_z (back a.0 p.x) (back b.0 q.x)) (e ∙ ap₂ eq_z (back a.1 p.y) (back b.1 q.y))

  pub apart-is : (m n : ℕ) → m ≡ nat_abs (read b.0 -ℤ read a.0) → n ≡ nat_abs (read b.1 -ℤ read a.1) → m + n ≡ apart a b
  apart-is m n e f =
      ap₂ ◌+◌ (e ∙ ap₂ (λ (y x : ℤ). nat_abs (y -ℤ x)) (back b.0 q.x) (back a.0 p.x))
      (f ∙ ap₂ (λ (y x : ℤ). nat_abs (y -ℤ x)) (back b.1 q.y) (back a.1 p.y))

  pub apart_le : apart a b ≤ 4 * farthest
  apart_le = omega (arith, abs- b.0 a.0, abs- b.1 a.1, p.x, p.y, q.x, q.y)

  pub goes : (l : Bool) (i j : ℕ) → l ≡ eq_z (read a.0) (read b.0) → i ≡ cond (lt_z (read a.0) (read b.0)) 0 2 → j ≡ cond (lt_z (read a.1) (read b.1)) 1 3
      → cond l j i ≡ direction_of a b
  goes l i j e f g =
      ap (λ (m : Bool). cond m j i) (e ∙ ap₂ eq_z (back a.0 p.x) (back b.0 q.x))
      ∙ ap₂ (λ (m n : ℕ). cond (eq_z a.0 b.0) m n) (g ∙ ap (λ (m : Bool). cond m 1 3) (ap₂ lt_z (back a.1 p.y) (back b.1 q.y)))
      (f ∙ ap (λ (m : Bool). cond m 0 2) (ap₂ lt_z (back a.0 p.x) (back b.0 q.x)))
      ∙ by_axes a b

-- `same` decides equality of corners.
-- Assumes nothing.
use mathlib.Core.Bool.{Bool, true, false, ◌&&◌, false≢true}
use mathlib.Core.Path.{◌≡◌, refl, ap, ap₂, sym, ◌∙◌}
use borrow.Author.Rules.{rules}
use borrow.Author.Tests.{eqb-true, eq-eqb}
use lib.IntN.{ℤ, pos, negsuc, suc_ℤ, pred_ℤ, suc-pred, pred-suc}
use Rattle.lists.proofs.FindLaws.{bool_agree}
use Rattle.lists.proofs.GatherLaws.{and_left, and_right}
use Rattle.std.specs.Ordering.{int_eq}
use Rattle.grid.specs.declared.Corner.{Corner}
use Rattle.grid.specs.Grid.{corner, eq_z, same}

pub corner_eq : (p q : Corner) → p.0 ≡ q.0 → p.1 ≡ q.1 → p ≡ q
corner_eq p q e f = λ i. corner (e i) (f i)

pub eq_z_sound : (a b : ℤ) → eq_z a b ≡ true → a ≡ b
eq_z_sound (pos a) (pos b) e = ap pos (eqb-true a b e)
eq_z_sound (pos a) (negsuc b) e = absurd (false≢true e)
eq_z_sound (negsuc a) (pos b) e = absurd (false≢true e)
eq_z_sound (negsuc a) (negsuc b) e = ap negsuc (eqb-true a b e)

pub eq_z_refl : (a : ℤ) → eq_z a a ≡ true
eq_z_refl (pos a) = eq-eqb a a refl
eq_z_refl (negsuc a) = eq-eqb a a refl

pub eq_z_not : (a b : ℤ) → (a ≡ b → ⊥) → eq_z a b ≡ false
eq_z_not a b f = by (eq_z a b) refl
  where
    by : (x : Bool) → eq_z a b ≡ x → x ≡ false
    by true e = absurd (f (eq_z_sound a b e))
    by false e = refl

-- one more on the left is one less on the right
eq_z-agree : (a b x y : ℤ) → (a ≡ b → x ≡ y) → (x ≡ y → a ≡ b) → eq_z a b ≡ eq_z x y
eq_z-agree a b x y f g = bool_agree (eq_z a b) (eq_z x y) (λ e. yes x y (f (eq_z_sound a b e))) (λ e. yes a b (g (eq_z_sound x y e)))
  where
    yes : (u w : ℤ) → u ≡ w → eq_z u w ≡ true
    yes u w e = ap (eq_z u) (sym e) ∙ eq_z_refl u

pub eq_z_suc : (a b : ℤ) → eq_z (suc_ℤ a) b ≡ eq_z a (pred_ℤ b)
eq_z_suc a b = eq_z-agree (suc_ℤ a) b a (pred_ℤ b) (λ e. sym (pred-suc a) ∙ ap pred_ℤ e) (λ e. ap suc_ℤ e ∙ suc-pred b)

pub eq_z_pred : (a b : ℤ) → eq_z (pred_ℤ a) b ≡ eq_z a (suc_ℤ b)
eq_z_pred a b = eq_z-agree (pred_ℤ a) b a (suc_ℤ b) (λ e. sym (suc-pred a) ∙ ap suc_ℤ e) (λ e. ap pred_ℤ e ∙ pred-suc b)

pub same_sound : (a b : Corner) → same a b ≡ true → a ≡ b
same_sound a b e =
    ap₂ corner (eq_z_sound a.0 b.0 (and_left (eq_z a.0 b.0) (eq_z a.1 b.1) e)) (eq_z_sound a.1 b.1 (and_right (eq_z a.0 b.0) (eq_z a.1 b.1) e))

pub same_refl : (a : Corner) → same a a ≡ true
same_refl a = rw (eq_z_refl a.0, eq_z_refl a.1)

-- what the code's `==` answers
pub equal_same : (a b : Corner) → (int_eq a.0 b.0 && int_eq a.1 b.1) ≡ same a b
equal_same a b = search rules

-- One more and one less for `omega`, how far one number is above another, and the tests of order from the order.
-- Assumes nothing.
use mathlib.Core.Bool.{Bool, true, false}
use mathlib.Core.Logic.{⊎_elim}
use mathlib.Core.Path.{◌≡◌, refl, ap, sym, ◌∙◌, subst}
use Prim.Native.Nat.{ℕ, zero, suc, ◌+◌}
use native.Mathlib.Omega.{arith}
use lib.Dec.{T}
use lib.IntN.{ℤ, pos, negsuc, suc_ℤ, pred_ℤ, neg_ℤ, nat_abs, ◌+ℤ◌, ◌-ℤ◌, pred-suc, suc_ℤ-+ℤ, pred_ℤ-+ℤ, +ℤ_invr}
use lib.Signed.{◌≤ℤ◌, ◌<ℤ◌, le_z, lt_z, yes_non_neg, pos-nat_abs}
use Rattle.int_laws.specs.Signed.{up, dn}
use Rattle.int_laws.proofs.LinearLaws.{zarith, bal+, bal-, le_or_lt}
use Rattle.int_laws.proofs.RangeLaws.{lt_true, lt_false}

pub bal_suc : (z : ℤ) → up (suc_ℤ z) + dn z ≡ suc (dn (suc_ℤ z) + up z)
bal_suc (pos n) = omega arith
bal_suc (negsuc zero) = omega arith
bal_suc (negsuc (suc n)) = omega arith

pub bal_pred : (z : ℤ) → suc (up (pred_ℤ z) + dn z) ≡ dn (pred_ℤ z) + up z
bal_pred (pos zero) = omega arith
bal_pred (pos (suc n)) = omega arith
bal_pred (negsuc n) = omega arith

pub plus_suc : (x : ℤ) (k : ℕ) → suc_ℤ x +ℤ pos k ≡ x +ℤ pos (suc k)
plus_suc x k = omega (zarith, bal+ (suc_ℤ x) (pos k), bal+ x (pos (suc k)), bal_suc x)

-- the change by one
pub suc_sub : (z : ℤ) → suc_ℤ z -ℤ z ≡ pos 1
suc_sub z = suc_ℤ-+ℤ z (neg_ℤ z) ∙ ap suc_ℤ (+ℤ_invr z)

pub pred_sub : (z : ℤ) → pred_ℤ z -ℤ z ≡ negsuc 0
pred_sub z = pred_ℤ-+ℤ z (neg_ℤ z) ∙ ap pred_ℤ (+ℤ_invr z)

pub sucℤ_one : (x y : ℤ) → suc_ℤ x ≡ suc_ℤ y → x ≡ y
sucℤ_one x y e = sym (pred-suc x) ∙ ap pred_ℤ e ∙ pred-suc y

-- b is as far above a as the difference says
pub above : (a b : ℤ) → a ≤ℤ b → b ≡ a +ℤ pos (nat_abs (b -ℤ a))
above a b h =
    let g : pos 0 ≤ℤ (b -ℤ a) = omega (zarith, bal- b a) in
    let e : b ≡ a +ℤ (b -ℤ a) = omega (zarith, bal+ a (b -ℤ a), bal- b a) in
    e ∙ ap (λ (z : ℤ). a +ℤ z) (sym (pos-nat_abs (b -ℤ a) (yes_non_neg g)))

pub true_lt : (a b : ℤ) → a <ℤ b → lt_z a b ≡ true
true_lt a b h = by (lt_z a b) refl
  where
    by : (x : Bool) → lt_z a b ≡ x → x ≡ true
    by true e = refl
    by false e = absurd (omega (zarith, lt_false {a = a} {b = b} e))

pub false_lt : (a b : ℤ) → b ≤ℤ a → lt_z a b ≡ false
false_lt a b h = by (lt_z a b) refl
  where
    by : (x : Bool) → lt_z a b ≡ x → x ≡ false
    by true e = absurd (omega (zarith, lt_true {a = a} {b = b} e))
    by false e = refl

pub le_false : (a b : ℤ) → le_z a b ≡ false → b <ℤ a
le_false a b e = ⊎_elim (λ h. absurd (subst T e h.le)) (λ h. h) (le_or_lt a b)

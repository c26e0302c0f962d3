-- The parents of two adjacent corners are equal, or adjacent in the same direction.
-- Assumes nothing.
use mathlib.Core.Logic.{◌⊎◌, inl, inr, ⊎_map}
use mathlib.Core.Path.{◌≡◌, refl, ap, sym, ◌∙◌}
use Prim.Native.Nat.{ℕ, zero, suc, ◌/◌, ◌%◌}
use native.Mathlib.Decide.{ℕ_discrete}
use native.Mathlib.Omega.{arith}
use lib.IntN.{ℤ, pos, negsuc, suc_ℤ, pred_ℤ, neg_ℤ, suc-pred, pred-suc}
use Rattle.grid.specs.declared.Corner.{Corner}
use Rattle.grid.specs.Grid.{corner, stepped}
use Rattle.grid.specs.Tree.{half_of, parent_of}

parity : (n : ℕ) → (suc n / 2 ≡ n / 2) ⊎ (suc n / 2 ≡ suc (n / 2))
parity n = elim (ℕ_discrete (n % 2) 0) [ yes e ↦ inl (omega arith) | no f ↦ inr (omega arith) ]

suc_neg : (k : ℕ) → suc_ℤ (negsuc k) ≡ neg_ℤ (pos k)
suc_neg zero = refl
suc_neg (suc k) = refl

half_of_suc : (z : ℤ) → (half_of (suc_ℤ z) ≡ half_of z) ⊎ (half_of (suc_ℤ z) ≡ suc_ℤ (half_of z))
half_of_suc (pos n) = ⊎_map (λ e. ap pos e) (λ e. ap pos e) (parity n)
half_of_suc (negsuc zero) = inl refl
half_of_suc (negsuc (suc n)) = ⊎_map (λ e. ap (λ (k : ℕ). neg_ℤ (pos k)) (sym e)) (λ e. rw e (sym (suc_neg (suc n / 2)))) (parity (suc n))

half_of_pred : (z : ℤ) → (half_of (pred_ℤ z) ≡ half_of z) ⊎ (half_of (pred_ℤ z) ≡ pred_ℤ (half_of z))
half_of_pred z =
    let f : half_of z ≡ half_of (suc_ℤ (pred_ℤ z)) = ap half_of (sym (suc-pred z)) in
    ⊎_map (λ e. sym (f ∙ e)) (λ e. sym (pred-suc (half_of (pred_ℤ z))) ∙ ap pred_ℤ (sym (f ∙ e))) (half_of_suc (pred_ℤ z))

pub parent_of-stepped : (d : ℕ) (c : Corner) → (parent_of (stepped d c) ≡ parent_of c) ⊎ (parent_of (stepped d c) ≡ stepped d (parent_of c))
parent_of-stepped zero c = ⊎_map (ap (λ (x : ℤ). corner x (half_of c.1))) (ap (λ (x : ℤ). corner x (half_of c.1))) (half_of_suc c.0)
parent_of-stepped (suc zero) c = ⊎_map (ap (corner (half_of c.0))) (ap (corner (half_of c.0))) (half_of_suc c.1)
parent_of-stepped (suc (suc zero)) c = ⊎_map (ap (λ (x : ℤ). corner x (half_of c.1))) (ap (λ (x : ℤ). corner x (half_of c.1))) (half_of_pred c.0)
parent_of-stepped (suc (suc (suc d))) c = ⊎_map (ap (corner (half_of c.0))) (ap (corner (half_of c.0))) (half_of_pred c.1)

-- A corner's class: a step keeps the parent or the class, and a class has at most four corners.
-- Assumes nothing.
use mathlib.Core.List.{List, [], ◌∷◌, Memᴰ}
use mathlib.Core.Logic.{◌⊎◌, inl, inr, ⊎_map}
use mathlib.Core.Path.{◌≡◌, refl, ap, ap₂, sym, ◌∙◌}
use Prim.Native.Nat.{ℕ, zero, suc, ◌+◌, ◌*◌, ◌/◌, ◌%◌}
use native.Mathlib.Decide.{ℕ_discrete}
use native.Mathlib.Omega.{arith}
use lib.IntN.{ℤ, pos, negsuc, suc_ℤ, pred_ℤ, neg_ℤ, suc-pred}
use Rattle.grid.specs.declared.Corner.{Corner}
use Rattle.grid.specs.Grid.{corner, stepped}
use Rattle.grid.specs.Tree.{half_of, parent_of}

-- half the magnitude, rounded up, with the sign kept
abbrev cls : ℤ → ℤ
cls (pos n) = pos (suc n / 2)
cls (negsuc n) = negsuc (n / 2)

abbrev pub class : Corner → Corner
class c = corner (cls c.0) (cls c.1)

cls_suc : (z : ℤ) → (half_of (suc_ℤ z) ≡ half_of z) ⊎ (cls (suc_ℤ z) ≡ cls z)
cls_suc (pos n) = elim (ℕ_discrete (n % 2) 0) [ yes e ↦ inl (ap pos (omega arith)) | no f ↦ inr (ap pos (omega arith)) ]
cls_suc (negsuc zero) = inl refl
cls_suc (negsuc (suc n)) =
    elim (ℕ_discrete (n % 2) 0) [ yes e ↦ inr (ap negsuc (omega arith)) | no f ↦ let q : suc n / 2 ≡ suc (suc n) / 2 = omega arith in inl (ap (λ (k : ℕ). neg_ℤ (pos k)) q) ]

cls_pred : (z : ℤ) → (half_of (pred_ℤ z) ≡ half_of z) ⊎ (cls (pred_ℤ z) ≡ cls z)
cls_pred z =
    ⊎_map (λ e. sym e ∙ ap half_of (suc-pred z)) (λ e. sym e ∙ ap cls (suc-pred z)) (cls_suc (pred_ℤ z))

pub step_class : (d : ℕ) (c : Corner) → (parent_of (stepped d c) ≡ parent_of c) ⊎ (class (stepped d c) ≡ class c)
step_class zero c = ⊎_map (ap (λ (x : ℤ). corner x (half_of c.1))) (ap (λ (x : ℤ). corner x (cls c.1))) (cls_suc c.0)
step_class (suc zero) c = ⊎_map (ap (corner (half_of c.0))) (ap (corner (cls c.0))) (cls_suc c.1)
step_class (suc (suc zero)) c = ⊎_map (ap (λ (x : ℤ). corner x (half_of c.1))) (ap (λ (x : ℤ). corner x (cls c.1))) (cls_pred c.0)
step_class (suc (suc (suc d))) c = ⊎_map (ap (corner (half_of c.0))) (ap (corner (cls c.0))) (cls_pred c.1)

-- the coordinates of a class: one or two
abbrev low : ℤ → ℤ
low (pos zero) = pos 0
low (pos (suc k)) = pos (2 * k + 1)
low (negsuc k) = negsuc (2 * k)

abbrev high : ℤ → ℤ
high (pos k) = pos (2 * k)
high (negsuc k) = negsuc (2 * k + 1)

in_class : (z : ℤ) → (z ≡ low (cls z)) ⊎ (z ≡ high (cls z))
in_class (pos zero) = inl refl
in_class (pos (suc n)) = elim (ℕ_discrete (n % 2) 0) [ yes e ↦ let q : suc (suc n) / 2 ≡ suc (n / 2) = omega arith in inl (rw q (ap pos (omega arith))) | no f ↦ inr (ap pos (omega arith)) ]
in_class (negsuc n) = elim (ℕ_discrete (n % 2) 0) [ yes e ↦ inl (ap negsuc (omega arith)) | no f ↦ inr (ap negsuc (omega arith)) ]

abbrev pub members : Corner → List Corner
members k = corner (low k.0) (low k.1) ∷ corner (low k.0) (high k.1) ∷ corner (high k.0) (low k.1) ∷ corner (high k.0) (high k.1) ∷ []

pub in_members : (c : Corner) → Memᴰ c (members (class c))
in_members c = go (in_class c.0) (in_class c.1)
  where
    go : (c.0 ≡ low (cls c.0)) ⊎ (c.0 ≡ high (cls c.0)) → (c.1 ≡ low (cls c.1)) ⊎ (c.1 ≡ high (cls c.1)) → Memᴰ c (members (class c))
    go (inl p) (inl q) = Memᴰ.head (ap₂ corner p q)
    go (inl p) (inr q) = Memᴰ.tail (Memᴰ.head (ap₂ corner p q))
    go (inr p) (inl q) = Memᴰ.tail (Memᴰ.tail (Memᴰ.head (ap₂ corner p q)))
    go (inr p) (inr q) = Memᴰ.tail (Memᴰ.tail (Memᴰ.tail (Memᴰ.head (ap₂ corner p q))))

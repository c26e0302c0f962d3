-- The path from the root to a corner: by the parent, with no bound.
-- Assumes nothing.
use mathlib.Core.Bool.{Bool, true, false, true≢false}
use mathlib.Core.List.{List, [], ◌∷◌, ◌++◌}
use mathlib.Core.Path.{◌≡◌, refl, ap, ap₂, sym, ◌∙◌}
use Prim.Native.Nat.{ℕ, zero, suc, ◌/◌, ◌<◌, ◌≤◌}
use native.Mathlib.Omega.{arith}
use lib.IntN.{ℤ, pos, negsuc, neg_ℤ, nat_abs}
use Rattle.grid.specs.declared.Corner.{Corner}
use Rattle.grid.specs.Grid.{corner}
use Rattle.grid.specs.Tree.{root, half_of, parent_of, is_root, size_of, descent_by, path_of}

nat_abs-neg : (k : ℕ) → nat_abs (neg_ℤ (pos k)) ≡ k
nat_abs-neg zero = refl
nat_abs-neg (suc k) = refl

pub nat_abs-half_of : (z : ℤ) → nat_abs (half_of z) ≡ nat_abs z / 2
nat_abs-half_of (pos n) = refl
nat_abs-half_of (negsuc n) = nat_abs-neg (suc n / 2)

nat_abs_zero : (z : ℤ) → nat_abs z ≡ 0 → z ≡ pos 0
nat_abs_zero (pos n) e = ap pos e
nat_abs_zero (negsuc n) e = absurd (omega arith)

pub root_of_size : (c : Corner) → size_of c ≡ 0 → is_root c ≡ true
root_of_size c e =
    let h : c ≡ root = ap₂ corner (nat_abs_zero c.0 (omega arith)) (nat_abs_zero c.1 (omega arith)) in
    rw h refl

size_pos : (c : Corner) → is_root c ≡ false → 0 < size_of c
size_pos c e = go (size_of c) refl
  where
    go : (n : ℕ) → size_of c ≡ n → 0 < size_of c
    go zero z = absurd (true≢false (sym (root_of_size c z) ∙ e))
    go (suc n) z = omega arith

pub size_of-parent_of : (c : Corner) → is_root c ≡ false → size_of (parent_of c) < size_of c
size_of-parent_of c e = omega (arith, nat_abs-half_of c.0, nat_abs-half_of c.1, size_pos c e)

descend_enough : (f g : ℕ) (c : Corner) → size_of c ≤ f → size_of c ≤ g → descent_by f c ≡ descent_by g c
descend_enough zero zero c p q = refl
descend_enough zero (suc g) c p q = rw (root_of_size c (omega arith), descent_by)
descend_enough (suc f) zero c p q = rw (root_of_size c (omega arith), descent_by)
descend_enough (suc f) (suc g) c p q = go (is_root c) refl (λ h k. descend_enough f g (parent_of c) h k)
  where
    go : (b : Bool) → is_root c ≡ b → (size_of (parent_of c) ≤ f → size_of (parent_of c) ≤ g → descent_by f (parent_of c) ≡ descent_by g (parent_of c)) → descent_by (suc f) c ≡ descent_by (suc g) c
    go true e ih = rw (e, descent_by)
    go false e ih = rw (e, descent_by) (ap (λ (l : List Corner). l ++ (c ∷ [])) (ih (omega (arith, size_of-parent_of c e)) (omega (arith, size_of-parent_of c e))))

pub path_of-root : (c : Corner) → is_root c ≡ true → path_of c ≡ c ∷ []
path_of-root c e = go (size_of c)
  where
    go : (n : ℕ) → descent_by n c ≡ c ∷ []
    go zero = refl
    go (suc n) = rw (e, descent_by)

pub path_of_snoc : (c : Corner) → is_root c ≡ false → path_of c ≡ path_of (parent_of c) ++ (c ∷ [])
path_of_snoc c e =
    descend_enough (size_of c) (suc (size_of c)) c (omega arith) (omega arith)
    ∙ rw (e, descent_by) (ap (λ (l : List Corner). l ++ (c ∷ [])) (descend_enough (size_of c) (size_of (parent_of c)) (parent_of c) (omega (arith, size_of-parent_of c e)) (omega arith)))

-- induction from the root outwards
tree_ind_below : (P : Corner → Type 0) → ((c : Corner) → is_root c ≡ true → P c) → ((c : Corner) → is_root c ≡ false → P (parent_of c) → P c) → (n : ℕ) (c : Corner) → size_of c ≤ n → P c
tree_ind_below P r s zero c h = r c (root_of_size c (omega arith))
tree_ind_below P r s (suc n) c h = go (is_root c) refl (λ k. tree_ind_below P r s n (parent_of c) k)
  where
    go : (b : Bool) → is_root c ≡ b → (size_of (parent_of c) ≤ n → P (parent_of c)) → P c
    go true e ih = r c e
    go false e ih = s c e (ih (omega (arith, size_of-parent_of c e)))

pub tree_ind : (P : Corner → Type 0) → ((c : Corner) → is_root c ≡ true → P c) → ((c : Corner) → is_root c ≡ false → P (parent_of c) → P c) → (c : Corner) → P c
tree_ind P r s c = tree_ind_below P r s (size_of c) c (omega arith)

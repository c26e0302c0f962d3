-- A corner is known by its parent and the word it has in the parent's record.
-- Assumes nothing.
use mathlib.Core.Path.{◌≡◌, refl, ap, ap₂, sym, ◌∙◌}
use Prim.Native.Nat.{ℕ, zero, suc, ◌/◌, ◌≤◌}
use native.Mathlib.Omega.{arith}
use lib.IntN.{ℤ, pos, negsuc, neg_ℤ, nat_abs, pos-ne-negsuc}
use Rattle.grid.specs.declared.Corner.{Corner}
use Rattle.grid.specs.Grid.{corner}
use Rattle.grid.specs.Tree.{half_of, parent_of, slot_of, child_word}
use Rattle.grid.proofs.PathLaws.{nat_abs-half_of}

pub slot_small : (z : ℤ) → slot_of z ≤ 2
slot_small (pos n) = omega arith
slot_small (negsuc zero) = omega arith
slot_small (negsuc (suc n)) = omega arith

neg_pos : (k m : ℕ) → neg_ℤ (pos k) ≡ pos m → k ≡ 0
neg_pos zero m e = refl
neg_pos (suc k) m e = absurd (pos-ne-negsuc m k (sym e))

mixed : (m n : ℕ) → pos (m / 2) ≡ half_of (negsuc n) → slot_of (pos m) ≡ slot_of (negsuc n) → ⊥
mixed m zero e f = omega arith
mixed m (suc n) e f = omega (arith, neg_pos (suc (suc n) / 2) (m / 2) (sym e))

neg_slot : (m n : ℕ) → suc m / 2 ≡ suc n / 2 → slot_of (negsuc m) ≡ slot_of (negsuc n) → m ≡ n
neg_slot zero zero e f = refl
neg_slot zero (suc n) e f = absurd (omega arith)
neg_slot (suc m) zero e f = absurd (omega arith)
neg_slot (suc m) (suc n) e f = omega arith

child_axis : (z w : ℤ) → half_of z ≡ half_of w → slot_of z ≡ slot_of w → z ≡ w
child_axis (pos m) (pos n) e f = ap pos (omega (arith, ap nat_abs e))
child_axis (pos m) (negsuc n) e f = absurd (mixed m n e f)
child_axis (negsuc m) (pos n) e f = absurd (mixed n m (sym e) (sym f))
child_axis (negsuc m) (negsuc n) e f = ap negsuc (neg_slot m n (sym (nat_abs-half_of (negsuc m)) ∙ ap nat_abs e ∙ nat_abs-half_of (negsuc n)) f)

pub child_one : (c e : Corner) → parent_of c ≡ parent_of e → child_word c ≡ child_word e → c ≡ e
child_one c e p w =
    let x : slot_of c.0 ≡ slot_of e.0 = omega (arith, slot_small c.0, slot_small c.1, slot_small e.0, slot_small e.1) in
    let y : slot_of c.1 ≡ slot_of e.1 = omega (arith, slot_small c.0, slot_small c.1, slot_small e.0, slot_small e.1) in
    ap₂ corner (child_axis c.0 e.0 (ap (λ (a : Corner). a.0) p) x) (child_axis c.1 e.1 (ap (λ (a : Corner). a.1) p) y)

-- Coordinates as floats: the float of a whole number is that number.
-- Assumes nothing.
use mathlib.Core.Path.{◌≡◌, refl, sym, ap, ◌∙◌, subst}
use mathlib.Core.Bool.{Bool, true, false, not}
use Prim.Native.Nat.{ℕ, zero, suc, ◌*◌, ◌^◌, ◌≤◌}
use native.Mathlib.Nat.{mul-one, eq_of_mul-eq-mul_right}
use native.Mathlib.Omega.{arith}
use lib.Dec.{T}
use lib.IntN.{ℤ, pos, negsuc, neg_ℤ, nat_abs, ◌*ℤ◌, pos-*ℤ-pos, pos-*ℤ-negsuc}
use lib.Ieee.{Float, nan, inf, fin, binary64, up, down, of_int, is_nan}
use lib.Ieee.Back.{round_whole}
use lib.Ieee.Exact.{HasValue}
use lib.Ieee.Fits.{down_pos}
use Rattle.answer.specs.Limits.{farthest}
use Rattle.polygon.specs.Coordinate.{scale, signed, coordinate_of, IsWhole}

-- ---- the float of a whole number

abbrev pub is_neg : ℤ → Bool
is_neg (pos n) = false
is_neg (negsuc n) = true

pub of_int_value : (z : ℤ) → nat_abs z ≤ 2 ^ 53 → HasValue (of_int binary64 z) (is_neg z) (nat_abs z) 1
unfolding of_int
of_int_value (pos n) h = round_whole binary64 false n h
of_int_value (negsuc n) h = round_whole binary64 true (suc n) h

has_value : (x : Float) (s : Bool) (a c : ℕ) → HasValue x s a c → T (not (is_nan x))
unfolding is_nan
has_value nan s a c v = absurd v
has_value (inf t) s a c v = tt
has_value (fin t m e) s a c v = tt

of_int_no_nan : (z : ℤ) → nat_abs z ≤ 2 ^ 53 → T (not (is_nan (of_int binary64 z)))
of_int_no_nan z h = has_value (of_int binary64 z) (is_neg z) (nat_abs z) 1 (of_int_value z h)

-- ---- 600 times a coordinate

pub nat_abs_scaled : (z : ℤ) → nat_abs (pos scale *ℤ z) ≡ scale * nat_abs z
nat_abs_scaled (pos n) = ap nat_abs (pos-*ℤ-pos scale n)
nat_abs_scaled (negsuc n) = ap nat_abs (pos-*ℤ-negsuc scale n) ∙ nat_abs-neg (scale * suc n)
  where
    nat_abs-neg : (n : ℕ) → nat_abs (neg_ℤ (pos n)) ≡ n
    nat_abs-neg zero = refl
    nat_abs-neg (suc n) = refl

bound : (n : ℕ) → n ≤ farthest → 600 * n ≤ 2 ^ 53
bound n h = omega arith

pub scaled_le : (z : ℤ) → nat_abs z ≤ farthest → nat_abs (pos scale *ℤ z) ≤ 2 ^ 53
scaled_le z h = subst (λ (n : ℕ). n ≤ 2 ^ 53) (sym (nat_abs_scaled z)) (bound (nat_abs z) h)

pub coordinate_no_nan : (z : ℤ) → nat_abs z ≤ farthest → T (not (is_nan (coordinate_of z)))
unfolding coordinate_of
coordinate_no_nan z h = of_int_no_nan (pos scale *ℤ z) (scaled_le z h)

-- ---- the float that is written is the whole number, and zero is plus zero

value_whole : (x : Float) (z : ℤ) → HasValue x (is_neg z) (nat_abs z) 1 → IsWhole x z
unfolding IsWhole
value_whole nan z v = absurd v
value_whole (inf s) z v = absurd v
value_whole (fin s m e) (pos n) v = (n, sym (mul-one (m * up e)) ∙ v.1, ap (λ (b : Bool). signed b n) (sym v.0))
value_whole (fin s m e) (negsuc n) v = (suc n, sym (mul-one (m * up e)) ∙ v.1, ap (λ (b : Bool). signed b (suc n)) (sym v.0))

pub exact : (z : ℤ) → nat_abs z ≤ farthest → IsWhole (coordinate_of z) (pos scale *ℤ z)
unfolding coordinate_of
exact z h = value_whole (of_int binary64 (pos scale *ℤ z)) (pos scale *ℤ z) (of_int_value (pos scale *ℤ z) (scaled_le z h))

pub plus_zero : coordinate_of (pos 0) ≡ fin false 0 (pos 0)
unfolding coordinate_of of_int
plus_zero = refl

-- a float is one whole number at most
pub is_whole_one : (x : Float) (y z : ℤ) → IsWhole x y → IsWhole x z → y ≡ z
unfolding IsWhole
is_whole_one nan y z p q = absurd p
is_whole_one (inf s) y z p q = absurd p
is_whole_one (fin s m e) y z p q =
    p.2 ∙ ap (signed s) (eq_of_mul-eq-mul_right (down e) (down_pos e) p.0 q.0 (sym p.1 ∙ q.1)) ∙ sym q.2

-- The coordinate of a float goes by its value, and that of a coordinate's float is the coordinate.
-- Assumes nothing.
use Rattle.std.specs.Prelude.{None, Some}
use mathlib.Core.Path.{◌≡◌, refl, sym, ap, ◌∙◌, subst}
use mathlib.Core.Bool.{Bool, ◌&&◌}
use Prim.Native.Nat.{ℕ, zero, suc, ◌+◌, ◌*◌, ◌/◌, ◌%◌, ◌≤◌, ◌<◌}
use native.Mathlib.Nat.{mul_comm, mul_left_comm, mul_right_comm, mul-pos, mul-div_cancel, mul-mod_left, zero-lt-suc, lt_irrefl, add-mul, div-add-mod', zero-mul}
use native.Mathlib.Omega.{arith}
use borrow.Author.Tests.{le-leb}
use lib.Dec.{eqb, leb, eqb-suc-zero}
use lib.IntN.{ℤ, pos, negsuc, neg_ℤ, nat_abs, ◌*ℤ◌, pos-*ℤ-pos, pos-*ℤ-negsuc}
use lib.Ieee.{Float, nan, inf, fin, binary64, up, down, of_int}
use lib.Ieee.Exact.{HasValue}
use lib.Ieee.Fits.{down_pos}
use lib.Ieee.Nearest.{div_same}
use Rattle.answer.specs.Limits.{farthest}
use Rattle.polygon.specs.Coordinate.{scale, signed, coordinate_of}
use Rattle.polygon_ring.specs.Coordinate.{pick, whole_at, whole_of}
use Rattle.polygon_laws.proofs.ValueLaws.{is_neg, of_int_value, nat_abs_scaled, scaled_le}

-- ---- equal fractions are the same coordinate

zero_test : (x y b d : ℕ) → 0 < b → 0 < d → x * d ≡ y * b → eqb x 0 ≡ eqb y 0
zero_test zero zero b d B D h = refl
zero_test zero (suc y) b d B D h = absurd (lt_irrefl 0 (subst (λ (z : ℕ). 0 < z) (sym h ∙ zero-mul d) (mul-pos (zero-lt-suc y) B)))
zero_test (suc x) zero b d B D h = absurd (lt_irrefl 0 (subst (λ (z : ℕ). 0 < z) (h ∙ zero-mul b) (mul-pos (zero-lt-suc x) D)))
zero_test (suc x) (suc y) b d B D h = eqb-suc-zero x ∙ sym (eqb-suc-zero y)

cancel : (p q x y z w : ℕ) → p + x ≡ z → q + y ≡ w → p ≡ q → z ≡ w → x ≡ y
cancel p q x y z w a b e f = omega arith

rest-same : (a b c d : ℕ) → 0 < b → 0 < d → a * d ≡ c * b → a % b * d ≡ c % d * b
rest-same a b c d B D h =
    cancel (a / b * b * d) (c / d * d * b) (a % b * d) (c % d * b) (a * d) (c * b)
    (sym (add-mul (a / b * b) (a % b) d) ∙ ap (λ (z : ℕ). z * d) (div-add-mod' a b))
    (sym (add-mul (c / d * d) (c % d) b) ∙ ap (λ (z : ℕ). z * b) (div-add-mod' c d))
    (ap (λ (z : ℕ). z * b * d) (div_same a b c d B D h) ∙ mul_right_comm (c / d) b d)
    h

whole_at-same : (most : ℕ) (s : Bool) (a c a' c' : ℕ) → 0 < c → 0 < c' → a * c' ≡ a' * c → whole_at most s a c ≡ whole_at most s a' c'
unfolding whole_at
whole_at-same most s a c a' c' C C' h =
    let b = scale * c in
    let d = scale * c' in
    let B : 0 < b = mul-pos (zero-lt-suc 599) C in
    let D : 0 < d = mul-pos (zero-lt-suc 599) C' in
    let g : a * d ≡ a' * b = mul_left_comm a scale c' ∙ ap (λ (z : ℕ). scale * z) h ∙ mul_left_comm scale a' c in
    let q : a / b ≡ a' / d = div_same a b a' d B D g in
    let z : eqb (a % b) 0 ≡ eqb (a' % d) 0 = zero_test (a % b) (a' % d) b d B D (rest-same a b a' d B D g) in
    ap (λ (t : Bool). pick (t && leb (a / b) most) (Some (signed s (a / b))) None) z
    ∙ ap (λ (n : ℕ). pick (eqb (a' % d) 0 && leb n most) (Some (signed s n)) None) q

pub whole_of_value : (most : ℕ) (x : Float) (s : Bool) (a c : ℕ) → 0 < c → HasValue x s a c → whole_of most x ≡ whole_at most s a c
unfolding whole_of
whole_of_value most nan s a c C v = absurd v
whole_of_value most (inf t) s a c C v = absurd v
whole_of_value most (fin t m e) s a c C v =
    ap (λ (b : Bool). whole_at most b (m * up e) (down e)) v.0 ∙ whole_at-same most s (m * up e) (down e) a c (down_pos e) C v.1

-- ---- a multiple of 600 is its coordinate

pub whole_at_multiple : (most : ℕ) (s : Bool) (k c : ℕ) → 0 < c → k ≤ most → whole_at most s (k * (scale * c)) c ≡ Some (signed s k)
unfolding whole_at
whole_at_multiple most s k c C h =
    let B : 0 < scale * c = mul-pos (zero-lt-suc 599) C in
    ap (λ (n : ℕ). pick (eqb n 0 && leb (k * (scale * c) / (scale * c)) most) (Some (signed s (k * (scale * c) / (scale * c)))) None) (mul-mod_left k (scale * c))
    ∙ ap (λ (n : ℕ). pick (leb n most) (Some (signed s n)) None) (mul-div_cancel k B)
    ∙ ap (λ (t : Bool). pick t (Some (signed s k)) None) (le-leb k most h)

same_sign : (z : ℤ) → signed (is_neg (pos scale *ℤ z)) (nat_abs z) ≡ z
same_sign (pos n) = ap (λ (y : ℤ). signed (is_neg y) n) (pos-*ℤ-pos scale n)
same_sign (negsuc n) = ap (λ (y : ℤ). signed (is_neg y) (suc n)) (pos-*ℤ-negsuc scale n ∙ ap (λ (k : ℕ). neg_ℤ (pos k)) (more n))
  where
    more : (n : ℕ) → 600 * suc n ≡ suc (599 + 600 * n)
    more n = omega arith

-- the coordinate of the float of a coordinate
pub whole_of-coordinate_of : (most : ℕ) (z : ℤ) → nat_abs z ≤ most → most ≤ farthest → whole_of most (coordinate_of z) ≡ Some z
unfolding coordinate_of
whole_of-coordinate_of most z h m =
    let y = pos scale *ℤ z in
    whole_of_value most (of_int binary64 y) (is_neg y) (nat_abs y) 1 (zero-lt-suc 0) (of_int_value y (scaled_le z (omega arith)))
    ∙ ap (λ (n : ℕ). whole_at most (is_neg y) n 1) (nat_abs_scaled z ∙ mul_comm scale (nat_abs z))
    ∙ whole_at_multiple most (is_neg y) (nat_abs z) 1 (zero-lt-suc 0) h
    ∙ ap Some (same_sign z)

-- The value of a float by the fields of its bits, and which bits are a NaN's.
-- Assumes nothing.
use mathlib.Core.Path.{◌≡◌, refl, sym, ap, ◌∙◌, subst}
use mathlib.Core.Bool.{Bool, cond}
use Prim.Native.Nat.{ℕ, suc, ◌+◌, ◌*◌, ◌/◌, ◌%◌, ◌^◌, ◌<◌}
use native.Mathlib.Nat.{lt_irrefl, mul-one, mul_right_comm, eq_of_mul-eq-mul_right}
use borrow.Author.Tests.{ne_eqb}
use lib.Dec.{eqb, leb}
use lib.Ieee.{Float, nan, inf, fin, binary64, up, down, odd, of_fields, of_bits, hid, top}
use lib.Ieee.Exact.{HasValue, odd_sign}

-- ---- the three fields: the sign, the exponent's field and the digits

pub of_bits_is : (b : ℕ) → of_bits binary64 b ≡ of_fields binary64 (leb (top binary64) b) (b % top binary64 / hid binary64) (b % hid binary64)
unfolding of_bits
of_bits_is b = refl

mid_is : (s : Bool) (x t : ℕ) → suc x < 2047 → of_fields binary64 s (suc x) t ≡ odd 53 s (2 ^ 52 + t) x 1074
unfolding of_fields
mid_is s x t h =
    ap (λ (b : Bool). cond b (cond (eqb t 0) (inf s) nan) (odd 53 s (2 ^ 52 + t) x 1074)) (ne_eqb (suc x) 2047 (λ e. lt_irrefl 2047 (subst (λ (n : ℕ). n < 2047) e h)))

pub mid_value : (s : Bool) (x t : ℕ) → suc x < 2047 → HasValue (of_fields binary64 s (suc x) t) s ((2 ^ 52 + t) * 2 ^ x) (2 ^ 1074)
mid_value s x t h = subst (λ (v : Float). HasValue v s ((2 ^ 52 + t) * 2 ^ x) (2 ^ 1074)) (sym (mid_is s x t h)) (odd_sign 53 s (2 ^ 52 + t) x 1074)

-- ---- a value in other units

pub value_unit : (x : Float) (s : Bool) (a p : ℕ) → 0 < p → HasValue x s (a * p) p → HasValue x s a 1
value_unit nan s a p h v = v
value_unit (inf t) s a p h v = v
value_unit (fin t m e) s a p h v = (v.0, mul-one (m * up e) ∙ eq_of_mul-eq-mul_right p h (m * up e) (a * down e) (v.1 ∙ mul_right_comm a p (down e)))

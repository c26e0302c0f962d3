-- The exponent and the digits of a float show whether it is a coordinate, and which.
-- Assumes nothing.
use Rattle.std.specs.Prelude.{None, Option, Some}
use mathlib.Core.Path.{◌≡◌, refl, sym, ap, ap₂, ◌∙◌, subst}
use mathlib.Core.Logic.{◌⊎◌, inl, inr, ⊎_elim}
use mathlib.Core.Bool.{Bool, true, false, not, ◌&&◌, cond, false≢true}
use Prim.Native.Nat.{ℕ, zero, suc, ◌+◌, ◌-◌, ◌*◌, ◌/◌, ◌%◌, ◌^◌, ◌≤◌, ◌<◌}
use native.Mathlib.Decide.{dec_lt}
use native.Mathlib.Nat.{mul_assoc, mul_comm, mul-one, one-mul, mul_right_comm, mul-pos, zero-mul, zero-lt-suc, lt_irrefl, le_trans, lt_of_lt_of_le, lt_of_le_of_lt, le_of_eq, mul-le-mul_left, mul-le-mul_right, eq_of_mul-eq-mul_right, div-le_self, div-mul-le_self, mod-eq_of_lt}
use native.Mathlib.Omega.{arith}
use borrow.Author.Tests.{lt-leb, le-leb, leb-true, lt-ltb, le-ltb, eqb-true, eq-eqb}
use lib.Dec.{T, eqb, leb, lit≤}
use lib.IntN.{ℤ, pos, nat_abs}
use mir.Syntax.{w32}
use mir.Val.{to_z, of_z}
use lib.Pow.{pow-add, pow_pos, pow_mono, shl_lt, shl-shr, shr_le, mod-mod-pow}
use lib.Ieee.{Float, nan, inf, fin, binary64, up, down, of_fields, of_bits, to_bits, fits, is_nan, nan_bits}
use lib.Ieee.Bits.{of_bits-to_bits, nan_bits_is, nan_bits_above}
use lib.Ieee.Exact.{HasValue, odd_sign}
use lib.Ieee.Fits.{down_pos}
use Rattle.answer.specs.Limits.{farthest}
use Rattle.lists.proofs.GatherLaws.{and_left, and_right}
use Rattle.polygon.specs.Coordinate.{scale, signed}
use Rattle.polygon_laws.proofs.SignedLaws.{back}
use Rattle.polygon_ring.specs.Coordinate.{whole_at, whole_of}
use Rattle.polygon_ring_laws.specs.Fields.{float_kept, bits_kept, negative_in, size_in, digits_in, places_in, in_reach, panels_shown, IsAccepted}
use Rattle.polygon_ring_laws.proofs.BitsLaws.{of_bits_is, mid_value, value_unit}
use Rattle.polygon_ring_laws.proofs.TakeLaws.{nat_abs-signed, accepted_value}
use Rattle.polygon_ring_laws.proofs.WholeLaws.{whole_of_value, whole_at_multiple}

-- ---- what is kept: the float, or an infinity for what is not a number

kept_as : (most : ℕ) (x : Float) (t : Bool) → t ≡ is_nan x → whole_of most (cond t (inf false) x) ≡ whole_of most x
unfolding is_nan whole_of
kept_as most nan true e = refl
kept_as most nan false e = absurd (false≢true e)
kept_as most (inf s) true e = refl
kept_as most (inf s) false e = refl
kept_as most (fin s m d) true e = absurd (false≢true (sym e))
kept_as most (fin s m d) false e = refl

pub kept_whole : (most b : ℕ) → whole_of most (float_kept b) ≡ whole_of most (of_bits binary64 b)
unfolding float_kept
kept_whole most b = kept_as most (of_bits binary64 b) (nan_bits binary64 b) (nan_bits_is binary64 b)

pub kept_nan : (b : ℕ) → 0x7ff0_0000_0000_0000 < b % 2 ^ 63 → 0x7ff0_0000_0000_0000 ≡ bits_kept b
unfolding bits_kept
kept_nan b h = sym (ap (λ (t : Bool). cond t 0x7ff0_0000_0000_0000 b) (nan_bits_above binary64 b ∙ lt-ltb 0x7ff0_0000_0000_0000 (b % 2 ^ 63) h))

pub kept_other : (b : ℕ) → b % 2 ^ 63 ≤ 0x7ff0_0000_0000_0000 → b ≡ bits_kept b
unfolding bits_kept
kept_other b h = sym (ap (λ (t : Bool). cond t 0x7ff0_0000_0000_0000 b) (nan_bits_above binary64 b ∙ le-ltb 0x7ff0_0000_0000_0000 (b % 2 ^ 63) h))

infinity : of_bits binary64 0x7ff0_0000_0000_0000 ≡ inf false
unfolding of_bits
infinity = refl

pub kept_float : (b : ℕ) → of_bits binary64 (bits_kept b) ≡ float_kept b
unfolding bits_kept float_kept
kept_float b = go (nan_bits binary64 b)
  where
    go : (t : Bool) → of_bits binary64 (cond t 0x7ff0_0000_0000_0000 b) ≡ cond t (inf false) (of_bits binary64 b)
    go true = infinity
    go false = refl

no_nan : (x : Float) (t : Bool) → t ≡ is_nan x → T (not (is_nan (cond t (inf false) x)))
unfolding is_nan
no_nan nan true e = tt
no_nan nan false e = absurd (false≢true e)
no_nan (inf s) true e = tt
no_nan (inf s) false e = tt
no_nan (fin s m d) true e = tt
no_nan (fin s m d) false e = tt

pub kept-number : (b : ℕ) → T (not (is_nan (float_kept b)))
unfolding float_kept
kept-number b = no_nan (of_bits binary64 b) (nan_bits binary64 b) (nan_bits_is binary64 b)

pub kept_shows : (b : ℕ) → T (not (nan_bits binary64 (bits_kept b)))
kept_shows b = subst (λ (t : Bool). T (not t)) (sym (nan_bits_is binary64 (bits_kept b))) (subst (λ (x : Float). T (not (is_nan x))) (sym (kept_float b)) (kept-number b))

-- ---- two values of one float are one

one_value : (x : Float) (s t : Bool) (a c a' c' : ℕ) → HasValue x s a c → HasValue x t a' c' → (s ≡ t) × (a * c' ≡ a' * c)
one_value nan s t a c a' c' v w = absurd v
one_value (inf g) s t a c a' c' v w = absurd v
one_value (fin g m e) s t a c a' c' v w = (
  sym v.0 ∙ w.0,
  eq_of_mul-eq-mul_right (down e) (down_pos e) (a * c') (a' * c)
      (mul_right_comm a c' (down e) ∙ ap (λ (n : ℕ). n * c') (sym v.1) ∙ mul_right_comm (m * up e) c c' ∙ ap (λ (n : ℕ). n * c) w.1 ∙ mul_right_comm a' (down e) c),
)

-- ---- the exponent of 600 n, with n from 1 to 32,768

too_large : (d q x : ℕ) → 2 ^ 52 ≤ d → q < 2 ^ 25 → 1047 ≤ x → d * 2 ^ x ≡ q * 2 ^ 1074 → ⊥
too_large d q x h l g e =
    let u : 2 ^ (52 + 1047) ≤ d * 2 ^ x = le_trans (le_of_eq (pow-add 2 52 1047)) (le_trans (mul-le-mul_right (2 ^ 1047) h) (mul-le-mul_left d (pow_mono g))) in
    lt_irrefl (2 ^ 1099) (lt_of_le_of_lt u (lt_of_le_of_lt (le_of_eq e) (shl_lt 25 1074 l)))

too_small : (d q x : ℕ) → d < 2 ^ 53 → 2 ^ 9 ≤ q → x ≤ 1030 → d * 2 ^ x ≡ q * 2 ^ 1074 → ⊥
too_small d q x h l g e =
    let u : 2 ^ (9 + 1074) ≤ q * 2 ^ 1074 = le_trans (le_of_eq (pow-add 2 9 1074)) (mul-le-mul_right (2 ^ 1074) l) in
    lt_irrefl (2 ^ 1083) (lt_of_le_of_lt u (lt_of_le_of_lt (le_of_eq (sym e)) (lt_of_lt_of_le (shl_lt 53 x h) (pow_mono {i = 53 + x} {j = 1083} (omega arith)))))

-- ---- the value by the fields

refused_of : {z : ℤ} → None ≡ Some z → ⊥
refused_of e = let z : ◌≡◌ {A = ℕ} 0 1 = cc in omega arith

refused_top : (most : ℕ) (s : Bool) (t : ℕ) → whole_of most (of_fields binary64 s 2047 t) ≡ None
unfolding whole_of of_fields
refused_top most s t = go (eqb t 0)
  where
    go : (z : Bool) → whole_of most (cond z (inf s) nan) ≡ None
    go true = refl
    go false = refl

module _ (b : ℕ) where
  mid : (x : ℕ) → size_in b / 2 ^ 52 ≡ suc x → suc x < 2047 → HasValue (of_bits binary64 b) (negative_in b) (digits_in (size_in b) * 2 ^ x) (2 ^ 1074)
  mid x e h =
      subst (λ (v : Float). HasValue v (negative_in b) (digits_in (size_in b) * 2 ^ x) (2 ^ 1074)) (sym (of_bits_is b ∙ ap (λ (n : ℕ). of_fields binary64 (negative_in b) n (b % 2 ^ 52)) e))
      (subst (λ (n : ℕ). HasValue (of_fields binary64 (negative_in b) (suc x) (b % 2 ^ 52)) (negative_in b) ((2 ^ 52 + n) * 2 ^ x) (2 ^ 1074)) (sym (mod-mod-pow b 11 52)) (mid_value (negative_in b) x (b % 2 ^ 52) h))

  least : size_in b / 2 ^ 52 ≡ 0 → HasValue (of_bits binary64 b) (negative_in b) (b % 2 ^ 52 * 2 ^ 0) (2 ^ 1074)
  unfolding of_fields
  least e =
      subst (λ (v : Float). HasValue v (negative_in b) (b % 2 ^ 52 * 2 ^ 0) (2 ^ 1074)) (sym (of_bits_is b ∙ ap (λ (n : ℕ). of_fields binary64 (negative_in b) n (b % 2 ^ 52)) e))
      (odd_sign 53 (negative_in b) (b % 2 ^ 52) 0 1074)

  top_refused : (most : ℕ) → size_in b / 2 ^ 52 ≡ 2047 → whole_of most (of_bits binary64 b) ≡ None
  top_refused most e = ap (whole_of most) (of_bits_is b ∙ ap (λ (n : ℕ). of_fields binary64 (negative_in b) n (b % 2 ^ 52)) e) ∙ refused_top most (negative_in b) (b % 2 ^ 52)

-- ---- the panels that the fields show

pub reach_range : (m : ℕ) → in_reach m ≡ true → (1032 ≤ m / 2 ^ 52) × (m / 2 ^ 52 ≤ 1047)
unfolding in_reach
reach_range m h = (leb-true 1032 (m / 2 ^ 52) (and_left (leb 1032 (m / 2 ^ 52)) (leb (m / 2 ^ 52) 1047) h), leb-true (m / 2 ^ 52) 1047 (and_right (leb 1032 (m / 2 ^ 52)) (leb (m / 2 ^ 52) 1047) h))

range_reach : (m : ℕ) → 1032 ≤ m / 2 ^ 52 → m / 2 ^ 52 ≤ 1047 → in_reach m ≡ true
unfolding in_reach
range_reach m h k = ap₂ ◌&&◌ (le-leb 1032 (m / 2 ^ 52) h) (le-leb (m / 2 ^ 52) 1047 k)

pub reach-low : (m : ℕ) → m / 2 ^ 52 < 1032 → false ≡ in_reach m
unfolding in_reach
reach-low m h = sym (ap (λ (t : Bool). t && leb (m / 2 ^ 52) 1047) (lt-leb 1032 (m / 2 ^ 52) h))

pub reach-up : (m : ℕ) → 1032 ≤ m / 2 ^ 52 → leb (m / 2 ^ 52) 1047 ≡ in_reach m
unfolding in_reach
reach-up m h = sym (ap (λ (t : Bool). t && leb (m / 2 ^ 52) 1047) (le-leb 1032 (m / 2 ^ 52) h))

pub reach_not : (m : ℕ) (r : Bool) → r ≡ in_reach m → not r ≡ true → in_reach m ≡ false
reach_not m true e h = absurd (false≢true h)
reach_not m false e h = sym e

pub reach_yes : (m : ℕ) (r : Bool) → r ≡ in_reach m → not r ≡ false → in_reach m ≡ true
reach_yes m true e h = sym e
reach_yes m false e h = absurd (false≢true (sym h))

no_panels : (m : ℕ) → m ≡ 0 → panels_shown m ≡ 0
no_panels m e = ap panels_shown e

-- what an accepted float shows: the coordinate, and either no bits or the digits of 600 times it
record Shown (most b : ℕ) (z : ℤ) : Type 0 where
  coordinate : z ≡ signed (negative_in b) (panels_shown (size_in b))
  within : panels_shown (size_in b) ≤ most
  digits : (size_in b ≡ 0) ⊎ ((in_reach (size_in b) ≡ true) × (scale * panels_shown (size_in b) * 2 ^ places_in (size_in b) ≡ digits_in (size_in b)))

-- 600 n has its digits, and no others, at its exponent
digits_are : (d n x : ℕ) → x < 1075 → d * 2 ^ x ≡ scale * n * 2 ^ 1074 → scale * n * 2 ^ (1075 - suc x) ≡ d
digits_are d n x h e =
    eq_of_mul-eq-mul_right (2 ^ x) (pow_pos x) (scale * n * 2 ^ (1075 - suc x)) d
    (mul_assoc (scale * n) (2 ^ (1075 - suc x)) (2 ^ x) ∙ ap (λ (k : ℕ). scale * n * k) (sym (pow-add 2 (1075 - suc x) x) ∙ ap (λ (k : ℕ). 2 ^ k) (whole x h)) ∙ sym e)
  where
    whole : (x : ℕ) → x < 1075 → 1075 - suc x + x ≡ 1074
    whole x h = omega arith

panels_are : (d n k : ℕ) → scale * n * 2 ^ k ≡ d → d / 2 ^ k / scale ≡ n
panels_are d n k e = ap (λ (j : ℕ). j / 2 ^ k / scale) (sym e) ∙ ap (λ (j : ℕ). j / scale) (shl-shr (scale * n) k) ∙ last n
  where
    last : (n : ℕ) → scale * n / scale ≡ n
    last n = omega arith

-- ---- in: an accepted float shows its coordinate

module _ (most : ℕ) (u : most ≤ farthest) (b : ℕ) where
  -- an exponent of 0: only the digits 0 are a whole number
  shown_least : (s : Bool) (n : ℕ) → size_in b / 2 ^ 52 ≡ 0 → negative_in b ≡ s → b % 2 ^ 52 * 2 ^ 0 * 1 ≡ scale * n * 2 ^ 1074 → Shown most b (signed s n)
  shown_least s zero e g h =
      let z : size_in b ≡ 0 = none (size_in b) e (mod-mod-pow b 11 52 ∙ unit (b % 2 ^ 52) h) in
      let k = no_panels (size_in b) z in
      record { coordinate = ap₂ signed (sym g) (sym k); within = subst (λ (j : ℕ). j ≤ most) (sym k) (omega arith); digits = inl z }
    where
      unit : (r : ℕ) → r * 2 ^ 0 * 1 ≡ scale * 0 * 2 ^ 1074 → r ≡ 0
      unit r h = sym (mul-one r) ∙ sym (mul-one (r * 1)) ∙ h ∙ zero-mul (2 ^ 1074)

      none : (m : ℕ) → m / 2 ^ 52 ≡ 0 → m % 2 ^ 52 ≡ 0 → m ≡ 0
      none m e h = omega arith
  shown_least s (suc n) e g h = absurd (short (b % 2 ^ 52) n (low b) h)
    where
      low : (b : ℕ) → b % 2 ^ 52 < 2 ^ 52
      low b = omega arith

      short : (r n : ℕ) → r < 2 ^ 52 → r * 2 ^ 0 * 1 ≡ scale * suc n * 2 ^ 1074 → ⊥
      short r n l h =
          let v : 2 ^ 1074 ≤ r * 2 ^ 0 * 1 = le_trans (le_of_eq (sym (one-mul (2 ^ 1074)))) (le_trans (mul-le-mul_right (2 ^ 1074) (some n)) (le_of_eq (sym h))) in
          lt_irrefl (2 ^ 1074) (lt_of_le_of_lt v (lt_of_lt_of_le (subst (λ (k : ℕ). k < 2 ^ 52) (sym (mul-one (r * 1) ∙ mul-one r)) l) (pow_mono {i = 52} {j = 1074} (lit≤ tt))))
        where
          some : (n : ℕ) → 1 ≤ scale * suc n
          some n = omega arith

  -- any other: the digits are those of 600 n
  shown_mid : (s : Bool) (n x : ℕ) → size_in b / 2 ^ 52 ≡ suc x → negative_in b ≡ s → n ≤ most → digits_in (size_in b) * 2 ^ x * 1 ≡ scale * n * 2 ^ 1074 → Shown most b (signed s n)
  shown_mid s zero x e g l h =
      absurd (lt_irrefl 0 (lt_of_lt_of_le (mul-pos (lead (size_in b)) (pow_pos x)) (le_of_eq (sym (mul-one (digits_in (size_in b) * 2 ^ x)) ∙ h ∙ zero-mul (2 ^ 1074)))))
    where
      lead : (m : ℕ) → 0 < digits_in m
      lead m = omega arith
  shown_mid s (suc n) x e g l h = go (dec_lt 1046 x) (dec_lt x 1031)
    where
      q : digits_in (size_in b) * 2 ^ x ≡ scale * suc n * 2 ^ 1074
      q = sym (mul-one (digits_in (size_in b) * 2 ^ x)) ∙ h

      least' : (m : ℕ) → 2 ^ 52 ≤ digits_in m
      least' m = omega arith

      most' : (m : ℕ) → digits_in m < 2 ^ 53
      most' m = omega arith

      go : Dec (1046 < x) → Dec (x < 1031) → Shown most b (signed s (suc n))
      go (yes i) j = absurd (too_large (digits_in (size_in b)) (scale * suc n) x (least' (size_in b)) (omega arith) (omega arith) q)
      go (no i) (yes j) = absurd (too_small (digits_in (size_in b)) (scale * suc n) x (most' (size_in b)) (omega arith) (omega arith) q)
      go (no i) (no j) =
          let w : scale * suc n * 2 ^ places_in (size_in b) ≡ digits_in (size_in b) =
          ap (λ (k : ℕ). scale * suc n * 2 ^ (1075 - k)) e ∙ digits_are (digits_in (size_in b)) (suc n) x (omega arith) q in
          let k : panels_shown (size_in b) ≡ suc n =
          panels_are (digits_in (size_in b)) (suc n) (places_in (size_in b)) w in
          record {
            coordinate = ap₂ signed (sym g) (sym k);
            within = subst (λ (j : ℕ). j ≤ most) (sym k) l;
            digits = inr (range_reach (size_in b) (omega arith) (omega arith), ap (λ (j : ℕ). scale * j * 2 ^ places_in (size_in b)) k ∙ w);
          }

  shown : (z : ℤ) → whole_of most (of_bits binary64 b) ≡ Some z → Shown most b z
  shown z h = subst (Shown most b) w.2 (go (size_in b / 2 ^ 52) refl (dec_lt (size_in b / 2 ^ 52) 2047))
    where
      w : (s : Bool) × HasValue (of_bits binary64 b) s (scale * nat_abs z) 1 × (signed s (nat_abs z) ≡ z) × (nat_abs z ≤ most)
      w = accepted_value most (of_bits binary64 b) z h

      size : (b : ℕ) → size_in b / 2 ^ 52 < 2048
      size b = omega arith

      go : (e : ℕ) → size_in b / 2 ^ 52 ≡ e → Dec (size_in b / 2 ^ 52 < 2047) → Shown most b (signed w.0 (nat_abs z))
      go e f (no l) = absurd (refused_of (sym (top_refused b most (omega (arith, size b))) ∙ h))
      go zero f (yes l) =
          let v = one_value (of_bits binary64 b) (negative_in b) w.0 (b % 2 ^ 52 * 2 ^ 0) (2 ^ 1074) (scale * nat_abs z) 1 (least b f) w.1 in
          shown_least w.0 (nat_abs z) f v.0 v.1
      go (suc x) f (yes l) =
          let v = one_value (of_bits binary64 b) (negative_in b) w.0 (digits_in (size_in b) * 2 ^ x) (2 ^ 1074) (scale * nat_abs z) 1 (mid b x f (omega arith)) w.1 in
          shown_mid w.0 (nat_abs z) x f v.0 w.3 v.1

  -- ---- and a float that shows one is it

  is_zero : size_in b ≡ 0 → Some (pos 0) ≡ whole_of most (of_bits binary64 b)
  is_zero h =
      let e : size_in b / 2 ^ 52 ≡ 0 = ap (λ (m : ℕ). m / 2 ^ 52) h in
      let r : b % 2 ^ 52 * 2 ^ 0 ≡ 0 * (scale * 2 ^ 1074) = ap (λ (n : ℕ). n * 2 ^ 0) (sym (mod-mod-pow b 11 52) ∙ ap (λ (m : ℕ). m % 2 ^ 52) h) ∙ sym (zero-mul (scale * 2 ^ 1074)) in
      sym (whole_of_value most (of_bits binary64 b) (negative_in b) (b % 2 ^ 52 * 2 ^ 0) (2 ^ 1074) (pow_pos 1074) (least b e)
      ∙ ap (λ (n : ℕ). whole_at most (negative_in b) n (2 ^ 1074)) r
      ∙ whole_at_multiple most (negative_in b) 0 (2 ^ 1074) (pow_pos 1074) (omega arith)
      ∙ ap Some (unsigned (negative_in b)))
    where
      unsigned : (s : Bool) → signed s 0 ≡ pos 0
      unsigned true = refl
      unsigned false = refl

  is_coordinate : in_reach (size_in b) ≡ true → scale * panels_shown (size_in b) * 2 ^ places_in (size_in b) ≡ digits_in (size_in b) → panels_shown (size_in b) ≤ most → Some (signed (negative_in b) (panels_shown (size_in b))) ≡ whole_of most (of_bits binary64 b)
  is_coordinate h d l = go (size_in b / 2 ^ 52) refl
    where
      r : (1032 ≤ size_in b / 2 ^ 52) × (size_in b / 2 ^ 52 ≤ 1047)
      r = reach_range (size_in b) h

      go : (e : ℕ) → size_in b / 2 ^ 52 ≡ e → Some (signed (negative_in b) (panels_shown (size_in b))) ≡ whole_of most (of_bits binary64 b)
      go zero f = absurd (omega (arith, r.0))
      go (suc x) f =
          let v : digits_in (size_in b) * 2 ^ x ≡ scale * panels_shown (size_in b) * 2 ^ 1074 =
          ap (λ (k : ℕ). k * 2 ^ x) (sym d) ∙ mul_assoc (scale * panels_shown (size_in b)) (2 ^ places_in (size_in b)) (2 ^ x)
          ∙ ap (λ (k : ℕ). scale * panels_shown (size_in b) * k) (sym (pow-add 2 (places_in (size_in b)) x) ∙ ap (λ (k : ℕ). 2 ^ k) (whole (size_in b / 2 ^ 52) x f (omega (arith, r.1)))) in
          let c : HasValue (of_bits binary64 b) (negative_in b) (scale * panels_shown (size_in b)) 1 =
          value_unit (of_bits binary64 b) (negative_in b) (scale * panels_shown (size_in b)) (2 ^ 1074) (pow_pos 1074)
          (subst (λ (k : ℕ). HasValue (of_bits binary64 b) (negative_in b) k (2 ^ 1074)) v (mid b x f (omega (arith, r.1)))) in
          sym (whole_of_value most (of_bits binary64 b) (negative_in b) (scale * panels_shown (size_in b)) 1 (zero-lt-suc 0) c
          ∙ ap (λ (k : ℕ). whole_at most (negative_in b) k 1) (mul_comm scale (panels_shown (size_in b)))
          ∙ whole_at_multiple most (negative_in b) (panels_shown (size_in b)) 1 (zero-lt-suc 0) l)
        where
          whole : (e x : ℕ) → e ≡ suc x → x < 1075 → 1075 - e + x ≡ 1074
          whole e x f h = omega arith

-- ---- what the tests of the code say of a float's bits

-- the digits before the point are not more than all
pub panels_most : (m : ℕ) → panels_shown m < 2 ^ 53
panels_most m = lt_of_le_of_lt (le_trans (div-le_self (digits_in m / 2 ^ places_in m) scale) (shr_le (digits_in m) (places_in m))) (most m)
  where
    most : (m : ℕ) → digits_in m < 2 ^ 53
    most m = omega arith

-- and 600 times the panels, moved back, is not more either
pub panels_back : (m n : ℕ) → n ≡ panels_shown m → (600 * n * 2 ^ places_in m) % 2 ^ 64 ≡ scale * n * 2 ^ places_in m
panels_back m n e =
    let l : scale * n ≤ digits_in m / 2 ^ places_in m = part (digits_in m / 2 ^ places_in m) n e in
    mod-eq_of_lt (lt_of_le_of_lt (mul-le-mul_right (2 ^ places_in m) l) (lt_of_le_of_lt (div-mul-le_self (digits_in m) (2 ^ places_in m)) (most m)))
  where
    part : (d n : ℕ) → n ≡ d / scale → scale * n ≤ d
    part d n e = omega arith

    most : (m : ℕ) → digits_in m < 2 ^ 64
    most m = omega arith

module _ (most : ℕ) (u : most ≤ farthest) (x : Float) (f : T (fits binary64 x)) where
  its : of_bits binary64 (to_bits binary64 x) ≡ x
  its = of_bits-to_bits binary64 x f

  none_of : ((z : ℤ) → Shown most (to_bits binary64 x) z → ⊥) → None ≡ whole_of most x
  none_of h = go (whole_of most x) refl
    where
      go : (w : Option ℤ) → whole_of most x ≡ w → None ≡ w
      go None e = refl
      go (Some z) e = absurd (h z (shown most u (to_bits binary64 x) z (ap (whole_of most) its ∙ e)))

  pub whole_zero : size_in (to_bits binary64 x) ≡ 0 → Some (pos 0) ≡ whole_of most x
  whole_zero h = is_zero most u (to_bits binary64 x) h ∙ ap (whole_of most) its

  pub whole_out : (size_in (to_bits binary64 x) ≡ 0 → ⊥) → in_reach (size_in (to_bits binary64 x)) ≡ false → None ≡ whole_of most x
  whole_out h k = none_of (λ z w. ⊎_elim h (λ p. false≢true (sym k ∙ p.0)) w.digits)

  module _ (n : ℕ) (e : n ≡ panels_shown (size_in (to_bits binary64 x))) where
    pub whole-far : most < n → None ≡ whole_of most x
    whole-far h = none_of (λ z w. let l = w.within in omega (arith, e, l, h))

    pub whole_other : (size_in (to_bits binary64 x) ≡ 0 → ⊥) → eqb (scale * n * 2 ^ places_in (size_in (to_bits binary64 x))) (digits_in (size_in (to_bits binary64 x))) ≡ false → None ≡ whole_of most x
    whole_other k h = none_of (λ z w. ⊎_elim k (λ p. false≢true (sym h ∙ eq-eqb (scale * n * 2 ^ places_in (size_in (to_bits binary64 x))) (digits_in (size_in (to_bits binary64 x))) (ap (λ (j : ℕ). scale * j * 2 ^ places_in (size_in (to_bits binary64 x))) e ∙ p.1))) w.digits)

    pub whole_is : (r : ℤ) → in_reach (size_in (to_bits binary64 x)) ≡ true → n ≤ most → eqb (scale * n * 2 ^ places_in (size_in (to_bits binary64 x))) (digits_in (size_in (to_bits binary64 x))) ≡ true → r ≡ signed (negative_in (to_bits binary64 x)) n → Some (to_z w32 (of_z w32 r)) ≡ whole_of most x
    whole_is r k l h g =
        ap Some (back r (subst (λ (z : ℤ). nat_abs z ≤ farthest) (sym g) (omega (arith, nat_abs-signed (negative_in (to_bits binary64 x)) n))) ∙ g ∙ ap (signed (negative_in (to_bits binary64 x))) e)
        ∙ is_coordinate most u (to_bits binary64 x) k (ap (λ (j : ℕ). scale * j * 2 ^ places_in (size_in (to_bits binary64 x))) (sym e) ∙ eqb-true (scale * n * 2 ^ places_in (size_in (to_bits binary64 x))) (digits_in (size_in (to_bits binary64 x))) h) (subst (λ (j : ℕ). j ≤ most) e l)
        ∙ ap (whole_of most) its

-- ---- the bits of a float that was accepted before

module _ (b : ℕ) (a : IsAccepted (of_bits binary64 b)) where
  before : Shown farthest b a.0
  before = shown farthest (omega arith) b a.0 a.1

  pub known_zero : size_in b ≡ 0 → Some (pos 0) ≡ whole_of farthest (of_bits binary64 b)
  known_zero h = is_zero farthest (omega arith) b h

  pub known_reach : (size_in b ≡ 0 → ⊥) → in_reach (size_in b) ≡ true
  known_reach h = ⊎_elim (λ z. absurd (h z)) (λ p. p.0) before.digits

  module _ (n : ℕ) (e : n ≡ panels_shown (size_in b)) where
    pub known_le : n ≤ farthest
    known_le = subst (λ (j : ℕ). j ≤ farthest) (sym e) before.within

    pub known_is : (r : ℤ) → r ≡ signed (negative_in b) n → Some (to_z w32 (of_z w32 r)) ≡ whole_of farthest (of_bits binary64 b)
    known_is r g = ap Some (back r (subst (λ (z : ℤ). nat_abs z ≤ farthest) (sym g) (omega (arith, known_le, nat_abs-signed (negative_in b) n))) ∙ g ∙ ap (signed (negative_in b)) e ∙ sym before.coordinate) ∙ sym a.1

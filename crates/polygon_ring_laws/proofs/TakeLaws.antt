-- What the office and the landlords ask of coordinates: exact out, nothing lost in, and back again.
-- Assumes nothing.
use Rattle.std.specs.Prelude.{None, Some}
use mathlib.Core.Path.{◌≡◌, refl, sym, ap, ap₂, ◌∙◌, subst}
use mathlib.Core.Bool.{Bool, true, false, ◌&&◌}
use mathlib.Core.List.{List, ◌++◌, append_assoc}
use Prim.Native.Nat.{ℕ, zero, suc, ◌+◌, ◌*◌, ◌/◌, ◌%◌, ◌≤◌, ◌<◌}
use native.Mathlib.Nat.{mul_assoc, mul-one, zero-lt-suc, lt_irrefl, div-add-mod', add-zero, mul_left_comm, lt_of_lt_of_le}
use native.Mathlib.Omega.{arith}
use borrow.Author.Tests.{eqb-true, leb-true}
use lib.Dec.{eqb, leb, lit≤}
use lib.ListN.{length, take, drop}
use lib.Seq.{take_at, drop_at}
use lib.IntN.{ℤ, pos, negsuc, neg_ℤ, nat_abs, ◌*ℤ◌, pos-*ℤ-pos, pos-*ℤ-negsuc, pos-ne-negsuc}
use lib.Ieee.{Float, nan, inf, fin, binary64, up, down, of_int, to_bits, of_bits}
use lib.Ieee.Bits.{of_bits-to_bits, to_bits-lt}
use lib.Ieee.Fits.{down_pos, of_int-fits}
use lib.Ieee.Exact.{HasValue}
use Rattle.answer.specs.Limits.{farthest}
use Rattle.polygon_ring.specs.Bytes.{number_in}
use Rattle.polygon.specs.Coordinate.{scale, signed, coordinate_of, IsWhole}
use Rattle.polygon_ring.specs.Coordinate.{pick, whole_at, whole_of}
use Rattle.polygon.specs.Polygon.{coordinate_bytes, point_bytes}
use Rattle.polygon_ring.specs.Ring.{both}
use Rattle.polygon_ring_laws.specs.Reading.{grid_point_of}
use Rattle.polygon_ring_laws.specs.Files.{IsCoordinate}
use Rattle.polygon_ring_laws.proofs.NumberLaws.{number_of-bytes_of}
use Rattle.polygon_laws.proofs.BytesLaws.{length-bytes_of}
use Rattle.polygon_ring_laws.proofs.WholeLaws.{whole_of-coordinate_of, whole_at_multiple}
use Rattle.grid.specs.declared.Corner.{Corner}

pub nat_abs-signed : (s : Bool) (n : ℕ) → nat_abs (signed s n) ≡ n
nat_abs-signed true zero = refl
nat_abs-signed true (suc n) = refl
nat_abs-signed false n = refl

-- ---- in: a coordinate is accepted exactly if the float is 600 times a whole number in range, and it is that number

scaled_signed : (s : Bool) (n : ℕ) → pos scale *ℤ signed s n ≡ signed s (scale * n)
scaled_signed false n = pos-*ℤ-pos scale n
scaled_signed true zero = refl
scaled_signed true (suc n) = pos-*ℤ-negsuc scale n

picked : (t u : Bool) (j k : ℤ) → pick (t && u) (Some j) None ≡ Some k → (t ≡ true) × (u ≡ true) × (k ≡ j)
picked true true j k e = (refl, refl, cc)
picked true false j k e = let z : ◌≡◌ {A = ℕ} 0 1 = cc in absurd (clash z)
  where
    clash : ◌≡◌ {A = ℕ} 0 1 → ⊥
    clash z = omega arith
picked false u j k e = let z : ◌≡◌ {A = ℕ} 0 1 = cc in absurd (clash z)
  where
    clash : ◌≡◌ {A = ℕ} 0 1 → ⊥
    clash z = omega arith

pub accepted : (most : ℕ) (x : Float) (k : ℤ) → whole_of most x ≡ Some k → IsCoordinate most x k
unfolding whole_of whole_at IsWhole
accepted most nan k e = let z : ◌≡◌ {A = ℕ} 0 1 = cc in absurd (lt_irrefl 0 (subst (λ (n : ℕ). 0 < n) (sym z) (zero-lt-suc 0)))
accepted most (inf s) k e = let z : ◌≡◌ {A = ℕ} 0 1 = cc in absurd (lt_irrefl 0 (subst (λ (n : ℕ). 0 < n) (sym z) (zero-lt-suc 0)))
accepted most (fin s m e) k h =
    let a = m * up e in
    let u = scale * down e in
    let q = a / u in
    let p = picked (eqb (a % u) 0) (leb q most) (signed s q) k h in
    let r : a % u ≡ 0 = eqb-true (a % u) 0 p.0 in
    let w : a ≡ scale * q * down e =
    sym (div-add-mod' a u) ∙ ap (λ (n : ℕ). q * u + n) r ∙ add-zero (q * u) ∙ mul_left_comm q scale (down e) ∙ sym (mul_assoc scale q (down e)) in
    let g : nat_abs k ≡ q = ap nat_abs p.2 ∙ nat_abs-signed s q in
    ((scale * q, w, ap (λ (z : ℤ). pos scale *ℤ z) p.2 ∙ scaled_signed s q), subst (λ (n : ℕ). n ≤ most) (sym g) (leb-true q most p.1))

unscaled : (s : Bool) (n : ℕ) (k : ℤ) → pos scale *ℤ k ≡ signed s n → (n ≡ scale * nat_abs k) × (signed s (nat_abs k) ≡ k)
unscaled s n (pos j) e = go s n (sym (pos-*ℤ-pos scale j) ∙ e)
  where
    go : (s : Bool) (n : ℕ) → pos (scale * j) ≡ signed s n → (n ≡ scale * j) × (signed s j ≡ pos j)
    go false n e = (cc, refl)
    go true zero e =
        let z : scale * j ≡ 0 = cc in
        let y : j ≡ 0 = omega arith in
        (sym z, ap (signed true) y ∙ sym (ap pos y))
    go true (suc n) e = absurd (pos-ne-negsuc (scale * j) n e)
unscaled s n (negsuc j) e = go s n (ap (λ (i : ℕ). neg_ℤ (pos i)) (more j) ∙ sym (pos-*ℤ-negsuc scale j) ∙ e)
  where
    more : (j : ℕ) → suc (599 + 600 * j) ≡ 600 * suc j
    more j = omega arith

    go : (s : Bool) (n : ℕ) → negsuc (599 + 600 * j) ≡ signed s n → (n ≡ scale * suc j) × (signed s (suc j) ≡ negsuc j)
    go false n e = absurd (pos-ne-negsuc n (599 + 600 * j) (sym e))
    go true zero e = absurd (pos-ne-negsuc 0 (599 + 600 * j) (sym e))
    go true (suc n) e = let z : 599 + 600 * j ≡ n = cc in (omega arith, refl)

-- the value of an accepted float: 600 times the magnitude, with a sign of the coordinate
pub accepted_value : (most : ℕ) (x : Float) (k : ℤ) → whole_of most x ≡ Some k → (s : Bool) × HasValue x s (scale * nat_abs k) 1 × (signed s (nat_abs k) ≡ k) × (nat_abs k ≤ most)
unfolding IsWhole
accepted_value most x k e = go x (accepted most x k e)
  where
    go : (x : Float) → IsCoordinate most x k → (s : Bool) × HasValue x s (scale * nat_abs k) 1 × (signed s (nat_abs k) ≡ k) × (nat_abs k ≤ most)
    go nan p = absurd p.0
    go (inf s) p = absurd p.0
    go (fin s m e) p =
        let r = unscaled s p.0.0 k p.0.2 in
        (s, (refl, mul-one (m * up e) ∙ p.0.1 ∙ ap (λ (n : ℕ). n * down e) r.0), r.1, p.1)

pub accepts : (most : ℕ) (x : Float) (k : ℤ) → IsCoordinate most x k → whole_of most x ≡ Some k
unfolding whole_of IsWhole
accepts most nan k p = absurd p.0
accepts most (inf s) k p = absurd p.0
accepts most (fin s m e) k p =
    let n = p.0.0 in
    let r = unscaled s n k p.0.2 in
    let w : m * up e ≡ nat_abs k * (scale * down e) =
    p.0.1 ∙ ap (λ (z : ℕ). z * down e) r.0 ∙ mul_assoc scale (nat_abs k) (down e) ∙ mul_left_comm scale (nat_abs k) (down e) in
    ap (λ (a : ℕ). whole_at most s a (down e)) w ∙ whole_at_multiple most s (nat_abs k) (down e) (down_pos e) p.1 ∙ ap Some r.1

-- ---- out and in again

bits_back : (z : ℤ) → number_in true (coordinate_bytes z) ≡ to_bits binary64 (coordinate_of z)
unfolding number_in coordinate_bytes coordinate_of
bits_back z = number_of-bytes_of 8 (to_bits binary64 (of_int binary64 (pos scale *ℤ z))) (lt_of_lt_of_le (to_bits-lt binary64 (of_int binary64 (pos scale *ℤ z)) (of_int-fits binary64 (pos scale *ℤ z))) (lit≤ tt))

float_back : (z : ℤ) → of_bits binary64 (to_bits binary64 (coordinate_of z)) ≡ coordinate_of z
unfolding coordinate_of
float_back z = of_bits-to_bits binary64 (of_int binary64 (pos scale *ℤ z)) (of_int-fits binary64 (pos scale *ℤ z))

round_trip : (most : ℕ) (z : ℤ) → nat_abs z ≤ most → most ≤ farthest → whole_of most (of_bits binary64 (number_in true (coordinate_bytes z))) ≡ Some z
round_trip most z h m = ap (λ (b : ℕ). whole_of most (of_bits binary64 b)) (bits_back z) ∙ ap (whole_of most) (float_back z) ∙ whole_of-coordinate_of most z h m

-- ---- points and rings

length-coordinate_bytes : (z : ℤ) → length (coordinate_bytes z) ≡ 8
unfolding coordinate_bytes
length-coordinate_bytes z = length-bytes_of 8 (to_bits binary64 (coordinate_of z))

-- the bytes of a point, with anything after them, are read as its corner
pub point_back : (most : ℕ) (c : Corner) (rest : List ℕ) → nat_abs c.0 ≤ most → nat_abs c.1 ≤ most → most ≤ farthest
    → both (whole_of most (of_bits binary64 (number_in true (take 8 (point_bytes c ++ rest))))) (whole_of most (of_bits binary64 (number_in true (take 8 (drop 8 (point_bytes c ++ rest)))))) ≡ grid_point_of c
unfolding point_bytes
point_back most c rest h k m =
    let a = coordinate_bytes c.0 in
    let b = coordinate_bytes c.1 in
    let x : take 8 (a ++ b ++ rest) ≡ a = ap (take 8) (append_assoc a b rest) ∙ take_at a (b ++ rest) 8 (length-coordinate_bytes c.0) in
    let y : take 8 (drop 8 (a ++ b ++ rest)) ≡ b =
    ap (λ (z : List ℕ). take 8 (drop 8 z)) (append_assoc a b rest) ∙ ap (take 8) (drop_at a (b ++ rest) 8 (length-coordinate_bytes c.0)) ∙ take_at b rest 8 (length-coordinate_bytes c.1) in
    ap₂ (λ (u v : List ℕ). both (whole_of most (of_bits binary64 (number_in true u))) (whole_of most (of_bits binary64 (number_in true v)))) x y
    ∙ ap₂ both (round_trip most c.0 h m) (round_trip most c.1 k m)

-- Refusal 16, exactly: what each point of a file that passes it is.
-- Assumes nothing.
use Rattle.std.specs.Prelude.{None, Option, Some}
use mathlib.Core.Path.{◌≡◌, refl, sym, ap, ap₂, ◌∙◌}
use mathlib.Core.Logic.{◌↔◌}
use mathlib.Core.Bool.{Bool, false, ◌||◌, false≢true}
use mathlib.Core.List.{List}
use Prim.Native.Nat.{ℕ, zero, suc, ◌+◌, ◌<◌}
use native.Mathlib.Omega.{arith}
use lib.IntN.{ℤ}
use lib.ListN.{take, drop}
use lib.Ieee.{binary64, of_bits}
use mir.Syntax.{w32}
use mir.Val.{to_z, of_z}
use Rattle.answer.specs.Limits.{farthest}
use Rattle.lists.specs.Lists.{any}
use Rattle.lists.proofs.FindLaws.{or_false}
use Rattle.grid.specs.declared.Corner.{Corner}
use Rattle.grid.specs.Grid.{corner}
use Rattle.polygon_ring.specs.Bytes.{number_in}
use Rattle.polygon_ring.specs.Coordinate.{whole_of}
use Rattle.polygon_ring.specs.Ring.{both, most_at, point_in, point_at, points_from, is_faulty, corner_in}
use Rattle.polygon_laws.proofs.SignedLaws.{back}
use Rattle.polygon_ring_laws.specs.Reading.{grid_point_of}
use Rattle.polygon_ring_laws.specs.Files.{x_at, y_at, IsPoint}
use Rattle.polygon_ring_laws.specs.Fields.{IsAccepted}
use Rattle.polygon_ring_laws.proofs.TakeLaws.{accepted, accepted_value, accepts}

clash : ◌≡◌ {A = ℕ} 0 1 → ⊥
clash z = omega arith

both_good : (v w : Option ℤ) (c : Corner) → both v w ≡ grid_point_of c → (v ≡ Some c.0) × (w ≡ Some c.1)
both_good (Some a) (Some b) c e =
    (ap (λ (s : Option Corner). Some (corner_in s).0) e, ap (λ (s : Option Corner). Some (corner_in s).1) e)
both_good (Some a) None c e = let z : ◌≡◌ {A = ℕ} 0 1 = cc in absurd (clash z)
both_good None w c e = let z : ◌≡◌ {A = ℕ} 0 1 = cc in absurd (clash z)

-- a point that was accepted before: its floats are, and its corner is theirs
both_parts : (v w : Option ℤ) → is_faulty (both v w) ≡ false → ((a : ℤ) × (v ≡ Some a)) × ((b : ℤ) × (w ≡ Some b))
both_parts (Some a) (Some b) e = ((a, refl), (b, refl))
both_parts (Some a) None e = absurd (false≢true (sym e))
both_parts None w e = absurd (false≢true (sym e))

pub point_parts : (little : Bool) (s : List ℕ) → is_faulty (point_in farthest little s) ≡ false
    → IsAccepted (of_bits binary64 (number_in little (take 8 s))) × IsAccepted (of_bits binary64 (number_in little (take 8 (drop 8 s))))
unfolding point_in
point_parts little s e = both_parts (whole_of farthest (of_bits binary64 (number_in little (take 8 s)))) (whole_of farthest (of_bits binary64 (number_in little (take 8 (drop 8 s))))) e

pub point_corner : (little : Bool) (s : List ℕ) (x y : ℤ) → Some x ≡ whole_of farthest (of_bits binary64 (number_in little (take 8 s)))
    → Some y ≡ whole_of farthest (of_bits binary64 (number_in little (take 8 (drop 8 s)))) → corner (to_z w32 (of_z w32 x)) (to_z w32 (of_z w32 y)) ≡ corner_in (point_in farthest little s)
unfolding point_in
point_corner little s x y e f =
    ap₂ corner (back x (accepted_value farthest (of_bits binary64 (number_in little (take 8 s))) x (sym e)).3) (back y (accepted_value farthest (of_bits binary64 (number_in little (take 8 (drop 8 s)))) y (sym f)).3)
    ∙ ap corner_in (ap₂ both e f)

pub point_good : (little : Bool) (s : List ℕ) (i : ℕ) (c : Corner) → (point_at little s i ≡ grid_point_of c) ↔ IsPoint little s i c
unfolding point_at point_in
point_good little s i c = (
  (λ e.
      let w = both_good (whole_of (most_at i) (x_at little s i)) (whole_of (most_at i) (y_at little s i)) c e in
      (accepted (most_at i) (x_at little s i) c.0 w.0, accepted (most_at i) (y_at little s i) c.1 w.1)),
  (λ p. ap₂ both (accepts (most_at i) (x_at little s i) c.0 p.0) (accepts (most_at i) (y_at little s i) c.1 p.1)),
)

sound_good : (j : Option Corner) → is_faulty j ≡ false → j ≡ grid_point_of (corner_in j)
sound_good (Some c) e = refl
sound_good None e = absurd (false≢true (sym e))

good_all : (little : Bool) (s : List ℕ) (i n : ℕ) → any is_faulty (points_from little s i n) ≡ false → (k : ℕ) → k < n → point_at little s (i + k) ≡ grid_point_of (corner_in (point_at little s (i + k)))
unfolding points_from
good_all little s i zero e k h = absurd (none k h)
  where
    none : (k : ℕ) → k < 0 → ⊥
    none k h = omega arith
good_all little s i (suc n) e zero h =
    sound_good (point_at little s (i + 0)) (ap (λ (m : ℕ). is_faulty (point_at little s m)) (plain i) ∙ (or_false (is_faulty (point_at little s i)) (any is_faulty (points_from little s (suc i) n)) e).0)
  where
    plain : (i : ℕ) → i + 0 ≡ i
    plain i = omega arith
good_all little s i (suc n) e (suc k) h =
    ap (point_at little s) (next i k)
    ∙ good_all little s (suc i) n (or_false (is_faulty (point_at little s i)) (any is_faulty (points_from little s (suc i) n)) e).1 k (omega arith)
    ∙ ap (λ (m : ℕ). grid_point_of (corner_in (point_at little s m))) (sym (next i k))
  where
    next : (i k : ℕ) → i + suc k ≡ suc i + k
    next i k = omega arith

pub good_at : (little : Bool) (s : List ℕ) (n i : ℕ) → any is_faulty (points_from little s 0 n) ≡ false → i < n → is_faulty (point_at little s i) ≡ false
good_at little s n i e h = ap (λ (m : ℕ). is_faulty (point_at little s m)) (plain i) ∙ ap is_faulty (good_all little s 0 n e i h)
  where
    plain : (i : ℕ) → i ≡ 0 + i
    plain i = omega arith

all_good : (little : Bool) (s : List ℕ) (i n : ℕ) → ((k : ℕ) → k < n → is_faulty (point_at little s (i + k)) ≡ false) → any is_faulty (points_from little s i n) ≡ false
unfolding points_from
all_good little s i zero f = refl
all_good little s i (suc n) f =
    ap₂ ◌||◌ (ap (λ (m : ℕ). is_faulty (point_at little s m)) (plain i) ∙ f 0 (omega arith)) (all_good little s (suc i) n (λ k h. ap (λ (m : ℕ). is_faulty (point_at little s m)) (next i k) ∙ f (suc k) (omega arith)))
  where
    plain : (i : ℕ) → i ≡ i + 0
    plain i = omega arith

    next : (i k : ℕ) → suc i + k ≡ i + suc k
    next i k = omega arith

-- no point is refused exactly if each is 600 times a corner in range
pub sixteen_exactly : (little : Bool) (s : List ℕ) (n : ℕ) → (any is_faulty (points_from little s 0 n) ≡ false) ↔ ((i : ℕ) → i < n → (c : Corner) × IsPoint little s i c)
sixteen_exactly little s n = (
  (λ e i h. (corner_in (point_at little s i), (point_good little s i (corner_in (point_at little s i))).0 (at i ∙ good_all little s 0 n e i h ∙ ap (λ (m : ℕ). grid_point_of (corner_in (point_at little s m))) (zero_plus i)))),
  (λ f. all_good little s 0 n (λ i h. ap (λ (m : ℕ). is_faulty (point_at little s m)) (zero_plus i) ∙ ap is_faulty ((point_good little s i (f i h).0).1 (f i h).1))),
)
  where
    zero_plus : (i : ℕ) → 0 + i ≡ i
    zero_plus i = omega arith

    at : (i : ℕ) → point_at little s i ≡ point_at little s (0 + i)
    at i = ap (point_at little s) (sym (zero_plus i))

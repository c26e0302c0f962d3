-- The search for the least number, one turn of its loop.
-- Assumes nothing.
use mathlib.Core.List.{List, [], ◌∷◌}
use mathlib.Core.Path.{◌≡◌, refl, sym, ap, ◌∙◌}
use Prim.Native.Nat.{ℕ, zero, suc, ◌+◌, ◌*◌, ◌-◌, ◌%◌, ◌≤◌, ◌<◌, min}
use native.Mathlib.Numerals.{add-one}
use native.Mathlib.Omega.{arith}
use lib.ListN.{length, get_or, drop, drop_of_length-le}
use lib.Seq.{drop-cons}
use Rattle.column_laws.specs.Columns.{middle, top, col_after, row_after}
use Rattle.column_laws.proofs.TrailLaws.{near, near-row}
use Rattle.convex_laws.specs.Place.{rank, rank_at, least_from, place_of}

pub rank_le : (t x y : ℕ) → x ≤ top → y ≤ top → rank t x y ≤ 2147516416
rank_le zero x y h g = omega arith
rank_le (suc zero) x y h g = omega arith
rank_le (suc (suc zero)) x y h g = omega arith
rank_le (suc (suc (suc t))) x y h g = omega arith

pub rank-last : (t x y : ℕ) → (t ≡ 0 → ⊥) → (t ≡ 1 → ⊥) → (t ≡ 2 → ⊥) → y * 65536 + (top - x) ≡ rank t x y
rank-last zero x y f g h = absurd (f refl)
rank-last (suc zero) x y f g h = absurd (g refl)
rank-last (suc (suc zero)) x y f g h = absurd (h refl)
rank-last (suc (suc (suc t))) x y f g h = refl

-- after i steps: the walk is in column x at height y, and `least` is the least number so far
pub record Seeks (ds : List ℕ) (t x y least i : ℕ) : Type 0 where
  pub within : i ≤ length ds
  pub west : middle ≤ x + i
  pub east : x ≤ middle + i
  pub south : middle ≤ y + i
  pub north : y ≤ middle + i
  pub low : least ≤ rank_at t x y i
  pub left : least_from t middle middle 0 ds ≡ min least (least_from t x y i (drop i ds))

least_le : (t x y i : ℕ) (w : List ℕ) → least_from t x y i w ≤ rank_at t x y i
unfolding least_from
least_le t x y i [] = omega arith
least_le t x y i (d ∷ w) = omega arith

pub seeks_start : (ds : List ℕ) (t least : ℕ) → least ≡ rank_at t middle middle 0 → Seeks ds t middle middle least 0
seeks_start ds t least e = record {
  within = omega arith;
  west = omega arith;
  east = omega arith;
  south = omega arith;
  north = omega arith;
  low = omega arith;
  left = omega (arith, least_le t middle middle 0 ds);
}

module _ (ds : List ℕ) (t x y least i : ℕ) (s : Seeks ds t x y least i) where
  -- the next corner is not beyond the top
  pub seeks_near : (x' y' : ℕ) → i < length ds → length ds ≤ middle → x' ≡ col_after x (get_or ds i 0) → y' ≡ row_after y (get_or ds i 0) → (x' ≤ top) × (y' ≤ top) × (i + 1 ≤ middle)
  seeks_near x' y' l h e f = (omega (arith, (near x (get_or ds i 0) (omega (arith, s.west))).1, s.east), omega (arith, (near-row y (get_or ds i 0) (omega (arith, s.south))).1, s.north), omega arith)

  pub seeks_step : (x' y' n least' : ℕ) → i < length ds → length ds ≤ middle → x' ≡ col_after x (get_or ds i 0) → y' ≡ row_after y (get_or ds i 0) → n ≡ rank_at t x' y' (i + 1) → least' ≡ min least n → Seeks ds t x' y' least' (i + 1)
  unfolding least_from
  seeks_step x' y' n least' l h e f g m = record {
    within = omega arith;
    west = omega (arith, nx.0, s.west);
    east = omega (arith, nx.1, s.east);
    south = omega (arith, ny.0, s.south);
    north = omega (arith, ny.1, s.north);
    low = omega arith;
    left = s.left ∙ ap (min least) (ap (least_from t x y i) (drop-cons ds i 0 l) ∙ next) ∙ met (rank_at t x y i) rest s.low (least_le t x' y' (i + 1) (drop (i + 1) ds));
  }
    where
      nx : (x ≤ x' + 1) × (x' ≤ x + 1)
      nx = let r = near x (get_or ds i 0) (omega (arith, s.west)) in (omega (arith, r.0), omega (arith, r.1))

      ny : (y ≤ y' + 1) × (y' ≤ y + 1)
      ny = let r = near-row y (get_or ds i 0) (omega (arith, s.south)) in (omega (arith, r.0), omega (arith, r.1))

      rest : ℕ
      rest = least_from t x' y' (i + 1) (drop (i + 1) ds)

      next : least_from t x y i (get_or ds i 0 ∷ drop (suc i) ds) ≡ min (rank_at t x y i) rest
      next = ap (min (rank_at t x y i)) (ap (λ (a : ℕ). least_from t a (row_after y (get_or ds i 0)) (suc i) (drop (suc i) ds)) (sym e) ∙ ap (λ (b : ℕ). least_from t x' b (suc i) (drop (suc i) ds)) (sym f) ∙ ap (λ (j : ℕ). least_from t x' y' j (drop j ds)) (sym (add-one i)))

      met : (r u : ℕ) → least ≤ r → u ≤ rank_at t x' y' (i + 1) → min least (min r u) ≡ min least' u
      met r u p q = omega arith

  pub seeks_end : length ds ≤ i → least % 32768 ≡ place_of t ds
  unfolding least_from place_of
  seeks_end h = ap (λ (n : ℕ). n % 32768) (sym (s.left ∙ ap (λ (w : List ℕ). min least (least_from t x y i w)) (drop_of_length-le ds h) ∙ last (rank_at t x y i) s.low))
    where
      last : (r : ℕ) → least ≤ r → min least r ≡ least
      last r p = omega arith

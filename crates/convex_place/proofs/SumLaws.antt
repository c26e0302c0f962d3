-- The sums of columns, one turn of their loop.
-- Assumes nothing.
use mathlib.Core.Bool.{Bool, true, false}
use mathlib.Core.List.{List}
use mathlib.Core.Path.{◌≡◌, refl, sym, ap, ap₂, ◌∙◌}
use Prim.Native.Nat.{ℕ, zero, suc, ◌+◌, ◌*◌, ◌≤◌, ◌<◌}
use native.Mathlib.Numerals.{add-one}
use native.Mathlib.Omega.{arith}
use borrow.Author.Tests.{ne_eqb, lt-ltb}
use lib.Dec.{eqb, ltb}
use lib.ListN.{length, get_or, drop, drop_of_length-le}
use lib.Seq.{drop-cons}
use mir.Val.{bool_byte}
use Rattle.column_laws.specs.Columns.{middle, top, col_after}
use Rattle.column_laws.proofs.TrailLaws.{near}
use Rattle.convex_laws.specs.Way.{north_in, south_in, column_sum}

by_one : (x n : ℕ) → n ≡ 1 → x * n ≡ x
by_one x n e = ap (λ (m : ℕ). x * m) e ∙ omega arith

by-none : (x n : ℕ) → n ≡ 0 → x * n ≡ 0
by-none x n e = ap (λ (m : ℕ). x * m) e ∙ omega arith

-- a column times a test that counts 1 if it holds
pub times_le : (x : ℕ) (b : Bool) → x * bool_byte b ≤ x
times_le x true = omega (arith, by_one x 1 refl)
times_le x false = omega (arith, by-none x 0 refl)

pub north-by : (x d : ℕ) → x * bool_byte (eqb d 1) ≡ north_in x d
north-by x zero = by-none x 0 refl
north-by x (suc zero) = by_one x 1 refl
north-by x (suc (suc d)) = by-none x (bool_byte (eqb (suc (suc d)) 1)) (ap bool_byte (ne_eqb (suc (suc d)) 1 (λ e. omega arith)))

pub south_by : (x d : ℕ) → x * bool_byte (ltb 2 d) ≡ south_in x d
south_by x zero = by-none x 0 refl
south_by x (suc zero) = by-none x 0 refl
south_by x (suc (suc zero)) = by-none x 0 refl
south_by x (suc (suc (suc d))) = by_one x (bool_byte (ltb 2 (suc (suc (suc d))))) (ap bool_byte (lt-ltb 2 (suc (suc (suc d))) (omega arith)))

pub north_le : (x d : ℕ) → north_in x d ≤ x
north_le x zero = omega arith
north_le x (suc zero) = omega arith
north_le x (suc (suc d)) = omega arith

pub south_le : (x d : ℕ) → south_in x d ≤ x
south_le x zero = omega arith
south_le x (suc zero) = omega arith
south_le x (suc (suc zero)) = omega arith
south_le x (suc (suc (suc d))) = omega arith

-- after i steps: the walk is in column x, and up and down are the sums so far
pub record Sums (ds : List ℕ) (x up down i : ℕ) : Type 0 where
  pub within : i ≤ length ds
  pub west : middle ≤ x + i
  pub east : x ≤ middle + i
  pub up_most : up ≤ i * top
  pub down_most : down ≤ i * top
  pub norths : column_sum north_in middle ds ≡ up + column_sum north_in x (drop i ds)
  pub souths : column_sum south_in middle ds ≡ down + column_sum south_in x (drop i ds)

pub sums_start : (ds : List ℕ) → Sums ds middle 0 0 0
sums_start ds = record { within = omega arith; west = omega arith; east = omega arith; up_most = omega arith; down_most = omega arith; norths = omega arith; souths = omega arith }

module _ (ds : List ℕ) (x up down i : ℕ) (s : Sums ds x up down i) where
  module _ (l : i < length ds) (h : length ds ≤ middle) (x' n m : ℕ) (e : x' ≡ col_after x (get_or ds i 0)) (f : n ≡ north_in x (get_or ds i 0)) (g : m ≡ south_in x (get_or ds i 0)) where
    next : (k : ℕ → ℕ → ℕ) → column_sum k x (drop i ds) ≡ k x (get_or ds i 0) + column_sum k x' (drop (i + 1) ds)
    unfolding column_sum
    next k = ap (column_sum k x) (drop-cons ds i 0 l) ∙ ap₂ (λ (z : ℕ) (w : List ℕ). k x (get_or ds i 0) + column_sum k z w) (sym e) (ap (λ (j : ℕ). drop j ds) (sym (add-one i)))

    pub sums_step : Sums ds x' (up + n) (down + m) (i + 1)
    sums_step = record {
      within = omega arith;
      west = omega (arith, nx.0, s.west);
      east = omega (arith, nx.1, s.east);
      up_most = omega (arith, north_le x (get_or ds i 0), s.east, s.up_most);
      down_most = omega (arith, south_le x (get_or ds i 0), s.east, s.down_most);
      norths = omega (arith, s.norths, next north_in);
      souths = omega (arith, s.souths, next south_in);
    }
      where
        nx : (x ≤ x' + 1) × (x' ≤ x + 1)
        nx = let r = near x (get_or ds i 0) (omega (arith, s.west)) in (omega (arith, r.0), omega (arith, r.1))

  pub sums_end : length ds ≤ i → ltb down up ≡ ltb (column_sum south_in middle ds) (column_sum north_in middle ds)
  unfolding column_sum
  sums_end h = sym (ap₂ ltb (s.souths ∙ none south_in down) (s.norths ∙ none north_in up))
    where
      none : (k : ℕ → ℕ → ℕ) (n : ℕ) → n + column_sum k x (drop i ds) ≡ n
      none k n = ap (λ (w : List ℕ). n + column_sum k x w) (drop_of_length-le ds h) ∙ omega arith

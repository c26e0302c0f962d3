-- A walk's corners by column and height: which corners they stand for, how far they reach, and that no column between is left out.
-- Assumes nothing.
use mathlib.Core.Path.{◌≡◌, refl, sym, ap, ◌∙◌, subst}
use mathlib.Core.List.Memᴰ
use mathlib.Core.List.{List, [], ◌∷◌, map, Memᴰ}
use Prim.Native.Nat.{ℕ, zero, suc, ◌+◌, ◌-◌, ◌≤◌, ◌<◌}
use native.Mathlib.Omega.{arith}
use native.Mathlib.Decide.{dec_lt}
use lib.ListN.{length}
use lib.IntN.{ℤ, pos, suc_ℤ, pred_ℤ, ◌+ℤ◌}
use Rattle.int_laws.proofs.LinearLaws.{zarith, bal+}
use Rattle.int_laws.proofs.NextLaws.{bal_suc, bal_pred}
use Rattle.grid.specs.declared.Corner.{Corner}
use Rattle.grid.specs.Grid.{stepped, corners_from}
use Rattle.column_laws.specs.Columns.{col_after, row_after, trail, west_from, east_from, spot}
use Rattle.grid.proofs.CornerLaws.{corner_eq}

-- a step goes to a column next to it at most
pub near : (x d : ℕ) → 0 < x → (x ≤ col_after x d + 1) × (col_after x d ≤ x + 1)
unfolding col_after
near x zero h = omega arith
near x (suc zero) h = omega arith
near x (suc (suc zero)) h = omega arith
near x (suc (suc (suc d))) h = omega arith

pub near-row : (y d : ℕ) → 0 < y → (y ≤ row_after y d + 1) × (row_after y d ≤ y + 1)
unfolding row_after
near-row y zero h = omega arith
near-row y (suc zero) h = omega arith
near-row y (suc (suc zero)) h = omega arith
near-row y (suc (suc (suc d))) h = omega arith

east-one : (z : ℤ) (n : ℕ) → suc_ℤ (z +ℤ pos n) ≡ z +ℤ pos (n + 1)
east-one z n = omega (zarith, bal_suc (z +ℤ pos n), bal+ z (pos n), bal+ z (pos (n + 1)))

west_one : (z : ℤ) (n : ℕ) → 0 < n → pred_ℤ (z +ℤ pos n) ≡ z +ℤ pos (n - 1)
west_one z n h = omega (zarith, bal_pred (z +ℤ pos n), bal+ z (pos n), bal+ z (pos (n - 1)))

module _ (x0 y0 : ℤ) where
  spot_step : (x y d : ℕ) → 0 < x → 0 < y → stepped d (spot x0 y0 (x, y)) ≡ spot x0 y0 (col_after x d, row_after y d)
  unfolding col_after row_after
  spot_step x y zero h g = corner_eq (stepped 0 (spot x0 y0 (x, y))) (spot x0 y0 (x + 1, y)) (east-one x0 x) refl
  spot_step x y (suc zero) h g = corner_eq (stepped 1 (spot x0 y0 (x, y))) (spot x0 y0 (x, y + 1)) refl (east-one y0 y)
  spot_step x y (suc (suc zero)) h g = corner_eq (stepped 2 (spot x0 y0 (x, y))) (spot x0 y0 (x - 1, y)) (west_one x0 x h) refl
  spot_step x y (suc (suc (suc d))) h g = corner_eq (stepped 3 (spot x0 y0 (x, y))) (spot x0 y0 (x, y - 1)) refl (west_one y0 y g)

  -- the corners of a walk with space for its steps on every side
  pub trail-corners : (x y : ℕ) (ds : List ℕ) → length ds ≤ x → length ds ≤ y → corners_from (spot x0 y0 (x, y)) ds ≡ map (spot x0 y0) (trail x y ds)
  unfolding trail
  trail-corners x y [] h g = refl
  trail-corners x y (d ∷ ds) h g =
      ap (λ (l : List Corner). spot x0 y0 (x, y) ∷ l)
      (ap (λ (c : Corner). corners_from c ds) (spot_step x y d (omega arith) (omega arith))
      ∙ trail-corners (col_after x d) (row_after y d) ds (omega (arith, near x d (omega arith))) (omega (arith, near-row y d (omega arith))))

-- how far a walk reaches
pub west_le : (x : ℕ) (ds : List ℕ) → west_from x ds ≤ x
unfolding west_from
west_le x [] = omega arith
west_le x (d ∷ ds) = omega arith

pub east_ge : (x : ℕ) (ds : List ℕ) → x ≤ east_from x ds
unfolding east_from
east_ge x [] = omega arith
east_ge x (d ∷ ds) = omega arith

pub east_le : (x : ℕ) (ds : List ℕ) → length ds ≤ x → east_from x ds ≤ x + length ds
unfolding east_from
east_le x [] h = omega arith
east_le x (d ∷ ds) h = omega (arith, near x d (omega arith), east_le (col_after x d) ds (omega (arith, near x d (omega arith))))

pub width_le : (x : ℕ) (ds : List ℕ) → length ds ≤ x → east_from x ds ≤ west_from x ds + length ds
unfolding east_from west_from
width_le x [] h = omega arith
width_le x (d ∷ ds) h =
    let n = near x d (omega arith) in
    omega (arith, n, west_le (col_after x d) ds, east_ge (col_after x d) ds, width_le (col_after x d) ds (omega (arith, n)))

-- every corner of the walk lies between
pub record Reaches (x y : ℕ) (ds : List ℕ) (v : ℕ × ℕ) : Type 0 where
  pub west : west_from x ds ≤ v.0
  pub east : v.0 ≤ east_from x ds
  pub below : v.1 ≤ y + length ds

pub trail_reaches : (x y : ℕ) (ds : List ℕ) → length ds ≤ x → length ds ≤ y → (v : ℕ × ℕ) → Memᴰ v (trail x y ds) → Reaches x y ds v
unfolding trail west_from east_from
trail_reaches x y [] h g v (Memᴰ.head e) = subst (Reaches x y []) (sym e) (record { west = omega arith; east = omega arith; below = omega arith })
trail_reaches x y [] h g v (Memᴰ.tail m) = absurd (Memᴰ.not-nil m)
trail_reaches x y (d ∷ ds) h g v (Memᴰ.head e) = subst (Reaches x y (d ∷ ds)) (sym e) (record { west = omega arith; east = omega arith; below = omega arith })
trail_reaches x y (d ∷ ds) h g v (Memᴰ.tail m) =
    let r = trail_reaches (col_after x d) (row_after y d) ds (omega (arith, near x d (omega arith))) (omega (arith, near-row y d (omega arith))) v m in
    record { west = omega (arith, r.west); east = omega (arith, r.east); below = omega (arith, r.below, near-row y d (omega arith)) }

-- and every column between has one
pub trail-column : (x y : ℕ) (ds : List ℕ) → length ds ≤ x → (c : ℕ) → west_from x ds ≤ c → c ≤ east_from x ds → (h : ℕ) × Memᴰ (c, h) (trail x y ds)
unfolding trail west_from east_from
trail-column x y [] h c a b = (y, Memᴰ.head (ap (λ (n : ℕ). (n, y)) one))
  where
    one : c ≡ x
    one = omega arith
trail-column x y (d ∷ ds) h c a b = go (dec_lt c (west_from x' ds)) (dec_lt (east_from x' ds) c) (trail-column x' (row_after y d) ds (omega (arith, n)) c)
  where
    x' : ℕ
    x' = col_after x d

    n : (x ≤ col_after x d + 1) × (col_after x d ≤ x + 1)
    n = near x d (omega arith)

    here : c ≡ x → (h : ℕ) × Memᴰ (c, h) ((x, y) ∷ trail (col_after x d) (row_after y d) ds)
    here e = (y, Memᴰ.head (ap (λ (n : ℕ). (n, y)) e))

    go : Dec (c < west_from x' ds) → Dec (east_from x' ds < c) → (west_from x' ds ≤ c → c ≤ east_from x' ds → (h : ℕ) × Memᴰ (c, h) (trail x' (row_after y d) ds)) → (h : ℕ) × Memᴰ (c, h) ((x, y) ∷ trail (col_after x d) (row_after y d) ds)
    go (yes l) r rest = here (omega (arith, n, west_le x' ds, east_ge x' ds))
    go (no l) (yes r) rest = here (omega (arith, n, west_le x' ds, east_ge x' ds))
    go (no l) (no r) rest =
        let t = rest (omega arith) (omega arith) in
        (t.0, Memᴰ.tail t.1)

-- A step leads along an axis, and from place to place in the box, by what a table has for its digit: sums are counted modulo 2 ^ 64.
-- Assumes nothing.
use mathlib.Core.Path.{◌≡◌, sym, ap, ap₂, ◌∙◌, subst₂}
use mathlib.Core.List.{List}
use Prim.Native.Nat.{ℕ, zero, suc, ◌+◌, ◌*◌, ◌-◌, ◌^◌, ◌%◌, ◌≤◌, ◌<◌}
use native.Mathlib.Omega.{arith}
use native.Mathlib.Nat.{suc-mul, mul-le-mul}
use lib.ListN.{length, get_or, take, length-take}
use Rattle.column_laws.specs.Columns.{middle, top, col_after, row_after}
use Rattle.column_laws.proofs.TrailLaws.{near, near-row}
use Rattle.box_laws.specs.Box.{column_at, height_at, box_west, box_south, box_width, box_height, InBox, box_place, place_at, place_steps, column_steps, height_steps, Boxable}
use Rattle.box_laws.proofs.AxisLaws.{last-next, last-near}
use Rattle.box_laws.proofs.PlaceLaws.{place_below, corner_in_lem, width_few, height_few}

-- what a wrapping sum gives
up_by : (a b : ℕ) → a + b < 18446744073709551616 → (a + b) % 2 ^ 64 ≡ a + b
up_by a b h = omega arith

down_by : (a b : ℕ) → b ≤ a → a < 18446744073709551616 → (a + (18446744073709551616 - b)) % 2 ^ 64 ≡ a - b
down_by a b h g = omega arith

pub column_step : (x d : ℕ) → 0 < x → x ≤ top → d < 4 → (x + get_or column_steps d 0) % 2 ^ 64 ≡ col_after x d
unfolding col_after column_steps
column_step x zero h g l = up_by x 1 (omega arith)
column_step x (suc zero) h g l = omega arith
column_step x (suc (suc zero)) h g l = down_by x 1 h (omega arith)
column_step x (suc (suc (suc zero))) h g l = omega arith
column_step x (suc (suc (suc (suc d)))) h g l = let z : ⊥ = omega arith in absurd z

pub height_step : (y d : ℕ) → 0 < y → y ≤ top → d < 4 → (y + get_or height_steps d 0) % 2 ^ 64 ≡ row_after y d
unfolding row_after height_steps
height_step y zero h g l = omega arith
height_step y (suc zero) h g l = up_by y 1 (omega arith)
height_step y (suc (suc zero)) h g l = omega arith
height_step y (suc (suc (suc zero))) h g l = down_by y 1 h (omega arith)
height_step y (suc (suc (suc (suc d)))) h g l = let z : ⊥ = omega arith in absurd z

-- one row on, and one row back
row_up : (y s w c : ℕ) → s ≤ y → (y + 1 - s) * w + c ≡ ((y - s) * w + c) + w
row_up y s w c h = let e : y + 1 - s ≡ suc (y - s) = omega arith in omega (arith, ap (λ (n : ℕ). n * w) e, suc-mul (y - s) w)

row_down : (y s w c : ℕ) → 0 < y → s ≤ y - 1 → (y - s) * w + c ≡ ((y - 1 - s) * w + c) + w
row_down y s w c h g = let e : y - s ≡ suc (y - 1 - s) = omega arith in omega (arith, ap (λ (n : ℕ). n * w) e, suc-mul (y - 1 - s) w)

module _ (ds : List ℕ) (w : Boxable ds) where
  -- the number of places is far below 2 ^ 64
  pub places_few : box_width ds * box_height ds ≤ 268468225
  places_few =
      let a : box_width ds ≤ 16385 = omega (arith, width_few ds w, w.short) in
      let b : box_height ds ≤ 16385 = omega (arith, height_few ds w, w.short) in
      mul-le-mul a b

  -- a step inside the box
  place_step : (x y d : ℕ) → 0 < x → 0 < y → d < 4 → InBox ds (x, y) → InBox ds (col_after x d, row_after y d) → (box_place ds (x, y) + get_or (place_steps (box_width ds)) d 0) % 2 ^ 64 ≡ box_place ds (col_after x d, row_after y d)
  unfolding col_after row_after box_place place_steps
  place_step x y zero h g l p q =
      let b = place_below ds (x, y) p in
      up_by (box_place ds (x, y)) 1 (omega (arith, b, places_few)) ∙ omega (arith, p.west)
  place_step x y (suc zero) h g l p q =
      let b = place_below ds (x, y + 1) q in
      let r = row_up y (box_south ds) (box_width ds) (x - box_west ds) p.south in
      up_by (box_place ds (x, y)) (box_width ds) (omega (arith, b, r, places_few)) ∙ sym r
  place_step x y (suc (suc zero)) h g l p q =
      let b = place_below ds (x, y) p in
      down_by (box_place ds (x, y)) 1 (omega (arith, q.west)) (omega (arith, b, places_few)) ∙ omega (arith, q.west)
  place_step x y (suc (suc (suc zero))) h g l p q =
      let b = place_below ds (x, y) p in
      let r = row_down y (box_south ds) (box_width ds) (x - box_west ds) g q.south in
      down_by (box_place ds (x, y)) (box_width ds) (omega (arith, r)) (omega (arith, b, places_few)) ∙ omega (arith, r)
  place_step x y (suc (suc (suc (suc d)))) h g l p q = let z : ⊥ = omega arith in absurd z

  -- corner k + 1 after corner k
  after_zero : (k : ℕ) → k < length ds → (0 < column_at ds k) × (0 < height_at ds k)
  after_zero k l =
      let n = length-take k ds in (
        omega (arith, n, w.short, (last-near col_after near middle (take k ds) (omega (arith, n, w.short))).0),
        omega (arith, n, w.short, (last-near row_after near-row middle (take k ds) (omega (arith, n, w.short))).0),
      )

  pub place-next : (k : ℕ) → k < length ds → (place_at ds k + get_or (place_steps (box_width ds)) (get_or ds k 0) 0) % 2 ^ 64 ≡ place_at ds (k + 1)
  place-next k l =
      let e = last-next col_after middle ds k l in
      let f = last-next row_after middle ds k l in
      let z = after_zero k l in
      place_step (column_at ds k) (height_at ds k) (get_or ds k 0) z.0 z.1 (w.digits k) (corner_in_lem ds k)
      (subst₂ (λ (a b : ℕ). InBox ds (a, b)) e f (corner_in_lem ds (k + 1)))
      ∙ sym (ap₂ (λ (a b : ℕ). box_place ds (a, b)) e f)

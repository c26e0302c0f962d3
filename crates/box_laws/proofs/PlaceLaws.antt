-- Places in the box of a walk are one to one with its corners, and a step leads from place to place by its digit alone.
-- Assumes nothing.
use mathlib.Core.Path.{◌≡◌, sym, ap, ap₂, ◌∙◌}
use mathlib.Core.List.{List, [], ◌∷◌}
use mathlib.Core.Logic.{◌↔◌}
use Prim.Native.Nat.{ℕ, suc, ◌+◌, ◌*◌, ◌-◌, ◌≤◌, ◌<◌}
use native.Mathlib.Omega.{arith}
use native.Mathlib.Decide.{dec_lt}
use native.Mathlib.Nat.{suc-mul, mul_comm, mul-le-mul_right}
use lib.ListN.{length, take, length-take}
use lib.IntN.{ℤ, pos, ◌+ℤ◌, ◌-ℤ◌}
use Rattle.int_laws.proofs.LinearLaws.{zarith, bal+, bal-}
use Rattle.grid.specs.declared.Corner.{Corner}
use Rattle.grid.specs.Grid.{stepped, end_from, corner_at}
use Rattle.column_laws.specs.Columns.{middle, col_after, row_after}
use Rattle.grid.proofs.CornerLaws.{corner_eq}
use Rattle.column_laws.proofs.TrailLaws.{near, near-row}
use Rattle.room_thread_laws.proofs.RoomLaws.{move_x, move_y}
use Rattle.box_laws.specs.Box.{last_from, column_at, height_at, box_west, box_south, box_north, box_width, box_height, InBox, box_place, place_at, Boxable}
use Rattle.box_laws.proofs.AxisLaws.{low_le, high_ge, span_le}

-- a row and a column in it are found again in row * w + column
row_past : (a b c e w : ℕ) → b < w → a * w + b ≡ c * w + e → a < c → ⊥
row_past a b c e w h q l = let m : suc a * w ≤ c * w = mul-le-mul_right w l in omega (arith, m, suc-mul a w)

same_row : (a b c e w : ℕ) → b < w → e < w → a * w + b ≡ c * w + e → a ≡ c
same_row a b c e w h g q = go (dec_lt a c) (dec_lt c a)
  where
    go : Dec (a < c) → Dec (c < a) → a ≡ c
    go (yes l) r = absurd (row_past a b c e w h q l)
    go (no l) (yes r) = absurd (row_past c e a b w g (sym q) r)
    go (no l) (no r) = omega arith

module _ (ds : List ℕ) where
  -- two corners of the box with one place are one: the law of places
  pub place-one : (u v : ℕ × ℕ) → InBox ds u → InBox ds v → box_place ds u ≡ box_place ds v → (u.0 ≡ v.0) × (u.1 ≡ v.1)
  unfolding box_place box_width
  place-one u v p q e =
      let b : u.0 - box_west ds < box_width ds = omega (arith, p.east) in
      let g : v.0 - box_west ds < box_width ds = omega (arith, q.east) in
      let r = same_row (u.1 - box_south ds) (u.0 - box_west ds) (v.1 - box_south ds) (v.0 - box_west ds) (box_width ds) b g e in
      let s : (u.1 - box_south ds) * box_width ds ≡ (v.1 - box_south ds) * box_width ds = ap (λ (n : ℕ). n * box_width ds) r in
      (omega (arith, e, s, p.west, q.west), omega (arith, r, p.south, q.south))

  -- there are as many places as the box has corners
  pub place_below : (v : ℕ × ℕ) → InBox ds v → box_place ds v < box_width ds * box_height ds
  unfolding box_place box_width box_height
  place_below v p =
      let r : v.1 - box_south ds ≤ box_north ds - box_south ds = omega (arith, p.north) in
      let m : (v.1 - box_south ds) * box_width ds ≤ (box_north ds - box_south ds) * box_width ds = mul-le-mul_right (box_width ds) r in
      omega (arith, m, p.east, mul_comm (box_width ds) (box_height ds), suc-mul (box_north ds - box_south ds) (box_width ds))

  -- the corners of the walk lie in its box
  pub corner_in_lem : (k : ℕ) → InBox ds (column_at ds k, height_at ds k)
  corner_in_lem k = record { west = low_le col_after middle ds k; east = high_ge col_after middle ds k; south = low_le row_after middle ds k; north = high_ge row_after middle ds k }

-- corner k of the walk from c, by its column and its height
module _ (after : ℕ → ℕ → ℕ) (coord : Corner → ℤ)
    (close : (x d : ℕ) → 0 < x → (x ≤ after x d + 1) × (after x d ≤ x + 1))
    (move : (d x : ℕ) (p : Corner) (o : ℤ) → 0 < x → coord p ≡ o +ℤ pos x → coord (stepped d p) ≡ o +ℤ pos (after x d)) where
  end_at_lem : (p : Corner) (ds : List ℕ) (x : ℕ) (o : ℤ) → length ds ≤ x → coord p ≡ o +ℤ pos x → coord (end_from p ds) ≡ o +ℤ pos (last_from after x ds)
  unfolding last_from
  end_at_lem p [] x o h e = e
  end_at_lem p (d ∷ ds) x o h e = end_at_lem (stepped d p) ds (after x d) o (omega (arith, close x d (omega arith))) (move d x p o (omega arith) e)

module _ (ds : List ℕ) (w : Boxable ds) where
  few : (k : ℕ) → length (take k ds) ≤ middle
  few k = omega (arith, w.short, length-take k ds)

  at-middle : (z : ℤ) → z ≡ (z -ℤ pos middle) +ℤ pos middle
  at-middle z = omega (zarith, bal- z (pos middle), bal+ (z -ℤ pos middle) (pos middle))

  pub corner-column : (c : Corner) (k : ℕ) → (corner_at c ds k).0 ≡ (c.0 -ℤ pos middle) +ℤ pos (column_at ds k)
  corner-column c k = end_at_lem col_after (λ (p : Corner). p.0) near move_x c (take k ds) middle (c.0 -ℤ pos middle) (few k) (at-middle c.0)

  pub corner_height : (c : Corner) (k : ℕ) → (corner_at c ds k).1 ≡ (c.1 -ℤ pos middle) +ℤ pos (height_at ds k)
  corner_height c k = end_at_lem row_after (λ (p : Corner). p.1) near-row move_y c (take k ds) middle (c.1 -ℤ pos middle) (few k) (at-middle c.1)

  same_at : (o : ℤ) (a b : ℕ) → o +ℤ pos a ≡ o +ℤ pos b → a ≡ b
  same_at o a b e = omega (zarith, bal+ o (pos a), bal+ o (pos b))

  -- two corners of the walk are one exactly if their places are
  pub places_corners : (c : Corner) (j k : ℕ) → (place_at ds j ≡ place_at ds k) ↔ (corner_at c ds j ≡ corner_at c ds k)
  places_corners c j k = (
    (λ e.
        let s = place-one ds (column_at ds j, height_at ds j) (column_at ds k, height_at ds k) (corner_in_lem ds j) (corner_in_lem ds k) e in
        corner_eq (corner_at c ds j) (corner_at c ds k)
        (corner-column c j ∙ ap (λ (n : ℕ). (c.0 -ℤ pos middle) +ℤ pos n) s.0 ∙ sym (corner-column c k))
        (corner_height c j ∙ ap (λ (n : ℕ). (c.1 -ℤ pos middle) +ℤ pos n) s.1 ∙ sym (corner_height c k))),
    (λ e. ap₂ (λ (a b : ℕ). box_place ds (a, b))
        (same_at (c.0 -ℤ pos middle) (column_at ds j) (column_at ds k) (sym (corner-column c j) ∙ ap (λ (p : Corner). p.0) e ∙ corner-column c k))
        (same_at (c.1 -ℤ pos middle) (height_at ds j) (height_at ds k) (sym (corner_height c j) ∙ ap (λ (p : Corner). p.1) e ∙ corner_height c k))),
  )

  -- the box is not wider nor higher than the walk is long
  pub width_few : box_width ds ≤ suc (length ds)
  unfolding box_width
  width_few = omega (arith, span_le col_after near middle ds w.short)

  pub height_few : box_height ds ≤ suc (length ds)
  unfolding box_height
  height_few = omega (arith, span_le row_after near-row middle ds w.short)

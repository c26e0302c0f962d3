-- The box of a walk: all columns and heights between the least and the greatest of its corners. Columns and heights are counted
-- so that the walk's start stands in the middle of both. A corner's place in the box counts row after row.
-- Assumes nothing.
use Rattle.std.specs.Prelude.{◌≡◌, List, [], ◌∷◌, ℕ, suc, ◌+◌, ◌*◌, ◌-◌, ◌≤◌, ◌<◌, min, max, length, get_or, take}
use Rattle.column_laws.specs.Columns.{middle, col_after, row_after}

-- where a walk ends along an axis, by where each step leads
unfoldable pub last_from : (ℕ → ℕ → ℕ) → ℕ → List ℕ → ℕ
last_from f x [] = x
last_from f x (d ∷ ds) = last_from f (f x d) ds

-- the least that it reaches, and the greatest
unfoldable pub low_from : (ℕ → ℕ → ℕ) → ℕ → List ℕ → ℕ
low_from f x [] = x
low_from f x (d ∷ ds) = min x (low_from f (f x d) ds)

unfoldable pub high_from : (ℕ → ℕ → ℕ) → ℕ → List ℕ → ℕ
high_from f x [] = x
high_from f x (d ∷ ds) = max x (high_from f (f x d) ds)

-- the column and the height of corner k
abbrev pub column_at : List ℕ → ℕ → ℕ
column_at ds k = last_from col_after middle (take k ds)

abbrev pub height_at : List ℕ → ℕ → ℕ
height_at ds k = last_from row_after middle (take k ds)

-- the box: its least and its greatest column, its least and its greatest height
abbrev pub box_west : List ℕ → ℕ
box_west ds = low_from col_after middle ds

abbrev pub box_east : List ℕ → ℕ
box_east ds = high_from col_after middle ds

abbrev pub box_south : List ℕ → ℕ
box_south ds = low_from row_after middle ds

abbrev pub box_north : List ℕ → ℕ
box_north ds = high_from row_after middle ds

-- how many columns of corners it has, and how many rows
unfoldable pub box_width : List ℕ → ℕ
box_width ds = suc (box_east ds - box_west ds)

unfoldable pub box_height : List ℕ → ℕ
box_height ds = suc (box_north ds - box_south ds)

-- a column and a height in the box
pub record InBox (ds : List ℕ) (v : ℕ × ℕ) : Type 0 where
  pub west : box_west ds ≤ v.0
  pub east : v.0 ≤ box_east ds
  pub south : box_south ds ≤ v.1
  pub north : v.1 ≤ box_north ds

-- the place in the box of the corner with this column and height: of the whole of both, not of their low digits
unfoldable pub box_place : List ℕ → ℕ × ℕ → ℕ
box_place ds v = (v.1 - box_south ds) * box_width ds + (v.0 - box_west ds)

-- the place of corner k
abbrev pub place_at : List ℕ → ℕ → ℕ
place_at ds k = box_place ds (column_at ds k, height_at ds k)

-- how far each step leads in a box of w columns, by its digit; what is added is counted modulo 2 ^ 64
unfoldable pub place_steps : ℕ → List ℕ
place_steps w = 1 ∷ w ∷ 18446744073709551615 ∷ (18446744073709551616 - w) ∷ []

-- the same along one axis, for the column and for the height
unfoldable pub column_steps : List ℕ
column_steps = 1 ∷ 0 ∷ 18446744073709551615 ∷ 0 ∷ []

unfoldable pub height_steps : List ℕ
height_steps = 0 ∷ 1 ∷ 0 ∷ 18446744073709551615 ∷ []

-- steps that are not refused
pub record Boxable (ds : List ℕ) : Type 0 where
  pub digits : (k : ℕ) → get_or ds k 0 < 4
  pub short : length ds ≤ middle

-- a box around the start, no wider and no higher than a walk is long
pub record Reached (west east south north : ℕ) : Type 0 where
  pub left : west ≤ middle
  pub right : middle ≤ east
  pub wide : east ≤ west + middle
  pub lower : south ≤ middle
  pub upper : middle ≤ north
  pub high : north ≤ south + middle
  pub place : (middle - south) * (east - west + 1) ≤ middle * suc middle

-- its columns and rows of corners, and the place of the start in it
pub record Framed (west east south north width height from : ℕ) : Type 0 where
  pub wide : width ≡ east - west + 1
  pub high : height ≡ north - south + 1
  pub start : from ≡ (middle - south) * (east - west + 1) + (middle - west)

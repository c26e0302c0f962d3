-- The vertical edges of a walk by rows of blocks. Columns and heights are counted so that they are whole numbers. Assumes
-- nothing.
use Rattle.std.specs.Prelude.{◌≡◌, List, [], ◌∷◌, ◌++◌, map, ℕ, zero, suc, ◌+◌, ◌*◌, ◌-◌, ◌/◌, ◌<◌, ◌≤◌, ℤ, pos, ◌+ℤ◌, length, get_or}
use Rattle.hull_laws.specs.Lowest.{blank}
use Rattle.column_laws.specs.Columns.{col_after, row_after}
use Rattle.orthogonal.specs.Blocks.{floor_by}

-- column and height of the lower end of the edge of a step d from column x and height y, if it is vertical; and those of a walk
abbrev pub low_end_of : ℕ → ℕ → ℕ → List (ℕ × ℕ)
low_end_of x y zero = []
low_end_of x y (suc zero) = (x, y) ∷ []
low_end_of x y (suc (suc zero)) = []
low_end_of x y (suc (suc (suc d))) = (x, y - 1) ∷ []

unfoldable pub low_ends_from : ℕ → ℕ → List ℕ → List (ℕ × ℕ)
low_ends_from x y [] = []
low_ends_from x y (d ∷ ds) = low_end_of x y d ++ low_ends_from (col_after x d) (row_after y d) ds

-- the row of blocks that an edge stands in, and its column, counted by f. Rows of blocks are g high, and row 0 begins `up` below
-- height 0
abbrev pub lane_of : ℕ → ℕ → (ℕ → ℕ) → ℕ × ℕ → ℕ × ℕ
lane_of g up f v = ((v.1 + up) / g, f v.0)

-- those of the edge of a step, and of the edges of a walk
abbrev pub lane_at : ℕ → ℕ → (ℕ → ℕ) → ℕ → ℕ → ℕ → List (ℕ × ℕ)
lane_at g up f x y d = map (lane_of g up f) (low_end_of x y d)

abbrev pub lanes_from : ℕ → ℕ → (ℕ → ℕ) → ℕ → ℕ → List ℕ → List (ℕ × ℕ)
lanes_from g up f x y ds = map (lane_of g up f) (low_ends_from x y ds)

-- columns counted from west, from `right` west of column 0; and from east, from `far`
abbrev pub from_west : ℕ → ℕ → ℕ
from_west right x = x + right

abbrev pub from_east : ℕ → ℕ → ℕ → ℕ
from_east far right x = far - (x + right)

-- lanes for rows of blocks: as many as a walk goes through that stays below 2 * m, columns that are counted from east there, and
-- blocks of at least a panel
pub record Ruled (m g right up far rows : ℕ) : Type 0 where
  pub some : 0 < g
  pub across : 2 * m + right ≤ far + 1
  pub narrow : far < blank
  pub along : 2 * m + up ≤ rows * g
  pub low : up < blank

-- the first rows that have no edge
pub record EmptyBefore (a : List ℕ) (r : ℕ) : Type 0 where
  pub within : r ≤ length a
  pub before : (q : ℕ) → q < r → get_or a q 0 ≡ blank
  pub here : r < length a → get_or a r 0 ≡ blank → ⊥

-- and the last
pub record EmptyFrom (a : List ℕ) (r : ℕ) : Type 0 where
  pub within : r ≤ length a
  pub after : (q : ℕ) → r ≤ q → q < length a → get_or a q 0 ≡ blank
  pub here : 0 < r → get_or a (r - 1) 0 ≡ blank → ⊥

-- the block of a coordinate o + n is b + (n + e) / g: o lies e after the beginning of block b
abbrev pub Aligned : ℕ → ℤ → ℕ → ℤ → Type 0
Aligned g o e b = (n : ℕ) → floor_by g (o +ℤ pos n) ≡ b +ℤ pos ((n + e) / g)

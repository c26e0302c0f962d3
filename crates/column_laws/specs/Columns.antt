-- A walk's corners by column and height. Columns and heights are counted from wherever makes them whole numbers.
-- Assumes nothing.
use Rattle.std.specs.Prelude.{List, [], ◌∷◌, ℕ, zero, suc, ◌+◌, ◌*◌, ◌-◌, min, max, ℤ, pos, negsuc, ◌+ℤ◌}
use Rattle.grid.specs.declared.Corner.{Corner}
use Rattle.grid.specs.Grid.{corner, east_of, north_of}
use Rattle.answer.specs.Limits.{most_steps}

-- the column and the height of a walk's start: it has space on every side
abbrev pub middle : ℕ
middle = most_steps

-- the height from which the walk turned by half a turn counts
abbrev pub top : ℕ
top = 2 * middle

-- a column or a height with a whole number added
abbrev plus : ℕ → ℤ → ℕ
plus x (pos zero) = x
plus x (pos (suc n)) = x + suc n
plus x (negsuc n) = x - suc n

-- the column after step d
unfoldable pub col_after : ℕ → ℕ → ℕ
col_after x d = plus x (east_of d)

-- the height after step d
unfoldable pub row_after : ℕ → ℕ → ℕ
row_after y d = plus y (north_of d)

-- column and height of each corner of a walk
unfoldable pub trail : ℕ → ℕ → List ℕ → List (ℕ × ℕ)
trail x y [] = (x, y) ∷ []
trail x y (d ∷ ds) = (x, y) ∷ trail (col_after x d) (row_after y d) ds

-- the least column of a walk
unfoldable pub west_from : ℕ → List ℕ → ℕ
west_from x [] = x
west_from x (d ∷ ds) = min x (west_from (col_after x d) ds)

-- the greatest
unfoldable pub east_from : ℕ → List ℕ → ℕ
east_from x [] = x
east_from x (d ∷ ds) = max x (east_from (col_after x d) ds)

-- the corner at column and height v, if (0,0) stands for (x0,y0)
abbrev pub spot : ℤ → ℤ → ℕ × ℕ → Corner
spot x0 y0 v = corner (x0 +ℤ pos v.0) (y0 +ℤ pos v.1)

-- The place of an extremal corner: of the numbers that stand for the places of a walk, the least. Columns and heights are counted
-- so that the walk starts in the middle of both.
-- Assumes nothing.
use Rattle.std.specs.Prelude.{List, [], ◌∷◌, ℕ, zero, suc, ◌+◌, ◌*◌, ◌-◌, ◌%◌, min}
use Rattle.column_laws.specs.Columns.{middle, top, col_after, row_after}

-- the number of a corner: the farther left, then the lower, the less; of the others after one, two and three quarter turns to the
-- left
abbrev pub rank : ℕ → ℕ → ℕ → ℕ
rank zero x y = x * 65536 + y
rank (suc zero) x y = (top - y) * 65536 + x
rank (suc (suc zero)) x y = (top - x) * 65536 + (top - y)
rank (suc (suc (suc t))) x y = y * 65536 + (top - x)

-- of a corner at place i
abbrev pub rank_at : ℕ → ℕ → ℕ → ℕ → ℕ
rank_at t x y i = rank t x y * 32768 + i

-- the least of a walk from place i on
unfoldable pub least_from : ℕ → ℕ → ℕ → ℕ → List ℕ → ℕ
least_from t x y i [] = rank_at t x y i
least_from t x y i (d ∷ ds) = min (rank_at t x y i) (least_from t (col_after x d) (row_after y d) (suc i) ds)

-- the place of the first extremal corner after t quarter turns: of the lowest on the left for 0, the leftmost on top for 1, the
-- highest on the right for 2, and the rightmost at the bottom for 3
unfoldable pub place_of : ℕ → List ℕ → ℕ
place_of t ds = least_from t middle middle 0 ds % 32768

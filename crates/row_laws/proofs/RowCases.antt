-- Spans and rows, computed.
-- Assumes nothing.
use mathlib.Core.List.{[], ◌∷◌}
use mathlib.Core.Path.{◌≡◌, refl}
use lib.IntN.{pos, negsuc}
use Rattle.grid.specs.Grid.{corner, origin}
use Rattle.row.proofs.RowsCases.{span}
use Rattle.row_laws.specs.Feet.{toggle, rows_of}

-- one that is there goes out, another comes in at its place: by row, then by x
toggled_out : toggle (corner (pos 3) (pos 0)) (corner (pos 1) (pos 0) ∷ corner (pos 3) (pos 0) ∷ []) ≡ corner (pos 1) (pos 0) ∷ []
toggled_out = refl

toggled_in : toggle (corner (pos 3) (pos 0)) (corner (pos 1) (pos 0) ∷ corner (pos 0) (pos 1) ∷ []) ≡ corner (pos 1) (pos 0) ∷ corner (pos 3) (pos 0) ∷ corner (pos 0) (pos 1) ∷ []
toggled_in = refl

-- P2: the frame 0000040123 gives 000000000000
pub rows_of_p2 : rows_of origin (0 ∷ 1 ∷ 2 ∷ 3 ∷ []) ≡ span (pos 0) (pos 0) (pos 0) ∷ []
rows_of_p2 = refl

-- P3: walked to the right, below and left of the origin
pub rows_of_p3 : rows_of origin (3 ∷ 2 ∷ 1 ∷ 0 ∷ []) ≡ span (negsuc 0) (negsuc 0) (negsuc 0) ∷ []
rows_of_p3 = refl

-- there and back: no panel
rows_of_p4 : rows_of origin (0 ∷ 2 ∷ []) ≡ []
rows_of_p4 = refl

-- a U: its lower row is one span, its upper row two
pub rows_of_u : rows_of origin (0 ∷ 0 ∷ 0 ∷ 1 ∷ 1 ∷ 2 ∷ 3 ∷ 2 ∷ 1 ∷ 2 ∷ 3 ∷ 3 ∷ [])
    ≡ span (pos 0) (pos 0) (pos 2) ∷ span (pos 1) (pos 0) (pos 0) ∷ span (pos 1) (pos 2) (pos 2) ∷ []
rows_of_u = refl

-- P11, which is crossed: two panels below on the left, two above on the right
rows_of_p11 : rows_of origin (0 ∷ 0 ∷ 1 ∷ 1 ∷ 0 ∷ 0 ∷ 3 ∷ 2 ∷ 2 ∷ 2 ∷ 2 ∷ 3 ∷ []) ≡ span (pos 0) (pos 0) (pos 1) ∷ span (pos 1) (pos 2) (pos 3) ∷ []
rows_of_p11 = refl

-- a figure of eight: a panel below on the left, one above on the right
rows_of_eight : rows_of origin (0 ∷ 1 ∷ 2 ∷ 3 ∷ 3 ∷ 2 ∷ 1 ∷ 0 ∷ []) ≡ span (negsuc 0) (negsuc 0) (negsuc 0) ∷ span (pos 0) (pos 0) (pos 0) ∷ []
rows_of_eight = refl

-- two panels side by side, each walked round: the edge between is walked twice and cancels, so that the spans do not touch
pub rows-side-by-side : rows_of (corner (pos 1) (pos 0)) (0 ∷ 1 ∷ 2 ∷ 3 ∷ 2 ∷ 1 ∷ 0 ∷ 3 ∷ []) ≡ span (pos 0) (pos 0) (pos 1) ∷ []
rows-side-by-side = refl

-- twice round the same panel: every edge cancels
rows-twice-round : rows_of origin (0 ∷ 1 ∷ 2 ∷ 3 ∷ 0 ∷ 1 ∷ 2 ∷ 3 ∷ []) ≡ []
rows-twice-round = refl

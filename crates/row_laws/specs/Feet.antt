-- The list of rows from the lower ends of the vertical edges: they are sorted by row and then by x, equal ones cancel, and the
-- others pair up.
-- Assumes nothing.
use Rattle.std.specs.Prelude.{Bool, cond, ◌&&◌, ◌||◌, List, [], ◌∷◌, ℕ}
use Rattle.std.proofs.Math.IntN.{pred_ℤ}
use Rattle.std.specs.Int.Signed.{lt_z}
use Rattle.grid.specs.{declared.Corner.Corner, Grid.eq_z, Grid.same}
use Rattle.panels.specs.Edges.{Edge, edges_from}
use Rattle.row.specs.Rows.{Span}

-- further south, or in one row further west
abbrev pub ahead : Corner → Corner → Bool
ahead p q = lt_z p.1 q.1 || (eq_z p.1 q.1 && lt_z p.0 q.0)

-- p put into a sorted list, or taken out if it is there
abbrev pub toggle : Corner → List Corner → List Corner
toggle p [] = p ∷ []
toggle p (q ∷ qs) = cond (ahead p q) (p ∷ q ∷ qs) (cond (same p q) qs (q ∷ toggle p qs))

-- the lower ends of the edges, sorted; of equal ones two cancel
abbrev pub feet_of : List Edge → List Corner
feet_of [] = []
feet_of (e ∷ es) = toggle e.foot (feet_of es)

-- the panels between two edges of one row
abbrev pub span_of : Corner → Corner → Span
span_of p q = record { row = p.1; first = p.0; last = pred_ℤ q.0 }

-- the x's of a row x0, x1, x2, x3 .. as the spans from x0 to x1 - 1, from x2 to x3 - 1, ..
abbrev pub pairs_of : List Corner → List Span
pairs_of [] = []
pairs_of (p ∷ []) = []
pairs_of (p ∷ q ∷ qs) = span_of p q ∷ pairs_of qs

-- the rows of the panels inside a walk
abbrev pub rows_of : Corner → List ℕ → List Span
rows_of c ds = pairs_of (feet_of (edges_from c ds))

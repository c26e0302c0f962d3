-- Worked hulls, computed (RULES 9.1).
-- Assumes nothing.
use mathlib.Core.Path.{◌≡◌, refl}
use mathlib.Core.List.{[], ◌∷◌}
use lib.IntN.{pos, negsuc}
use Rattle.grid.specs.Grid.{corner, origin}
use Rattle.column_laws.specs.Columns.{col_after, row_after, trail, west_from, east_from}
use Rattle.hull_laws.specs.Lowest.{sink, sinks}
use Rattle.hull_laws.specs.Chain.{turns_at, cut_at, chain_from, hull_by, hull_of}

-- P1
pub hull_of_none : hull_of origin [] ≡ origin ∷ []
unfolding hull_of hull_by chain_from cut_at turns_at sinks sink west_from east_from trail col_after row_after
hull_of_none = refl

-- P5, along one line
pub hull_of-022 : hull_of origin (0 ∷ 2 ∷ 2 ∷ []) ≡ corner (negsuc 0) (pos 0) ∷ corner (pos 1) (pos 0) ∷ []
unfolding hull_of hull_by chain_from cut_at turns_at sinks sink west_from east_from trail col_after row_after
hull_of-022 = refl

-- along one column
pub hull_of-311 : hull_of origin (3 ∷ 1 ∷ 1 ∷ []) ≡ corner (pos 0) (negsuc 0) ∷ corner (pos 0) (pos 1) ∷ []
unfolding hull_of hull_by chain_from cut_at turns_at sinks sink west_from east_from trail col_after row_after
hull_of-311 = refl

-- P2, the unit square
pub hull_of-0123 : hull_of origin (0 ∷ 1 ∷ 2 ∷ 3 ∷ []) ≡ origin ∷ corner (pos 1) (pos 0) ∷ corner (pos 1) (pos 1) ∷ corner (pos 0) (pos 1) ∷ []
unfolding hull_of hull_by chain_from cut_at turns_at sinks sink west_from east_from trail col_after row_after
hull_of-0123 = refl

-- P11
pub hull_of-001100322223 :
    hull_of origin (0 ∷ 0 ∷ 1 ∷ 1 ∷ 0 ∷ 0 ∷ 3 ∷ 2 ∷ 2 ∷ 2 ∷ 2 ∷ 3 ∷ [])
    ≡ origin ∷ corner (pos 2) (pos 0) ∷ corner (pos 4) (pos 1) ∷ corner (pos 4) (pos 2) ∷ corner (pos 2) (pos 2) ∷ corner (pos 0) (pos 1) ∷ []
unfolding hull_of hull_by chain_from cut_at turns_at sinks sink west_from east_from trail col_after row_after
hull_of-001100322223 = refl

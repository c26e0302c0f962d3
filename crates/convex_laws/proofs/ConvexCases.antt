-- Worked rooms, computed.
-- Assumes nothing.
use mathlib.Core.Path.{◌≡◌, refl}
use mathlib.Core.Bool.{true, false}
use mathlib.Core.List.{[], ◌∷◌}
use lib.IntN.{pos, negsuc}
use Rattle.grid.specs.Grid.{corner, origin}
use Rattle.column_laws.specs.Columns.{col_after, row_after}
use Rattle.hull_laws.specs.Chain.{turns_at, cut_at, chain_from}
use Rattle.convex_laws.specs.Level.{depths_from, are_letters, level, levels, level_along, level_of, convex_part}
use Rattle.convex_laws.specs.Place.{least_from, place_of}
use Rattle.convex_laws.specs.Decide.{convex_at, convex_from, convex_round, convex_of}

-- one panel: each part is one letter
pub one-panel : convex_of origin (0 ∷ 1 ∷ 2 ∷ 3 ∷ []) ≡ true
unfolding convex_of convex_round convex_from convex_at place_of least_from col_after row_after convex_part are_letters level_of level_along levels level depths_from chain_from cut_at turns_at
one-panel = refl

-- the same travelled the other way, from elsewhere
pub one-panel-back : convex_of (corner (pos 7) (negsuc 4)) (1 ∷ 0 ∷ 3 ∷ 2 ∷ []) ≡ true
unfolding convex_of convex_round convex_from convex_at place_of least_from col_after row_after convex_part are_letters level_of level_along levels level depths_from chain_from cut_at turns_at
one-panel-back = refl

-- three panels in a row, from the middle of a wall
pub three_panels : convex_of origin (0 ∷ 0 ∷ 1 ∷ 2 ∷ 2 ∷ 2 ∷ 3 ∷ 0 ∷ []) ≡ true
unfolding convex_of convex_round convex_from convex_at place_of least_from col_after row_after convex_part are_letters level_of level_along levels level depths_from chain_from cut_at turns_at
three_panels = refl

-- an L of three panels: the hull line over its corner passes no grid point
pub three_bent : convex_of origin (0 ∷ 0 ∷ 1 ∷ 2 ∷ 1 ∷ 2 ∷ 3 ∷ 3 ∷ []) ≡ true
unfolding convex_of convex_round convex_from convex_at place_of least_from col_after row_after convex_part are_letters level_of level_along levels level depths_from chain_from cut_at turns_at
three_bent = refl

-- an L of five: a grid point lies on the hull line
pub five_bent : convex_of origin (0 ∷ 0 ∷ 0 ∷ 1 ∷ 2 ∷ 2 ∷ 1 ∷ 1 ∷ 2 ∷ 3 ∷ 3 ∷ 3 ∷ []) ≡ false
unfolding convex_of convex_round convex_from convex_at place_of least_from col_after row_after convex_part are_letters level_of level_along levels level depths_from chain_from cut_at turns_at
five_bent = refl

-- a plus sign of five
pub five_crossed : convex_of origin (0 ∷ 1 ∷ 0 ∷ 1 ∷ 2 ∷ 1 ∷ 2 ∷ 3 ∷ 2 ∷ 3 ∷ 0 ∷ 3 ∷ []) ≡ true
unfolding convex_of convex_round convex_from convex_at place_of least_from col_after row_after convex_part are_letters level_of level_along levels level depths_from chain_from cut_at turns_at
five_crossed = refl

-- a U of five: a part has a third letter
pub five-round : convex_of origin (0 ∷ 0 ∷ 1 ∷ 2 ∷ 1 ∷ 0 ∷ 1 ∷ 2 ∷ 2 ∷ 3 ∷ 3 ∷ 3 ∷ []) ≡ false
unfolding convex_of convex_round convex_from convex_at place_of least_from col_after row_after convex_part are_letters level_of level_along levels level depths_from chain_from cut_at turns_at
five-round = refl

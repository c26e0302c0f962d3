-- Outlines of small walks, computed.
-- Assumes nothing.
use Rattle.std.specs.Prelude.{Err, Ok}
use mathlib.Core.Bool.{true, false}
use mathlib.Core.List.{[], ◌∷◌}
use mathlib.Core.Path.{◌≡◌, refl}
use lib.IntN.{pos, negsuc}
use Rattle.grid.specs.Grid.{corner, origin}
use Rattle.answer.specs.declared.{Refusal.TheVariants.StartRange, Refusal.TheVariants.BadDigit, Refusal.TheVariants.OutlineRoom}
use Rattle.outline.specs.Outline.{walked, home_of, onward, is_done}
use Rattle.outline.specs.Call.{outline_judged}
use Rattle.outline.specs.Computed.{outline_of}

-- a walk without steps gives the empty outline
of_no_step : outline_of origin [] ≡ []
of_no_step = refl

-- one step: there and back
of_one_step : outline_of origin (0 ∷ []) ≡ 0 ∷ 2 ∷ []
of_one_step = refl

-- (1,0) and (0,0) are visited neighbours, and the edge between them was not walked
pub of_three_sides : outline_of origin (1 ∷ 0 ∷ 3 ∷ []) ≡ 1 ∷ 0 ∷ 3 ∷ 1 ∷ 2 ∷ 3 ∷ []
of_three_sides = refl

-- the path is back at the start after two steps, with an edge of it unused
pub of_two_arms : outline_of origin (0 ∷ 2 ∷ 1 ∷ []) ≡ 0 ∷ 2 ∷ 1 ∷ 3 ∷ []
of_two_arms = refl

-- P11 stands on (2,1) twice
pub of_eleven : outline_of origin (0 ∷ 0 ∷ 1 ∷ 1 ∷ 0 ∷ 0 ∷ 3 ∷ 2 ∷ 2 ∷ 2 ∷ 2 ∷ 3 ∷ []) ≡ 0 ∷ 0 ∷ 1 ∷ 0 ∷ 0 ∷ 1 ∷ 2 ∷ 2 ∷ 3 ∷ 2 ∷ 2 ∷ 3 ∷ []
of_eleven = refl

-- clockwise or counterclockwise, a panel gives the counterclockwise outline
pub of_clockwise : outline_of origin (3 ∷ 2 ∷ 1 ∷ 0 ∷ []) ≡ 0 ∷ 1 ∷ 2 ∷ 3 ∷ []
of_clockwise = refl

-- two panels: the edge between them is inside
of_two_panels : outline_of origin (0 ∷ 1 ∷ 2 ∷ 3 ∷ 0 ∷ 0 ∷ 1 ∷ 2 ∷ []) ≡ 0 ∷ 0 ∷ 1 ∷ 2 ∷ 2 ∷ 3 ∷ []
of_two_panels = refl

-- a panel with two dead ends
of_dead_end : outline_of origin (0 ∷ 0 ∷ 1 ∷ 2 ∷ 3 ∷ 3 ∷ []) ≡ 0 ∷ 3 ∷ 1 ∷ 0 ∷ 1 ∷ 2 ∷ 3 ∷ 2 ∷ []
of_dead_end = refl

-- the lowest of the leftmost, wherever the walk starts
home_of_north : home_of (corner (pos 5) (pos 5)) (1 ∷ 1 ∷ []) ≡ corner (pos 5) (pos 5)
home_of_north = refl

home_left_of_low : home_of (corner (pos 0) (negsuc 2)) (0 ∷ 3 ∷ 2 ∷ 1 ∷ 1 ∷ 2 ∷ []) ≡ corner (negsuc 0) (negsuc 1)
home_left_of_low = refl

-- a step west is a walked edge of its end in direction east
walked-both_ways : walked origin (2 ∷ []) (corner (negsuc 0) (pos 0)) 0 ≡ true
walked-both_ways = refl

-- arriving by east if all four edges are walked: right, that is south
turn_right : onward (λ d. true) 0 ≡ 3
turn_right = refl

-- if none but the edge that it came by is walked: back
turn_back : onward (λ d. false) 3 ≡ 1
turn_back = refl

-- the first return of 021 is not the end
first_return : is_done origin (0 ∷ 2 ∷ 1 ∷ []) (0 ∷ 2 ∷ []) ≡ false
first_return = refl

-- a buffer of one byte is one too short for a step there and back; what is wrong with the digits is judged first, and what is
-- wrong with the start before that
one_byte_short : outline_judged origin (0 ∷ []) 1 2 ≡ Err OutlineRoom
one_byte_short = refl

just_enough : outline_judged origin (0 ∷ []) 2 2 ≡ Ok tt
just_enough = refl

digit_first : outline_judged origin (0 ∷ 4 ∷ []) 0 4 ≡ Err (BadDigit 1)
digit_first = refl

start_first : outline_judged (corner (pos 16385) (pos 0)) (4 ∷ []) 0 2 ≡ Err StartRange
start_first = refl

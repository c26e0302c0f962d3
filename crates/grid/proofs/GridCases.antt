-- Steps, parents and child words, computed.
-- Assumes nothing.
use mathlib.Core.List.{[], ◌∷◌}
use mathlib.Core.Bool.{true, false}
use mathlib.Core.Path.{◌≡◌, refl}
use mathlib.Core.Logic.{inl, inr}
use lib.IntN.{pos, negsuc}
use Rattle.grid.specs.Grid.{corner, origin, Begins, back, corners_from, corner_at, legs_from, joins}
use Rattle.grid.specs.Tree.{root, half_of, lineage_of, path_of, slot_of, child_word}

-- -1 is a child of 0
half_of_minus_one : half_of (negsuc 0) ≡ pos 0
half_of_minus_one = refl

-- the children of -1 are -2 and -3
half_of_minus_two : half_of (negsuc 1) ≡ negsuc 0
half_of_minus_two = refl

half_of_minus_three : half_of (negsuc 2) ≡ negsuc 0
half_of_minus_three = refl

half_of_minus_four : half_of (negsuc 3) ≡ negsuc 1
half_of_minus_four = refl

half_of_three : half_of (pos 3) ≡ pos 1
half_of_three = refl

-- (1,1) and (-1,1), both children of the root, stand in different words
word_of_north-east : child_word (corner (pos 1) (pos 1)) ≡ 9
word_of_north-east = refl

word_of_north_west : child_word (corner (negsuc 0) (pos 1)) ≡ 3
word_of_north_west = refl

-- child (0,0) stands in word 5, and (-1,-1) in word 1
word_of_two-two : child_word (corner (pos 2) (pos 2)) ≡ 5
word_of_two-two = refl

word_of_south_west : child_word (corner (negsuc 0) (negsuc 0)) ≡ 1
word_of_south_west = refl

-- the indices of -2 and -3 are 0 and 1
slots_below_minus_one : slot_of (negsuc 1) ∷ slot_of (negsuc 2) ∷ [] ≡ 1 ∷ 2 ∷ []
slots_below_minus_one = refl

-- a node and its ancestors, and the same from the root
lineage_of_five : lineage_of (corner (pos 5) (negsuc 1)) ≡ corner (pos 5) (negsuc 1) ∷ corner (pos 2) (negsuc 0) ∷ corner (pos 1) (pos 0) ∷ root ∷ []
lineage_of_five = refl

path_of_five : path_of (corner (pos 5) (negsuc 1)) ≡ root ∷ corner (pos 1) (pos 0) ∷ corner (pos 2) (negsuc 0) ∷ corner (pos 5) (negsuc 1) ∷ []
path_of_five = refl

-- east, north, west, west, south
corners_of_a_walk : corners_from origin (0 ∷ 1 ∷ 2 ∷ 2 ∷ 3 ∷ [])
    ≡ origin ∷ corner (pos 1) (pos 0) ∷ corner (pos 1) (pos 1) ∷ corner (pos 0) (pos 1) ∷ corner (negsuc 0) (pos 1) ∷ corner (negsuc 0) (pos 0) ∷ []
corners_of_a_walk = refl

corner-at_four : corner_at origin (0 ∷ 1 ∷ 2 ∷ 2 ∷ 3 ∷ []) 4 ≡ corner (negsuc 0) (pos 1)
corner-at_four = refl

-- the way back from each direction
ways_back : back 0 ∷ back 1 ∷ back 2 ∷ back 3 ∷ [] ≡ 2 ∷ 3 ∷ 0 ∷ 1 ∷ []
ways_back = refl

-- a step has its two ends, either way, and no other corner
legs_of_a_walk : legs_from origin (0 ∷ 2 ∷ []) ≡ (origin, corner (pos 1) (pos 0)) ∷ (corner (pos 1) (pos 0), origin) ∷ []
legs_of_a_walk = refl

joined_the_other_way : joins (corner (pos 1) (pos 0)) origin (origin, corner (pos 1) (pos 0)) ≡ true
joined_the_other_way = refl

joined-to_another : joins origin (corner (pos 0) (pos 1)) (origin, corner (pos 1) (pos 0)) ≡ false
joined-to_another = refl

-- the lowest of the leftmost comes first
lowest-first : Begins origin (corner (pos 0) (pos 1))
lowest-first = inr (refl, record { le = tt })

leftmost_first : Begins (corner (negsuc 0) (pos 5)) origin
leftmost_first = inl (record { lt = tt })

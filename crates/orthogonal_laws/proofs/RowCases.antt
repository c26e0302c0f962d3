-- The rows of the hulls of small shapes, computed.
-- Assumes nothing.
use mathlib.Core.List.{List, [], ◌∷◌}
use mathlib.Core.Path.{◌≡◌, refl}
use Prim.Native.Nat.{ℕ}
use lib.ListN.{get_or}
use Rattle.orthogonal_laws.specs.HullRows.{hull_left, hull_right}

-- the ends of three rows, and those of the hull's
abbrev lefts : List ℕ → List ℕ
lefts l = hull_left (λ q. get_or l q 0) 2 0 ∷ hull_left (λ q. get_or l q 0) 2 1 ∷ hull_left (λ q. get_or l q 0) 2 2 ∷ []

abbrev rights : List ℕ → List ℕ
rights r = hull_right (λ q. get_or r q 0) 2 0 ∷ hull_right (λ q. get_or r q 0) 2 1 ∷ hull_right (λ q. get_or r q 0) 2 2 ∷ []

-- a U that lies on its side: the mouth is filled, whichever side it is on
mouth_on_the_left : lefts (0 ∷ 2 ∷ 0 ∷ []) ≡ 0 ∷ 0 ∷ 0 ∷ []
mouth_on_the_left = refl

mouth_on_the_right : rights (3 ∷ 1 ∷ 3 ∷ []) ≡ 3 ∷ 3 ∷ 3 ∷ []
mouth_on_the_right = refl

-- a plus and a staircase stay as they are: the corners of their boxes are not in the hull
plus_on_the_left : lefts (1 ∷ 0 ∷ 1 ∷ []) ≡ 1 ∷ 0 ∷ 1 ∷ []
plus_on_the_left = refl

plus_on_the_right : rights (2 ∷ 3 ∷ 2 ∷ []) ≡ 2 ∷ 3 ∷ 2 ∷ []
plus_on_the_right = refl

stairs_on_the_left : lefts (0 ∷ 1 ∷ 2 ∷ []) ≡ 0 ∷ 1 ∷ 2 ∷ []
stairs_on_the_left = refl

stairs_on_the_right : rights (2 ∷ 3 ∷ 4 ∷ []) ≡ 2 ∷ 3 ∷ 4 ∷ []
stairs_on_the_right = refl

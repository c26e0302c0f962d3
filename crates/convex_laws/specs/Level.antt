-- The decision on a part by its columns. A part over the letters 0 and 1 is drawn upside down: each column has the depth, below
-- some line above the part, of its highest corner. The part is convex when no column's next higher grid point reaches the chain
-- over the depths.
-- Assumes nothing.
use Rattle.std.specs.Prelude.{Bool, true, ◌&&◌, List, [], ◌∷◌, ℕ, zero, suc, ◌+◌, ◌*◌, ◌-◌, ltb, length, get_or}
use Rattle.hull_laws.specs.Chain.{chain_from}

-- how deep the highest corner of each column lies, if the part begins y deep: a column is left by a step 0
unfoldable pub depths_from : ℕ → List ℕ → List ℕ
depths_from y [] = y ∷ []
depths_from y (zero ∷ w) = y ∷ depths_from y w
depths_from y (suc d ∷ w) = depths_from (y - 1) w

-- all letters are 0 or 1
unfoldable pub are_letters : List ℕ → Bool
are_letters [] = true
are_letters (d ∷ w) = ltb d 2 && are_letters w

-- the grid point next above column c lies above the straight line from column p to column b
unfoldable pub level : List ℕ → ℕ → ℕ → ℕ → Bool
level ys p b c =
    ltb ((b - p) * get_or ys c 0 + (c - p) * get_or ys p 0) ((c - p) * get_or ys b 0 + (b - p) * get_or ys p 0 + (b - p))

-- so it is for k columns from c on
unfoldable pub levels : List ℕ → ℕ → ℕ → ℕ → ℕ → Bool
levels ys p b c zero = true
levels ys p b c (suc k) = level ys p b c && levels ys p b (suc c) k

-- and for all columns between the neighbours of a chain
unfoldable pub level_along : List ℕ → List ℕ → Bool
level_along ys [] = true
level_along ys (p ∷ []) = true
level_along ys (p ∷ (b ∷ s)) = levels ys p b (suc p) (b - suc p) && level_along ys (b ∷ s)

-- the columns' test on their chain
unfoldable pub level_of : List ℕ → Bool
level_of ys = level_along ys (chain_from ys 0 (length ys))

-- the decision on a part that is turned back to the first
unfoldable pub convex_part : List ℕ → Bool
convex_part w = are_letters w && level_of (depths_from (length w) w)

-- A loop turned, mirrored, walked from another of its corners, and walked backwards (RULES 1.10). Assumes nothing.
use Rattle.std.specs.Prelude.{List, [], ◌∷◌, ◌++◌, take, drop, ℕ, zero, suc}
use Rattle.grid.specs.Grid.{back}

-- a quarter turn to the left: east to north, north to west, west to south, south to east
abbrev pub turned : ℕ → ℕ
turned zero = 1
turned (suc zero) = 2
turned (suc (suc zero)) = 3
turned (suc (suc (suc d))) = 0

-- mirrored, east and west exchanged
abbrev pub mirrored : ℕ → ℕ
mirrored zero = 2
mirrored (suc zero) = 1
mirrored (suc (suc zero)) = 0
mirrored (suc (suc (suc d))) = 3

-- mirrored, north and south exchanged
abbrev pub flipped : ℕ → ℕ
flipped zero = 0
flipped (suc zero) = 3
flipped (suc (suc zero)) = 2
flipped (suc (suc (suc d))) = 1

-- from the corner pj: the steps after it, then those before it
abbrev pub started_at : ℕ → List ℕ → List ℕ
started_at j ds = drop j ds ++ take j ds

-- backwards: the last step first, and each the other way
abbrev pub backward : List ℕ → List ℕ
backward [] = []
backward (d ∷ ds) = backward ds ++ (back d ∷ [])

-- The greatest of some bytes, or 0. Assumes nothing.
use Rattle.std.specs.Prelude.{List, [], ◌∷◌, ℕ, max}

abbrev pub highest_of : List ℕ → ℕ
highest_of [] = 0
highest_of (b ∷ bs) = max b (highest_of bs)

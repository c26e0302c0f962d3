-- What each step adds to a column and to a height.
-- Assumes nothing.
use Rattle.std.specs.Prelude.{ℕ, List, [], ◌∷◌}

-- the steps 0 to 3 as what is added to a column, modulo 2^32, and to a height, modulo 2^16
abbrev pub east_steps : List ℕ
east_steps = 1 ∷ 0 ∷ 4294967295 ∷ 0 ∷ []

abbrev pub north_steps : List ℕ
north_steps = 0 ∷ 1 ∷ 0 ∷ 65535 ∷ []

-- The sides of a pile of rows, written row by row. Assumes nothing.
use Rattle.std.specs.Prelude.{List, [], ◌∷◌, ◌++◌, ℕ, zero, suc, ◌+◌, ◌-◌, get_or}
use Rattle.orthogonal_chain_laws.specs.Chain.{sideways}

-- the left ends of the rows, as a list has them; and the right ends, as a list has them counted from east
abbrev pub left_in : List ℕ → ℕ → ℕ
left_in lo q = get_or lo q 0

abbrev pub right_in : ℕ → List ℕ → ℕ → ℕ
right_in span hi q = span - get_or hi q 0

-- from column x down n rows, the last of them row m: to the end of each row, and then south along it
unfoldable pub descent : (ℕ → ℕ) → ℕ → ℕ → ℕ → List ℕ
descent l x m zero = []
descent l x m (suc n) = sideways x (l (m + n)) ++ (3 ∷ descent l (l (m + n)) m n)

-- from column x up n rows, the first of them row q: to the end of each row, and then north along it
unfoldable pub ascent : (ℕ → ℕ) → ℕ → ℕ → ℕ → List ℕ
ascent r x q zero = []
ascent r x q (suc n) = sideways x (r q) ++ (1 ∷ ascent r (r q) (suc q) n)

-- Numbers out of bytes, in either order (RULES 18.2). Assumes nothing.
use Rattle.std.specs.Prelude.{reverse, Bool, true, false, cond, ◌&&◌, List, [], ◌∷◌, ℕ, ◌+◌, ◌*◌, eqb}

-- the number with these digits, the lowest first
unfoldable pub number_of : List ℕ → ℕ
number_of [] = 0
number_of (d ∷ ds) = d + 256 * number_of ds

-- the number with these digits, the lowest first if the order is little, and else the highest
unfoldable pub number_in : Bool → List ℕ → ℕ
unfolding number_of
number_in little ds = number_of (cond little ds (reverse ds))

-- whether a list begins with the list p
unfoldable pub starts_with : List ℕ → List ℕ → Bool
starts_with [] s = true
starts_with (p ∷ ps) [] = false
starts_with (p ∷ ps) (b ∷ s) = eqb b p && starts_with ps s

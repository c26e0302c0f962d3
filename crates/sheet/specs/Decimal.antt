-- Numbers in decimal (RULES 20.2). Assumes nothing.
use Rattle.std.specs.Prelude.{cond, List, [], ◌∷◌, ◌++◌, ℕ, zero, suc, ◌+◌, ◌/◌, ◌%◌, ltb, ℤ, pos, negsuc}

-- the digits of n, the highest first, without zeros before it: at most k of them
unfoldable pub decimal_of : ℕ → ℕ → List ℕ
decimal_of zero n = []
decimal_of (suc k) n = cond (ltb n 10) [] (decimal_of k (n / 10)) ++ ((48 + n % 10) ∷ [])

-- a minus sign before the digits of a negative number
abbrev pub signed_of : ℕ → ℤ → List ℕ
signed_of k (pos n) = decimal_of k n
signed_of k (negsuc n) = 45 ∷ decimal_of k (suc n)

-- Numbers as bytes (RULES 13.2). Assumes nothing.
use Rattle.std.specs.Prelude.{List, [], ◌∷◌, ℕ, zero, suc, ◌/◌, ◌%◌}

-- the n lowest digits of b to the base 256, the lowest first
unfoldable pub bytes_of : ℕ → ℕ → List ℕ
bytes_of zero b = []
bytes_of (suc n) b = b % 256 ∷ bytes_of n (b / 256)

-- Hexadecimal, in lower case (RULES 7.2, 7.4). Assumes nothing.
use Rattle.std.specs.Prelude.{Bool, true, cond, ◌&&◌, ◌||◌, List, [], ◌∷◌, ◌++◌, get_or, ℕ, zero, suc, ◌+◌, ◌-◌, ◌*◌, ◌/◌, ◌%◌, ltb, leb}

-- the byte is 0 to 9 or a to f
abbrev pub is_hex : ℕ → Bool
is_hex b = (leb 48 b && leb b 57) || (leb 97 b && leb b 102)

-- what that digit is worth
abbrev pub value_of : ℕ → ℕ
value_of b = cond (leb b 57) (b - 48) (b - 87)

-- every byte is a digit
unfoldable pub all_hex : List ℕ → Bool
all_hex [] = true
all_hex (b ∷ s) = is_hex b && all_hex s

-- the digits' values
unfoldable pub values_of : List ℕ → List ℕ
values_of [] = []
values_of (b ∷ s) = value_of b ∷ values_of s

-- the number that digits spell, after digits that spell v
unfoldable pub number_from : ℕ → List ℕ → ℕ
number_from v [] = v
number_from v (b ∷ s) = number_from (v * 16 + value_of b) s

-- the number that the digits at place i and after it spell
abbrev pub pair_at : List ℕ → ℕ → ℕ
pair_at s i = value_of (get_or s i 0) * 16 + value_of (get_or s (i + 1) 0)

-- the digit that is worth d
abbrev pub letter_of : ℕ → ℕ
letter_of d = cond (ltb d 10) (d + 48) (d + 87)

-- a field: the low n digits of v, the highest first
unfoldable pub hex_of : ℕ → ℕ → List ℕ
hex_of zero v = []
hex_of (suc n) v = hex_of n (v / 16) ++ (letter_of (v % 16) ∷ [])

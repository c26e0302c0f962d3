-- What a float's bits show of a coordinate: its exponent and its digits.
-- Assumes nothing.
use Rattle.answer.specs.Limits.{farthest}
use Rattle.std.specs.Prelude.{Float, ◌≡◌, Bool, false, cond, ◌&&◌, ℕ, ◌+◌, ◌-◌, ◌/◌, ◌%◌, ◌^◌, leb, Some, ℤ}
use Rattle.std.specs.Float.{inf, binary64}
use Rattle.std.specs.Float.Ieee.{of_bits, nan_bits}
use Rattle.polygon.specs.Coordinate.{scale}
use Rattle.polygon_ring.specs.Coordinate.{whole_of}

-- the float of these bits as it is kept: what is not a number is kept as an infinity, which is not a coordinate either; and its
-- bits
unfoldable pub float_kept : ℕ → Float
float_kept b = cond (nan_bits binary64 b) (inf false) (of_bits binary64 b)

unfoldable pub bits_kept : ℕ → ℕ
bits_kept b = cond (nan_bits binary64 b) 0x7ff0_0000_0000_0000 b

-- the sign, and the bits without it
abbrev pub negative_in : ℕ → Bool
negative_in b = leb (2 ^ 63) b

abbrev pub size_in : ℕ → ℕ
size_in b = b % 2 ^ 63

-- of those: the digits with the leading one, and how many of them come after the point
abbrev pub digits_in : ℕ → ℕ
digits_in m = 2 ^ 52 + m % 2 ^ 52

abbrev pub places_in : ℕ → ℕ
places_in m = 1075 - m / 2 ^ 52

-- the number lies between 2 ^ 9 and 2 ^ 25, as 600 and 600 * 32,768 do
unfoldable pub in_reach : ℕ → Bool
in_reach m = leb 1032 (m / 2 ^ 52) && leb (m / 2 ^ 52) 1047

-- how many panels the digits before the point hold
abbrev pub panels_shown : ℕ → ℕ
panels_shown m = digits_in m / 2 ^ places_in m / scale

-- the float is a coordinate
abbrev pub IsAccepted : Float → Type 0
IsAccepted x = (z : ℤ) × (whole_of farthest x ≡ Some z)

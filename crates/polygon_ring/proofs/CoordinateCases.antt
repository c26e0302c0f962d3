-- Coordinates in, computed: signs, zeros, fractions, ends of the range, and what is not a number.
-- Assumes nothing.
use Rattle.std.specs.Prelude.{None, Option, Some, ℤ}
use mathlib.Core.Path.{◌≡◌, refl}
use mathlib.Core.Bool.{true, false}
use mathlib.Core.List.{[], ◌∷◌}
use Prim.Native.Nat.{ℕ}
use lib.IntN.{pos, negsuc}
use lib.Ieee.{binary64, of_bits}
use Rattle.polygon_ring.specs.Bytes.{number_of, number_in}
use Rattle.polygon_ring.specs.Coordinate.{whole_at, whole_of}

-- 1 and 3, the lowest byte first, are 769
lowest-first : number_in true (1 ∷ 3 ∷ []) ≡ 769
unfolding number_in number_of
lowest-first = refl

-- the other byte order
highest-first : number_in false (64 ∷ 130 ∷ 192 ∷ 0 ∷ 0 ∷ 0 ∷ 0 ∷ 0 ∷ []) ≡ number_in true (0 ∷ 0 ∷ 0 ∷ 0 ∷ 0 ∷ 192 ∷ 130 ∷ 64 ∷ [])
unfolding number_in number_of
highest-first = refl

-- what the float with these bits is, at most 32,768 panels away
abbrev pub read : ℕ → Option ℤ
read b = whole_of 32768 (of_bits binary64 b)

plus_zero : read 0 ≡ Some (pos 0)
unfolding whole_of whole_at of_bits
plus_zero = refl

pub minus_zero_lem : read 0x8000_0000_0000_0000 ≡ Some (pos 0)
unfolding whole_of whole_at of_bits
minus_zero_lem = refl

six_hundred : read 0x4082_c000_0000_0000 ≡ Some (pos 1)
unfolding whole_of whole_at of_bits
six_hundred = refl

minus_six_hundred : read 0xc082_c000_0000_0000 ≡ Some (negsuc 0)
unfolding whole_of whole_at of_bits
minus_six_hundred = refl

-- 601, 600.5, the smallest float above zero
six_hundred_and_one : read 0x4082_c800_0000_0000 ≡ None
unfolding whole_of whole_at of_bits
six_hundred_and_one = refl

a_fraction : read 0x4082_c400_0000_0000 ≡ None
unfolding whole_of whole_at of_bits
a_fraction = refl

smallest : read 1 ≡ None
unfolding whole_of whole_at of_bits
smallest = refl

-- 19,660,800 and 19,661,400
farthest : read 0x4172_c000_0000_0000 ≡ Some (pos 32768)
unfolding whole_of whole_at of_bits
farthest = refl

too_far : read 0x4172_c025_8000_0000 ≡ None
unfolding whole_of whole_at of_bits
too_far = refl

infinity : read 0x7ff0_0000_0000_0000 ≡ None
unfolding whole_of whole_at of_bits
infinity = refl

pub no_number : read 0x7ff8_0000_0000_0000 ≡ None
unfolding whole_of whole_at of_bits
no_number = refl

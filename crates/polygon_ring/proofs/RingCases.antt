-- Files as the call judges them, computed; files, numbers and places are those of another implementation.
-- Assumes nothing.
use Rattle.std.specs.Prelude.{◌≡◌, List, [], ◌∷◌, ◌++◌, ℕ}
use mathlib.Core.List.{reverse}
use mathlib.Core.Path.{refl}
use lib.Ieee.{of_bits}
use Rattle.polygon_ring.specs.Bytes.{starts_with, number_of, number_in}
use Rattle.polygon_ring.specs.Coordinate.{whole_at, whole_of}
use Rattle.answer.specs.Refusal.{judged_number, judged_place}
use Rattle.polygon_ring.specs.Ring.{order_of, count_in, point_in, point_at, points_from, read_judged, ring_of, chain_of_points}

-- number and place of the judgement on a file, if the chain buffer has this length
abbrev pub judged_as : List ℕ → ℕ → ℕ × ℕ
judged_as file room = (judged_number (read_judged file room), judged_place (read_judged file room))

-- the bytes of numbers of millimetres, lowest first
abbrev mm0 : List ℕ
mm0 = 0 ∷ 0 ∷ 0 ∷ 0 ∷ 0 ∷ 0 ∷ 0 ∷ 0 ∷ []

abbrev mm1 : List ℕ
mm1 = 0 ∷ 0 ∷ 0 ∷ 0 ∷ 0 ∷ 0 ∷ 240 ∷ 63 ∷ []

abbrev mm300 : List ℕ
mm300 = 0 ∷ 0 ∷ 0 ∷ 0 ∷ 0 ∷ 192 ∷ 114 ∷ 64 ∷ []

abbrev mm600 : List ℕ
mm600 = 0 ∷ 0 ∷ 0 ∷ 0 ∷ 0 ∷ 192 ∷ 130 ∷ 64 ∷ []

abbrev mm1200 : List ℕ
mm1200 = 0 ∷ 0 ∷ 0 ∷ 0 ∷ 0 ∷ 192 ∷ 146 ∷ 64 ∷ []

abbrev mm2457600 : List ℕ
mm2457600 = 0 ∷ 0 ∷ 0 ∷ 0 ∷ 0 ∷ 192 ∷ 66 ∷ 65 ∷ []

abbrev mm2458200 : List ℕ
mm2458200 = 0 ∷ 0 ∷ 0 ∷ 0 ∷ 44 ∷ 193 ∷ 66 ∷ 65 ∷ []

abbrev mm9831000 : List ℕ
mm9831000 = 0 ∷ 0 ∷ 0 ∷ 0 ∷ 75 ∷ 192 ∷ 98 ∷ 65 ∷ []

abbrev mm9831600 : List ℕ
mm9831600 = 0 ∷ 0 ∷ 0 ∷ 0 ∷ 150 ∷ 192 ∷ 98 ∷ 65 ∷ []

abbrev minus_zero : List ℕ
minus_zero = 0 ∷ 0 ∷ 0 ∷ 0 ∷ 0 ∷ 0 ∷ 0 ∷ 128 ∷ []

abbrev not_a_number : List ℕ
not_a_number = 0 ∷ 0 ∷ 0 ∷ 0 ∷ 0 ∷ 0 ∷ 248 ∷ 127 ∷ []

-- the bytes of points, each as its two numbers, and the same with the highest byte of each number first
abbrev point_bytes : List (List ℕ × List ℕ) → List ℕ
point_bytes [] = []
point_bytes (p ∷ ps) = p.0 ++ (p.1 ++ point_bytes ps)

abbrev turned : List (List ℕ × List ℕ) → List (List ℕ × List ℕ)
turned [] = []
turned (p ∷ ps) = (reverse p.0, reverse p.1) ∷ turned ps

-- the ring of the unit room
abbrev unit_ring : List (List ℕ × List ℕ)
unit_ring = (mm0, mm0) ∷ (mm600, mm0) ∷ (mm600, mm600) ∷ (mm0, mm600) ∷ (mm0, mm0) ∷ []

-- a file: its thirteen bytes and its points
abbrev headed : List ℕ → List (List ℕ × List ℕ) → List ℕ
headed head ps = head ++ point_bytes ps

-- a polygon of one ring with this many points, with the lowest byte of each number first
abbrev lowest : ℕ → List (List ℕ × List ℕ) → List ℕ
lowest n = headed (1 ∷ 3 ∷ 0 ∷ 0 ∷ 0 ∷ 1 ∷ 0 ∷ 0 ∷ 0 ∷ n ∷ 0 ∷ 0 ∷ 0 ∷ [])

-- and with the highest first
abbrev highest : ℕ → List (List ℕ × List ℕ) → List ℕ
highest n ps = headed (0 ∷ 0 ∷ 0 ∷ 0 ∷ 3 ∷ 0 ∷ 0 ∷ 0 ∷ 1 ∷ 0 ∷ 0 ∷ 0 ∷ n ∷ []) (turned ps)

-- the unit room
unit : judged_as (lowest 5 unit_ring) 4 ≡ (0, 0)
unfolding order_of starts_with count_in number_in number_of points_from point_at point_in whole_of whole_at of_bits
unit = refl

-- the other byte order, and minus zero is zero
highest-first : judged_as (highest 5 ((minus_zero, mm0) ∷ (mm600, minus_zero) ∷ (mm600, mm600) ∷ (mm0, mm600) ∷ (mm0, minus_zero) ∷ [])) 4 ≡ (0, 0)
unfolding order_of starts_with count_in number_in number_of points_from point_at point_in whole_of whole_at of_bits
highest-first = refl

-- 14: twelve bytes
twelve : judged_as (1 ∷ 3 ∷ 0 ∷ 0 ∷ 0 ∷ 1 ∷ 0 ∷ 0 ∷ 0 ∷ 5 ∷ 0 ∷ 0 ∷ []) 4 ≡ (14, 0)
unfolding order_of starts_with count_in number_in number_of points_from point_at point_in whole_of whole_at of_bits
twelve = refl

-- 15: the byte order is 0 or 1
order_two : judged_as (headed (2 ∷ 3 ∷ 0 ∷ 0 ∷ 0 ∷ 1 ∷ 0 ∷ 0 ∷ 0 ∷ 5 ∷ 0 ∷ 0 ∷ 0 ∷ []) unit_ring) 4 ≡ (15, 0)
unfolding order_of starts_with count_in number_in number_of points_from point_at point_in whole_of whole_at of_bits
order_two = refl

-- 15: two rings
two_rings : judged_as (headed (1 ∷ 3 ∷ 0 ∷ 0 ∷ 0 ∷ 2 ∷ 0 ∷ 0 ∷ 0 ∷ 5 ∷ 0 ∷ 0 ∷ 0 ∷ []) unit_ring) 4 ≡ (15, 0)
unfolding order_of starts_with count_in number_in number_of points_from point_at point_in whole_of whole_at of_bits
two_rings = refl

-- 15: the byte order of the header is that of the first byte
pub mixed : judged_as (headed (0 ∷ 3 ∷ 0 ∷ 0 ∷ 0 ∷ 1 ∷ 0 ∷ 0 ∷ 0 ∷ 5 ∷ 0 ∷ 0 ∷ 0 ∷ []) unit_ring) 4 ≡ (15, 0)
unfolding order_of starts_with count_in number_in number_of points_from point_at point_in whole_of whole_at of_bits
mixed = refl

-- 14 again: a length other than thirteen and sixteen for each point
pub one_byte_more : judged_as (lowest 5 unit_ring ++ (0 ∷ [])) 4 ≡ (14, 0)
unfolding order_of starts_with count_in number_in number_of points_from point_at point_in whole_of whole_at of_bits
one_byte_more = refl

-- 14 again: six points counted, five there; before 16
counted_six : judged_as (lowest 6 ((mm1, mm0) ∷ (mm600, mm0) ∷ (mm600, mm600) ∷ (mm0, mm600) ∷ (mm0, mm0) ∷ [])) 4 ≡ (14, 0)
unfolding order_of starts_with count_in number_in number_of points_from point_at point_in whole_of whole_at of_bits
counted_six = refl

-- 16: 300 is not a multiple of 600; before 17
off_grid : judged_as (lowest 5 ((mm0, mm0) ∷ (mm600, mm0) ∷ (mm600, mm300) ∷ (mm0, mm600) ∷ (mm0, mm0) ∷ [])) 4 ≡ (16, 0)
unfolding order_of starts_with count_in number_in number_of points_from point_at point_in whole_of whole_at of_bits
off_grid = refl

-- 16: the first point beyond 9,830,400
pub first-far : judged_as (lowest 4 ((mm9831000, mm0) ∷ (mm9831600, mm0) ∷ (mm9831600, mm600) ∷ (mm9831000, mm0) ∷ [])) 4 ≡ (16, 0)
unfolding order_of starts_with count_in number_in number_of points_from point_at point_in whole_of whole_at of_bits
first-far = refl

-- 16: no number
not_a-number : judged_as (lowest 5 ((mm0, mm0) ∷ (mm600, mm0) ∷ (not_a_number, mm600) ∷ (mm0, mm600) ∷ (mm0, mm0) ∷ [])) 4 ≡ (16, 0)
unfolding order_of starts_with count_in number_in number_of points_from point_at point_in whole_of whole_at of_bits
not_a-number = refl

-- 17: a slant
slant : judged_as (lowest 5 ((mm0, mm0) ∷ (mm600, mm0) ∷ (mm1200, mm600) ∷ (mm0, mm600) ∷ (mm0, mm0) ∷ [])) 9 ≡ (17, 0)
unfolding order_of starts_with count_in number_in number_of points_from point_at point_in whole_of whole_at of_bits
slant = refl

-- 17: a repeated point
repeated : judged_as (lowest 6 ((mm0, mm0) ∷ (mm600, mm0) ∷ (mm600, mm0) ∷ (mm600, mm600) ∷ (mm0, mm600) ∷ (mm0, mm0) ∷ [])) 9 ≡ (17, 0)
unfolding order_of starts_with count_in number_in number_of points_from point_at point_in whole_of whole_at of_bits
repeated = refl

-- 17: there and back has three points
three_points : judged_as (lowest 3 ((mm0, mm0) ∷ (mm600, mm0) ∷ (mm0, mm0) ∷ [])) 9 ≡ (17, 0)
unfolding order_of starts_with count_in number_in number_of points_from point_at point_in whole_of whole_at of_bits
three_points = refl

-- 17: the last point is not the first
not_closed : judged_as (lowest 4 ((mm0, mm0) ∷ (mm600, mm0) ∷ (mm600, mm600) ∷ (mm0, mm600) ∷ [])) 9 ≡ (17, 0)
unfolding order_of starts_with count_in number_in number_of points_from point_at point_in whole_of whole_at of_bits
not_closed = refl

-- 17: the last point may be beyond 9,830,400, but is not the first then
pub last-far : judged_as (lowest 4 ((mm0, mm0) ∷ (mm600, mm0) ∷ (mm600, mm9831000) ∷ (mm0, mm9831000) ∷ [])) 9 ≡ (17, 0)
unfolding order_of starts_with count_in number_in number_of points_from point_at point_in whole_of whole_at of_bits
last-far = refl

-- 17: no points
no_points : judged_as (lowest 0 []) 9 ≡ (17, 0)
unfolding order_of starts_with count_in number_in number_of points_from point_at point_in whole_of whole_at of_bits
no_points = refl

-- 6 at place 16,384, before 18
too_long : judged_as (lowest 5 ((mm0, mm0) ∷ (mm2457600, mm0) ∷ (mm2457600, mm2458200) ∷ (mm0, mm2458200) ∷ (mm0, mm0) ∷ [])) 0 ≡ (6, 16384)
unfolding order_of starts_with count_in number_in number_of points_from point_at point_in whole_of whole_at of_bits
too_long = refl

-- 16,384 steps are read, if the buffer is long enough: 18
just_long : judged_as (lowest 5 ((mm0, mm0) ∷ (mm2457600, mm0) ∷ (mm2457600, mm2457600) ∷ (mm0, mm2457600) ∷ (mm0, mm0) ∷ [])) 16383 ≡ (18, 0)
unfolding order_of starts_with count_in number_in number_of points_from point_at point_in whole_of whole_at of_bits
just_long = refl

-- 18: a buffer of three steps
short-chain : judged_as (lowest 5 unit_ring) 3 ≡ (18, 0)
unfolding order_of starts_with count_in number_in number_of points_from point_at point_in whole_of whole_at of_bits
short-chain = refl

-- a point between straight walls, and a crossed ring
pub between : judged_as (lowest 7 ((mm0, mm0) ∷ (mm600, mm0) ∷ (mm1200, mm0) ∷ (mm1200, mm600) ∷ (mm600, mm600) ∷ (mm600, mm0) ∷ (mm0, mm0) ∷ [])) 9 ≡ (0, 0)
unfolding order_of starts_with count_in number_in number_of points_from point_at point_in whole_of whole_at of_bits
between = refl

-- the chain of the unit room
chain_of_unit : chain_of_points (ring_of (lowest 5 unit_ring)) ≡ 0 ∷ 1 ∷ 2 ∷ 3 ∷ []
unfolding order_of starts_with count_in number_in number_of points_from point_at point_in whole_of whole_at of_bits
chain_of_unit = refl

-- a start in the middle of a wall
pub chain_of_wall : chain_of_points (ring_of (lowest 6 ((mm600, mm0) ∷ (mm1200, mm0) ∷ (mm1200, mm600) ∷ (mm0, mm600) ∷ (mm0, mm0) ∷ (mm600, mm0) ∷ []))) ≡ 0 ∷ 1 ∷ 2 ∷ 2 ∷ 3 ∷ 0 ∷ []
unfolding order_of starts_with count_in number_in number_of points_from point_at point_in whole_of whole_at of_bits
chain_of_wall = refl

-- points between straight walls are passed
chain_of_crossed : chain_of_points (ring_of (highest 7 ((mm0, mm0) ∷ (mm600, mm0) ∷ (mm1200, mm0) ∷ (mm1200, mm600) ∷ (mm600, mm600) ∷ (mm600, mm0) ∷ (mm0, mm0) ∷ []))) ≡ 0 ∷ 0 ∷ 1 ∷ 2 ∷ 3 ∷ 2 ∷ []
unfolding order_of starts_with count_in number_in number_of points_from point_at point_in whole_of whole_at of_bits
chain_of_crossed = refl

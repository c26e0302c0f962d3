-- A polygon that is read: its points, the walk along them, and the refusals in their order (RULES 18). Assumes nothing.
use Rattle.lists.specs.Lists.{any}
use Rattle.std.specs.Int.Signed.{lt_z}
use Rattle.std.specs.Prelude.{map, ◌≡◌, Bool, true, false, cond, not, ◌&&◌, List, [], ◌∷◌, ◌++◌, length, take, drop, replicate, get_or, ℕ, zero, suc, ◌+◌, ◌-◌, ◌*◌, ◌/◌, eqb, ltb, leb, nat_abs, Err, None, Ok, Option, Some, ℤ, ◌-ℤ◌}
use Rattle.std.specs.Float.{binary64}
use Rattle.std.specs.Float.Ieee.{of_bits}
use Rattle.polygon_ring.specs.Answers.{Given}
use Rattle.answer.specs.Answers.{Judged}
use Rattle.grid.specs.{declared.Corner.Corner, Grid.origin, Grid.corner, Grid.eq_z, Grid.same}
use Rattle.answer.specs.declared.{Refusal.TheVariants.FileLength, Refusal.TheVariants.FileKind, Refusal.TheVariants.BadCoordinate, Refusal.TheVariants.BadRing, Refusal.TheVariants.TooLong, Refusal.TheVariants.ChainRoom}
use Rattle.answer.specs.{Limits.most_steps, Limits.most_start, Limits.farthest, Refusal.when, Refusal.first_of, Listed.laid_if}
use Rattle.polygon.specs.Polygon.{prefix}
use Rattle.polygon_ring.specs.{Bytes.starts_with, Bytes.number_in, Coordinate.whole_of}
use Rattle.polygon_ring.specs.declared.{Order.Order, Order.TheVariants.Little, Order.TheVariants.Big}

-- byte order 0, then type 3 and ring count 1, the highest byte first
abbrev pub big_prefix : List ℕ
big_prefix = 0 ∷ 0 ∷ 0 ∷ 0 ∷ 3 ∷ 0 ∷ 0 ∷ 0 ∷ 1 ∷ []

abbrev pub pick_order : Bool → Option Order → Option Order → Option Order
pick_order true a b = a
pick_order false a b = b

-- the byte order of a polygon of one ring
unfoldable pub order_of : List ℕ → Option Order
order_of s = pick_order (starts_with prefix s) (Some Little) (pick_order (starts_with big_prefix s) (Some Big) None)

-- the lowest byte comes first
abbrev pub is_little : Option Order → Bool
is_little (Some Little) = true
is_little (Some Big) = false
is_little None = false

-- the first nine bytes are not the header of a polygon of one ring
abbrev pub is_neither : Option Order → Bool
is_neither (Some o) = false
is_neither None = true

-- a point is a corner if both of its floats are coordinates
abbrev pub both : Option ℤ → Option ℤ → Option Corner
both (Some a) (Some b) = Some (corner a b)
both (Some a) None = None
both None y = None

-- how far a coordinate may lie from 0, in panels: that of the first point, and that of any other
abbrev pub most_at : ℕ → ℕ
most_at zero = most_start
most_at (suc i) = farthest

-- the point at the start of these bytes
unfoldable pub point_in : ℕ → Bool → List ℕ → Option Corner
point_in most little s =
    both (whole_of most (of_bits binary64 (number_in little (take 8 s))))
    (whole_of most (of_bits binary64 (number_in little (take 8 (drop 8 s)))))

-- point i of a list of points
unfoldable pub point_at : Bool → List ℕ → ℕ → Option Corner
point_at little s i = point_in (most_at i) little (drop (16 * i) s)

-- n points, from point i on
unfoldable pub points_from : Bool → List ℕ → ℕ → ℕ → List (Option Corner)
points_from little s i zero = []
points_from little s i (suc n) = point_at little s i ∷ points_from little s (suc i) n

abbrev pub is_faulty : Option Corner → Bool
is_faulty (Some c) = false
is_faulty None = true

-- the corner that a point is; a faulty one is refused, whatever its corner
abbrev pub corner_in : Option Corner → Corner
corner_in (Some c) = c
corner_in None = origin

-- the two differ along exactly one axis
abbrev pub straight : Corner → Corner → Bool
straight a b = cond (eq_z a.0 b.0) (not (eq_z a.1 b.1)) (eq_z a.1 b.1)

-- each of the list and the one before it do, if a stands before the list
abbrev pub straight_from : Corner → List Corner → Bool
straight_from a [] = true
straight_from a (b ∷ cs) = straight a b && straight_from b cs

-- how far apart two corners are
abbrev pub apart : Corner → Corner → ℕ
apart a b = nat_abs (b.0 -ℤ a.0) + nat_abs (b.1 -ℤ a.1)

-- the sum of the distances between neighbours, from a on
abbrev pub length_from : Corner → List Corner → ℕ
length_from a [] = 0
length_from a (b ∷ cs) = apart a b + length_from b cs

-- the direction of the way from a to b along one axis
abbrev pub direction_of : Corner → Corner → ℕ
direction_of a b = cond (lt_z a.0 b.0) 0 (cond (lt_z b.0 a.0) 2 (cond (lt_z a.1 b.1) 1 3))

-- the steps along the corners of the list, from a on
abbrev pub steps_along : Corner → List Corner → List ℕ
steps_along a [] = []
steps_along a (b ∷ cs) = replicate (apart a b) (direction_of a b) ++ steps_along b cs

-- the first point of a ring, and those after it
abbrev pub start_of : List Corner → Corner
start_of [] = origin
start_of (a ∷ cs) = a

abbrev pub later_of : List Corner → List Corner
later_of [] = []
later_of (a ∷ cs) = cs

-- the number of steps along a ring, and the steps
abbrev pub length_of : List Corner → ℕ
length_of ps = length_from (start_of ps) (later_of ps)

abbrev pub chain_of_points : List Corner → List ℕ
chain_of_points ps = steps_along (start_of ps) (later_of ps)

-- at least four points, the last equal to the first, and neighbours differ along exactly one axis
abbrev pub is_ring : List Corner → Bool
is_ring ps =
    leb 4 (length ps) && same (get_or ps (length ps - 1) origin) (start_of ps) && straight_from (start_of ps) (later_of ps)

-- the point count of a file in this byte order
unfoldable pub count_in : Bool → List ℕ → ℕ
count_in little file = number_in little (take 4 (drop 9 file))

-- its points, as many as there are sixteen bytes after the thirteen header bytes: a file that counts another number of them is
-- refused
abbrev pub points_in : Bool → List ℕ → List (Option Corner)
points_in little file = points_from little (drop 13 file) 0 ((length file - 13) / 16)

-- the same in the byte order that the header shows
abbrev pub count_given : List ℕ → ℕ
count_given file = count_in (is_little (order_of file)) file

abbrev pub points_given : List ℕ → List (Option Corner)
points_given file = points_in (is_little (order_of file)) file

-- the corners of the ring of a file
abbrev pub ring_of : List ℕ → List Corner
ring_of file = map corner_in (points_given file)

-- 14, shorter than thirteen bytes; 15; 14 again, the length; 16; 17; 6 at place 16,384; 18
abbrev pub read_judged : List ℕ → ℕ → Judged
read_judged file size =
    first_of (when (ltb (length file) 13) FileLength
    ∷ when (is_neither (order_of file)) FileKind
    ∷ when (not (eqb (length file) (13 + 16 * count_given file))) FileLength
    ∷ when (any is_faulty (points_given file)) BadCoordinate
    ∷ when (not (is_ring (ring_of file))) BadRing
    ∷ when (ltb most_steps (length_of (ring_of file))) (TooLong most_steps)
    ∷ when (ltb size (length_of (ring_of file))) ChainRoom
    ∷ [])

-- start and number of steps, unless there is a refusal
abbrev pub given_of : Judged → List Corner → Given
given_of (Ok _) ps = Ok (record { start = start_of ps; steps = length_of ps })
given_of (Err r) ps = Err r

-- the promise of a file that is read
pub record ReadCall (file out : List ℕ) (r : Given) (out' : List ℕ) : Type 0 where
  pub answer : r ≡ given_of (read_judged file (length out)) (ring_of file)
  pub buffer : out' ≡ laid_if (read_judged file (length out)) (chain_of_points (ring_of file)) out

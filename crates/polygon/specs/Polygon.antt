-- The polygon of a room, little-endian, and the promise of the call that writes it (RULES 13). Assumes nothing.
use Rattle.std.specs.Prelude.{◌≡◌, Bool, not, cond, List, [], ◌∷◌, ◌++◌, length, ℕ, eqb, ltb, ℤ}
use Rattle.std.specs.Float.{binary64}
use Rattle.std.specs.Float.Ieee.{to_bits}
use Rattle.answer.specs.Answers.{Counted, Judged}
use Rattle.grid.specs.{declared.Corner.Corner, Grid.stepped}
use Rattle.answer.specs.declared.{Refusal.TheVariants.PolygonRoom}
use Rattle.answer.specs.{Refusal.when, Refusal.first_of, Listed.counted_of, Listed.laid_if}
use Rattle.steps.specs.Turns.{turn_of}
use Rattle.room.specs.Room.{as_room_judged}
use Rattle.polygon.specs.{Bytes.bytes_of, Coordinate.coordinate_of}

-- byte order 1, then type 3 and ring count 1, four bytes each
abbrev pub prefix : List ℕ
prefix = 1 ∷ 3 ∷ 0 ∷ 0 ∷ 0 ∷ 1 ∷ 0 ∷ 0 ∷ 0 ∷ []

-- eight bytes for each coordinate
unfoldable pub coordinate_bytes : ℤ → List ℕ
coordinate_bytes z = bytes_of 8 (to_bits binary64 (coordinate_of z))

-- sixteen for each point, x first
unfoldable pub point_bytes : Corner → List ℕ
point_bytes c = coordinate_bytes c.0 ++ coordinate_bytes c.1

unfoldable pub points_bytes : List Corner → List ℕ
points_bytes [] = []
points_bytes (c ∷ cs) = point_bytes c ++ points_bytes cs

-- the header of thirteen bytes, which ends with the point count, and then the points
unfoldable pub polygon_bytes : List Corner → List ℕ
polygon_bytes ps = prefix ++ bytes_of 4 (length ps) ++ points_bytes ps

-- the step d makes a turn that is not 0 after the step a
abbrev pub bends : ℕ → ℕ → Bool
bends a d = not (eqb (turn_of a d) 0)

-- c, if it does
abbrev pub bend_at : ℕ → ℕ → Corner → List Corner
bend_at a d c = cond (bends a d) (c ∷ []) []

-- the corners with a turn that is not 0, from c on, if the step a led to c
abbrev pub bends_from : ℕ → Corner → List ℕ → List Corner
bends_from a c [] = []
bends_from a c (d ∷ ds) = bend_at a d c ++ bends_from d (stepped d c) ds

-- each later corner of a walk where the turn is not 0
abbrev pub bends_of : Corner → List ℕ → List Corner
bends_of c [] = []
bends_of c (d ∷ ds) = bends_from d (stepped d c) ds

-- the start, each later corner where the turn is not 0, and the start again
abbrev pub points_of : Corner → List ℕ → List Corner
points_of c ds = c ∷ bends_of c ds ++ (c ∷ [])

-- the polygon of a walk
abbrev pub polygon_of : Corner → List ℕ → List ℕ
polygon_of c ds = polygon_bytes (points_of c ds)

-- 13 if the buffer has fewer bytes than the polygon
abbrev pub polygon_room_judged : Corner → List ℕ → ℕ → Judged
polygon_room_judged c ds size = when (ltb size (length (polygon_of c ds))) PolygonRoom

-- the refusals of a room, then 13
abbrev pub polygon_judged : Corner → List ℕ → ℕ → Judged
polygon_judged c ds size = first_of (as_room_judged c ds ∷ polygon_room_judged c ds size ∷ [])

-- the promise of the call: how many bytes there are, and a buffer that holds them and then what stood after them, unless there is
-- a refusal
pub record PolygonCall (c : Corner) (ds before : List ℕ) (r : Counted) (after : List ℕ) : Type 0 where
  pub answer : r ≡ counted_of (polygon_judged c ds (length before)) (length (polygon_of c ds))
  pub buffer : after ≡ laid_if (polygon_judged c ds (length before)) (polygon_of c ds) before

-- Coordinates and polygons as bytes, computed; the bytes are those of another implementation of the format.
-- Assumes nothing.
use Rattle.std.specs.Prelude.{◌≡◌, [], Err, Ok, ◌∷◌}
use mathlib.Core.Path.{refl}
use lib.IntN.{pos, negsuc}
use lib.Ieee.{of_int, to_bits}
use Rattle.grid.specs.Grid.{corner}
use Rattle.answer.specs.declared.Refusal.TheVariants.{NotRoom, PolygonRoom}
use Rattle.polygon.specs.Bytes.{bytes_of}
use Rattle.polygon.specs.Coordinate.{coordinate_of, IsWhole, Exact}
use Rattle.polygon.specs.Polygon.{coordinate_bytes, point_bytes, points_bytes, polygon_bytes, polygon_of, points_of, polygon_judged}

-- 600.0, the lowest byte first
one-panel : coordinate_bytes (pos 1) ≡ 0 ∷ 0 ∷ 0 ∷ 0 ∷ 0 ∷ 192 ∷ 130 ∷ 64 ∷ []
unfolding coordinate_bytes coordinate_of bytes_of of_int to_bits
one-panel = refl

-- -600.0
one-panel_west : coordinate_bytes (negsuc 0) ≡ 0 ∷ 0 ∷ 0 ∷ 0 ∷ 0 ∷ 192 ∷ 130 ∷ 192 ∷ []
unfolding coordinate_bytes coordinate_of bytes_of of_int to_bits
one-panel_west = refl

-- plus zero
zero_is-plus : coordinate_bytes (pos 0) ≡ 0 ∷ 0 ∷ 0 ∷ 0 ∷ 0 ∷ 0 ∷ 0 ∷ 0 ∷ []
unfolding coordinate_bytes coordinate_of bytes_of of_int to_bits
zero_is-plus = refl

-- (-1,2) is -600 and 1,200 millimetres exactly
west_and_north : Exact (corner (negsuc 0) (pos 2))
unfolding coordinate_of IsWhole of_int
west_and_north = ((600, refl, refl), (1200, refl, refl))

-- 16,386 points: the lowest byte first
count_of_points : bytes_of 4 16386 ≡ 2 ∷ 64 ∷ 0 ∷ 0 ∷ []
unfolding bytes_of
count_of_points = refl

-- the unit room at (0,0)
pub unit_room : polygon_of (corner (pos 0) (pos 0)) (0 ∷ 1 ∷ 2 ∷ 3 ∷ [])
    ≡ 1 ∷ 3 ∷ 0 ∷ 0 ∷ 0 ∷ 1 ∷ 0 ∷ 0 ∷ 0 ∷ 5 ∷ 0 ∷ 0 ∷ 0 ∷ 0 ∷ 0 ∷ 0 ∷ 0 ∷ 0 ∷ 0 ∷ 0 ∷ 0 ∷ 0 ∷ 0 ∷ 0 ∷ 0 ∷ 0 ∷ 0 ∷ 0 ∷ 0 ∷ 0 ∷ 0 ∷ 0 ∷ 0 ∷ 0 ∷ 192 ∷ 130 ∷ 64 ∷ 0 ∷ 0 ∷ 0 ∷ 0 ∷ 0 ∷ 0 ∷ 0 ∷ 0 ∷ 0 ∷ 0 ∷ 0
    ∷ 0 ∷ 0 ∷ 192 ∷ 130 ∷ 64 ∷ 0 ∷ 0 ∷ 0 ∷ 0 ∷ 0 ∷ 192 ∷ 130 ∷ 64 ∷ 0 ∷ 0 ∷ 0 ∷ 0 ∷ 0 ∷ 0 ∷ 0 ∷ 0 ∷ 0 ∷ 0 ∷ 0 ∷ 0 ∷ 0 ∷ 192 ∷ 130 ∷ 64 ∷ 0 ∷ 0 ∷ 0 ∷ 0 ∷ 0 ∷ 0 ∷ 0 ∷ 0 ∷ 0 ∷ 0 ∷ 0 ∷ 0 ∷ 0 ∷ 0 ∷ 0 ∷ 0 ∷ []
unfolding polygon_bytes points_bytes point_bytes coordinate_bytes coordinate_of bytes_of of_int to_bits
unit_room = refl

-- the unit room at (-16384,16384), the farthest start
pub far-room : polygon_of (corner (negsuc 16383) (pos 16384)) (0 ∷ 1 ∷ 2 ∷ 3 ∷ [])
    ≡ 1 ∷ 3 ∷ 0 ∷ 0 ∷ 0 ∷ 1 ∷ 0 ∷ 0 ∷ 0 ∷ 5 ∷ 0 ∷ 0 ∷ 0 ∷ 0 ∷ 0 ∷ 0 ∷ 0 ∷ 0 ∷ 192 ∷ 98 ∷ 193 ∷ 0 ∷ 0 ∷ 0 ∷ 0 ∷ 0 ∷ 192 ∷ 98 ∷ 65 ∷ 0 ∷ 0 ∷ 0 ∷ 0 ∷ 181 ∷ 191 ∷ 98 ∷ 193 ∷ 0 ∷ 0 ∷ 0 ∷ 0 ∷ 0 ∷ 192 ∷ 98 ∷ 65 ∷ 0 ∷ 0 ∷ 0
    ∷ 0 ∷ 181 ∷ 191 ∷ 98 ∷ 193 ∷ 0 ∷ 0 ∷ 0 ∷ 0 ∷ 75 ∷ 192 ∷ 98 ∷ 65 ∷ 0 ∷ 0 ∷ 0 ∷ 0 ∷ 0 ∷ 192 ∷ 98 ∷ 193 ∷ 0 ∷ 0 ∷ 0 ∷ 0 ∷ 75 ∷ 192 ∷ 98 ∷ 65 ∷ 0 ∷ 0 ∷ 0 ∷ 0 ∷ 0 ∷ 192 ∷ 98 ∷ 193 ∷ 0 ∷ 0 ∷ 0 ∷ 0 ∷ 0 ∷ 192 ∷ 98 ∷ 65 ∷ []
unfolding polygon_bytes points_bytes point_bytes coordinate_bytes coordinate_of bytes_of of_int to_bits
far-room = refl

-- a start in the middle of a straight wall is a point too
pub mid_wall : polygon_of (corner (pos 1) (pos 0)) (0 ∷ 1 ∷ 2 ∷ 2 ∷ 3 ∷ 0 ∷ [])
    ≡ 1 ∷ 3 ∷ 0 ∷ 0 ∷ 0 ∷ 1 ∷ 0 ∷ 0 ∷ 0 ∷ 6 ∷ 0 ∷ 0 ∷ 0 ∷ 0 ∷ 0 ∷ 0 ∷ 0 ∷ 0 ∷ 192 ∷ 130 ∷ 64 ∷ 0 ∷ 0 ∷ 0 ∷ 0 ∷ 0 ∷ 0 ∷ 0 ∷ 0 ∷ 0 ∷ 0 ∷ 0 ∷ 0 ∷ 0 ∷ 192 ∷ 146 ∷ 64 ∷ 0 ∷ 0 ∷ 0 ∷ 0 ∷ 0 ∷ 0 ∷ 0 ∷ 0 ∷ 0 ∷ 0 ∷ 0
    ∷ 0 ∷ 0 ∷ 192 ∷ 146 ∷ 64 ∷ 0 ∷ 0 ∷ 0 ∷ 0 ∷ 0 ∷ 192 ∷ 130 ∷ 64 ∷ 0 ∷ 0 ∷ 0 ∷ 0 ∷ 0 ∷ 0 ∷ 0 ∷ 0 ∷ 0 ∷ 0 ∷ 0 ∷ 0 ∷ 0 ∷ 192 ∷ 130 ∷ 64 ∷ 0 ∷ 0 ∷ 0 ∷ 0 ∷ 0 ∷ 0 ∷ 0 ∷ 0 ∷ 0 ∷ 0 ∷ 0 ∷ 0 ∷ 0 ∷ 0 ∷ 0 ∷ 0 ∷ 0 ∷ 0 ∷ 0
    ∷ 0 ∷ 0 ∷ 192 ∷ 130 ∷ 64 ∷ 0 ∷ 0 ∷ 0 ∷ 0 ∷ 0 ∷ 0 ∷ 0 ∷ 0 ∷ []
unfolding polygon_bytes points_bytes point_bytes coordinate_bytes coordinate_of bytes_of of_int to_bits
mid_wall = refl

-- both senses: the points in walking order
pub clockwise : points_of (corner (pos 0) (pos 0)) (1 ∷ 0 ∷ 0 ∷ 3 ∷ 2 ∷ 2 ∷ [])
    ≡ corner (pos 0) (pos 0) ∷ corner (pos 0) (pos 1) ∷ corner (pos 2) (pos 1) ∷ corner (pos 2) (pos 0) ∷ corner (pos 0) (pos 0) ∷ []
clockwise = refl

pub counterclockwise : points_of (corner (pos 0) (pos 0)) (0 ∷ 0 ∷ 1 ∷ 2 ∷ 2 ∷ 3 ∷ [])
    ≡ corner (pos 0) (pos 0) ∷ corner (pos 2) (pos 0) ∷ corner (pos 2) (pos 1) ∷ corner (pos 0) (pos 1) ∷ corner (pos 0) (pos 0) ∷ []
counterclockwise = refl

-- a buffer of 92 bytes is one too short for the unit room, whose polygon has 93
one_byte_short : polygon_judged (corner (pos 0) (pos 0)) (0 ∷ 1 ∷ 2 ∷ 3 ∷ []) 92 ≡ Err PolygonRoom
unfolding polygon_bytes points_bytes point_bytes coordinate_bytes coordinate_of bytes_of of_int to_bits
one_byte_short = refl

just_enough : polygon_judged (corner (pos 0) (pos 0)) (0 ∷ 1 ∷ 2 ∷ 3 ∷ []) 93 ≡ Ok tt
unfolding polygon_bytes points_bytes point_bytes coordinate_bytes coordinate_of bytes_of of_int to_bits
just_enough = refl

-- what is not a room is refused before the buffer is looked at
not_a-room-first : polygon_judged (corner (pos 0) (pos 0)) (0 ∷ 1 ∷ 2 ∷ []) 0 ≡ Err NotRoom
unfolding polygon_bytes points_bytes point_bytes coordinate_bytes coordinate_of bytes_of of_int to_bits
not_a-room-first = refl

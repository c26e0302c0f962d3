-- What the passes over a ring find.
-- Assumes nothing.
use Rattle.lists.specs.Lists.{any}
use Rattle.std.specs.Prelude.{map, ◌≡◌, Bool, cond, not, List, [], ◌∷◌, length, take, drop, ℕ, suc, ◌+◌, ◌*◌, ◌≤◌, eqb, ltb, nat_abs, Option, Some}
use Rattle.polygon_ring.specs.Answers.{Given}
use Rattle.answer.specs.Answers.{Judged}
use Rattle.answer.specs.Limits.{most_steps, farthest}
use Rattle.answer.specs.Refusal.{when, or_else, first_of}
use Rattle.grid.specs.declared.Corner.{Corner}
use Rattle.polygon_ring.specs.Bytes.{number_in}
use Rattle.polygon_ring_laws.specs.Fields.{float_kept}
use Rattle.polygon_ring.specs.Ring.{points_from, is_faulty, corner_in, is_ring, length_of, chain_of_points, count_in, points_in, given_of}
use Rattle.answer.specs.declared.{Refusal.TheVariants.FileLength, Refusal.TheVariants.BadCoordinate, Refusal.TheVariants.BadRing, Refusal.TheVariants.TooLong, Refusal.TheVariants.ChainRoom}
use Rattle.answer.specs.Listed.{laid_if}
use Rattle.polygon_ring.specs.declared.Point.{Point}

-- a corner that a point can be
pub record PointFits (c : Corner) : Type 0 where
  pub x : nat_abs c.0 ≤ farthest
  pub y : nat_abs c.1 ≤ farthest

-- the point that is the corner c
abbrev pub grid_point_of : Corner → Option Corner
grid_point_of c = Some c

-- the floats of the point at the start of these bytes, as they are kept
pub record PointIs (little : Bool) (s : List ℕ) (p : Point) : Type 0 where
  pub x : p.x ≡ float_kept (number_in little (take 8 s))
  pub y : p.y ≡ float_kept (number_in little (take 8 (drop 8 s)))

-- the corners of n points, from point i on
abbrev pub ring_from : Bool → List ℕ → ℕ → ℕ → List Corner
ring_from little s i n = map corner_in (points_from little s i n)

-- a number of steps; 16,385 stands for any above 16,384
abbrev pub capped : ℕ → ℕ
capped n = cond (ltb most_steps n) (suc most_steps) n

-- 16, 17, 6 and 18
abbrev pub ring_judged : List (Option Corner) → ℕ → Judged
ring_judged ps size =
    first_of (when (any is_faulty ps) BadCoordinate
    ∷ when (not (is_ring (map corner_in ps))) BadRing
    ∷ when (ltb most_steps (length_of (map corner_in ps))) (TooLong most_steps)
    ∷ when (ltb size (length_of (map corner_in ps))) ChainRoom
    ∷ [])

-- 14 by the length, and then these
abbrev pub points_judged : Bool → List ℕ → ℕ → Judged
points_judged little file size =
    or_else (when (not (eqb (length file) (13 + 16 * count_in little file))) FileLength)
    (ring_judged (points_in little file) size)

-- the promise of a file that is read in this byte order
pub record ReadIn (little : Bool) (file out : List ℕ) (r : Given) (out' : List ℕ) : Type 0 where
  pub answer : r ≡ given_of (points_judged little file (length out)) (map corner_in (points_in little file))
  pub buffer : out'
      ≡ laid_if (points_judged little file (length out)) (chain_of_points (map corner_in (points_in little file))) out

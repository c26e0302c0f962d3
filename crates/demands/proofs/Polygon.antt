-- What is asked of a room that goes out as a polygon (RULES 13), as theorems about the call's promise, `PolygonCall`. Each is
-- proved by naming a law.
-- Assumes nothing.
use Rattle.std.specs.Prelude.{Err, Ok}
use mathlib.Core.List.{List, [], ◌∷◌, ◌++◌, Memᴰ}
use mathlib.Core.Logic.{◌↔◌}
use mathlib.Core.Path.{◌≡◌, refl, ap}
use Prim.Native.Nat.{ℕ, ◌+◌, ◌*◌, ◌≤◌}
use lib.IntN.{ℤ, pos}
use lib.Ieee.{Float, fin}
use lib.ListN.{length, drop}
use mathlib.Core.Bool.{false}
use Rattle.answer.specs.Answers.{Counted, Judged}
use Rattle.answer.specs.declared.{Refusal.Refusal}
use Rattle.answer.specs.Refusal.{refusal_number, refusal_place}
use Rattle.answer.specs.Words.{counted_words}
use Rattle.grid.specs.declared.Corner.{Corner}
use Rattle.room.specs.Room.{as_room_judged}
use Rattle.polygon.specs.Coordinate.{coordinate_of, IsWhole, Exact}
use Rattle.polygon.specs.Polygon.{bends_of, points_of, polygon_of, PolygonCall}
use Rattle.polygon.proofs.PolygonLaws as polygon_laws
use Rattle.polygon_laws.specs.Points.{Bend}
use Rattle.polygon_laws.proofs.PointLaws as point_laws
use Rattle.polygon_laws.proofs.ValueLaws as value_laws
use Rattle.demands.specs.GivenRoom.{GivenRoom, GivenPolygon}
use Rattle.demands.proofs.RoomCallLaws as room_call_laws

-- the refusals of every call on a room: each exactly on its occasion, 1, then 10, then 4 and 6 at the first faulty place, then 12
pub room_exactly : (s : Corner) (ds : List ℕ) (j : Judged) → as_room_judged s ds ≡ j ↔ GivenRoom s ds j
room_exactly = room_call_laws.room-when

-- every start, chain and buffer has an answer and a state of the buffer
pub polygon_answers : (s : Corner) (ds before : List ℕ) → (r : Counted) × (after : List ℕ) × PolygonCall s ds before r after
polygon_answers = room_call_laws.polygon_some

-- and only one
pub polygon_call_one : {s : Corner} {ds before after₁ after₂ : List ℕ} {r₁ r₂ : Counted} → PolygonCall s ds before r₁ after₁
    → PolygonCall s ds before r₂ after₂ → (r₁ ≡ r₂) × (after₁ ≡ after₂)
polygon_call_one = polygon_laws.polygon_call_one

module _ {s : Corner} {ds before after : List ℕ} {r : Counted} (w : PolygonCall s ds before r after) where
  -- "12, not a room; 13, buffer too short; in that order", after 1, 10, 4 and 6: each exactly on its occasion
  pub polygon_refused_exactly : (q : Refusal)
      → r ≡ Err q ↔ GivenPolygon s ds (length before) (length (polygon_of s ds)) (Err q)
  polygon_refused_exactly = room_call_laws.refused_when w

  -- and acceptance exactly on its own, with the number of bytes
  pub polygon_written_exactly : r ≡ Ok (length (polygon_of s ds))
      ↔ GivenPolygon s ds (length before) (length (polygon_of s ds)) (Ok tt)
  polygon_written_exactly = room_call_laws.written_when w

  -- the numbers of each
  pub polygon_refused_words : (q : Refusal) → GivenPolygon s ds (length before) (length (polygon_of s ds)) (Err q)
      → counted_words r ≡ refusal_number q ∷ refusal_place q ∷ 0 ∷ []
  polygon_refused_words q g = ap counted_words ((polygon_refused_exactly q).1 g)

  pub polygon_written_words : GivenPolygon s ds (length before) (length (polygon_of s ds)) (Ok tt)
      → counted_words r ≡ 0 ∷ 0 ∷ length (polygon_of s ds) ∷ []
  polygon_written_words g = ap counted_words (polygon_written_exactly.1 g)

module _ (s : Corner) (ds before : List ℕ) {after : List ℕ} where
  -- "nothing written"
  pub polygon_untouched : (q : Refusal) → PolygonCall s ds before (Err q) after → after ≡ before
  polygon_untouched = polygon_laws.call_untouched

  -- the polygon, and "bytes after the polygon are unchanged"
  pub polygon_written : (n : ℕ) → PolygonCall s ds before (Ok n) after
      → (n ≡ length (polygon_of s ds)) × (after ≡ polygon_of s ds ++ drop (length (polygon_of s ds)) before)
  polygon_written n p = let g = room_call_laws.call_good s ds before n p in (g.1, g.2)

  -- sixteen bytes for each step and 29 are always enough
  pub polygon_few : (n : ℕ) → PolygonCall s ds before (Ok n) after → n ≤ 16 * length ds + 29
  polygon_few = room_call_laws.call_few s ds before

  -- "it must be exact": the floats of every point that is written are 600 times the corner's coordinates
  pub polygon_exact : (n : ℕ) → PolygonCall s ds before (Ok n) after → (p : Corner)
      → Memᴰ p (points_of s ds) → Exact p
  polygon_exact = room_call_laws.call_exact s ds before

-- a float is one whole number at most
pub whole-one : (x : Float) (y z : ℤ) → IsWhole x y → IsWhole x z → y ≡ z
whole-one = value_laws.is_whole_one

-- "zero as plus zero"
pub plus_zero : coordinate_of (pos 0) ≡ fin false 0 (pos 0)
plus_zero = value_laws.plus_zero

-- "the start, each later corner where the turn isn't 0, and the start again"
pub polygon_points : (s : Corner) (ds : List ℕ) → points_of s ds ≡ s ∷ bends_of s ds ++ (s ∷ [])
polygon_points s ds = refl

pub polygon_bends : (s : Corner) (ds : List ℕ) (p : Corner) → Memᴰ p (bends_of s ds) ↔ Bend s ds p
polygon_bends = point_laws.bends_exactly

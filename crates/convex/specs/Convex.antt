-- When a part is convex, when a room is, and the promise of its call (RULES 17). Assumes nothing.
use mathlib.Core.List.{Memᴰ}
use Rattle.lists.specs.Lists.{tally, Below}
use Rattle.std.specs.Prelude.{◌≡◌, Bool, true, List, ◌↔◌, ℕ, pos, ◌≤ℤ◌, Ok, ◌<ℤ◌}
use Rattle.answer.specs.Answers.{Counted}
use Rattle.grid.specs.{declared.Corner.Corner, Grid.origin, Grid.corners_from}
use Rattle.hull.specs.{Hull.cross}
use Rattle.answer.specs.Listed.{counted_of}
use Rattle.room.specs.Room.{as_room_judged}
use Rattle.convex.specs.Parts.{turned_by, clockwise, Split}

-- the grid point q lies off the part with corners P, above it, and not above its upper convex hull: it is on or below the
-- straight line between two corners of P, one left of q and one right of it
pub record Between (P : List Corner) (q : Corner) : Type 0 where
  pub a : Corner
  pub b : Corner
  pub from : Memᴰ a P
  pub to : Memᴰ b P
  pub left : a.0 <ℤ q.0
  pub right : q.0 <ℤ b.0
  pub under : cross a b q ≤ℤ pos 0
  pub above : (p : Corner) → Memᴰ p P → p.0 ≡ q.0 → p.1 <ℤ q.1

-- a part, turned back to the first, uses only the letters 0 and 1, and no grid point off it lies between it and its upper convex
-- hull
pub record ConvexPart (w : List ℕ) : Type 0 where
  pub letters : Below 2 w
  pub none : (q : Corner) → Between (corners_from origin w) q → ⊥

-- a room is convex if each of its four parts is, turned back to the first
pub record ConvexRoom (c : Corner) (ds : List ℕ) : Type 0 where
  pub one : List ℕ
  pub two : List ℕ
  pub three : List ℕ
  pub four : List ℕ
  pub split : Split c (clockwise c ds) one two three four
  pub first : ConvexPart one
  pub second : ConvexPart (turned_by 1 two)
  pub third : ConvexPart (turned_by 2 three)
  pub fourth : ConvexPart (turned_by 3 four)

-- b says yes exactly if the room is convex
abbrev pub ConvexIs : Corner → List ℕ → Bool → Type 0
ConvexIs c ds b = (b ≡ true) ↔ ConvexRoom c ds

-- the promise of the call: 1 for yes and 0 for no, unless it is refused as every call on a room refuses
pub record ConvexCall (c : Corner) (ds : List ℕ) (r : Counted) : Type 0 where
  pub says : Bool
  pub convex : as_room_judged c ds ≡ Ok tt → ConvexIs c ds says
  pub answer : r ≡ counted_of (as_room_judged c ds) (tally says)

-- The walks that can be drawn, and how many bends they have.
-- Assumes nothing.
use Rattle.lists.specs.Lists.{tally, Below}
use Rattle.std.specs.Prelude.{◌≡◌, List, [], ◌∷◌, ◌++◌, length, take, drop, get_or, ℕ, ◌+◌, ◌*◌, ◌≤◌, Bool, true, false, nat_abs}
use Rattle.answer.specs.Answers.{Counted}
use Rattle.answer.specs.Limits.{most_steps, most_start}
use Rattle.grid.specs.declared.Corner.{Corner}
use Rattle.answer.specs.Listed.{counted_of, laid_if}
use Rattle.polygon.specs.Polygon.{bends, point_bytes, polygon_of, polygon_room_judged}

-- a start in range, and a chain of steps that is not too long: refusals 10, 4 and 6 leave nothing else
pub record Drawable (c : Corner) (ds : List ℕ) : Type 0 where
  pub near_x : nat_abs c.0 ≤ most_start
  pub near_y : nat_abs c.1 ≤ most_start
  pub digits : Below 4 ds
  pub few : length ds ≤ most_steps

-- how many of the steps go another way than the one before
abbrev pub turning_from : ℕ → List ℕ → ℕ
turning_from a [] = 0
turning_from a (d ∷ ds) = tally (bends a d) + turning_from d ds

abbrev pub turning : List ℕ → ℕ
turning ds = turning_from (get_or ds 0 0) ds

-- the bytes of a point, if there is one
abbrev pub bytes_if : Bool → Corner → List ℕ
bytes_if true c = point_bytes c
bytes_if false c = []

-- a buffer with point k laid down, if there is one
abbrev pub point_laid : List ℕ → ℕ → Bool → Corner → List ℕ
point_laid l k b c = take (16 * k) l ++ bytes_if b c ++ drop (16 * (k + tally b)) l

-- the promise of the call for a walk that can be drawn
pub record Drawn (c : Corner) (ds before : List ℕ) (r : Counted) (after : List ℕ) : Type 0 where
  pub answer : r ≡ counted_of (polygon_room_judged c ds (length before)) (length (polygon_of c ds))
  pub buffer : after ≡ laid_if (polygon_room_judged c ds (length before)) (polygon_of c ds) before

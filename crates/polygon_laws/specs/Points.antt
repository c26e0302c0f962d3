-- The points of a ring, as a reader looks for them.
-- Assumes nothing.
use Rattle.std.specs.Prelude.{◌≡◌, List, length, get_or, ℕ, suc, ◌<◌}
use Rattle.grid.specs.{declared.Corner.Corner, Grid.corner_at}
use Rattle.steps.specs.Turns.{turn_of}

-- p is a later corner of the walk where the turn is not 0: the one after the step at this place, and before the next
pub record Bend (c : Corner) (ds : List ℕ) (p : Corner) : Type 0 where
  pub place : ℕ
  pub within : suc place < length ds
  pub turns : turn_of (get_or ds place 0) (get_or ds (suc place) 0) ≡ 0 → ⊥
  pub here : p ≡ corner_at c ds (suc place)

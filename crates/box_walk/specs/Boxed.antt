-- What the pass over a chain finds of the walk's box.
-- Assumes nothing.
use Rattle.std.specs.Prelude.{◌≡◌, ℕ, Bool, List}
use Rattle.room_thread_laws.specs.Threads.{Closes}
use Rattle.box_laws.specs.Box.{box_width, box_height, place_at}

-- its columns and rows of corners, the place of the start, and whether the walk is closed
pub record Boxed (ds : List ℕ) (width height from : ℕ) (closed : Bool) : Type 0 where
  pub wide : width ≡ box_width ds
  pub high : height ≡ box_height ds
  pub start : from ≡ place_at ds 0
  pub round : Closes ds closed

-- A room that can be listed, and the working store for it.
-- Assumes nothing.
use Rattle.std.specs.Prelude.{List, ℕ, ◌+◌, ◌*◌, ◌<◌, ◌≤◌, length}
use Rattle.lists.specs.Lists.{Below}
use Rattle.answer.specs.Limits.{most_steps, Near}
use Rattle.grid.specs.declared.Corner.{Corner}
use Rattle.trace.specs.Verdict.{IsRoom}
use Rattle.room_thread_laws.specs.Threads.{Zero}

-- a room from a permitted start
pub record Walled (c : Corner) (ds : List ℕ) : Type 0 where
  pub room : IsRoom c ds
  pub few : length ds ≤ most_steps
  pub digits : Below 4 ds
  pub near : Near c

-- space for a walk of this many steps that starts in column and height m; the buckets are empty
pub record RowStore (steps m : ℕ) (head row next at : List ℕ) : Type 0 where
  pub wide : steps < 2 * m
  pub columns : 2 * m ≤ length head
  pub rows : 2 * m ≤ length row
  pub narrow : length head ≤ most_steps + 2
  pub links : steps ≤ length next
  pub values : length next ≤ length at
  pub empty : Zero head × Zero row

-- What is done with a chain that is not refused, wherever the walk starts. Assumes nothing.
use Rattle.std.specs.Prelude.{◌≡◌, Bool, List, ℕ, ◌*◌, ◌<◌, ◌≤◌, ltb, length, get_or}
use Rattle.answer.specs.Answers.{Counted}
use Rattle.grid.specs.declared.Corner.{Corner}
use Rattle.answer.specs.declared.{Refusal.TheVariants.OutlineRoom}
use Rattle.answer.specs.{Limits.most_steps, Refusal.when, Listed.counted_of, Listed.laid_if}
use Rattle.outline.specs.Computed.{outline_of}
use Rattle.box_walk.specs.Boxed.{Boxed}

-- steps that are not refused
pub record Steady (chain : List ℕ) : Type 0 where
  pub digits : (i : ℕ) → get_or chain i 0 < 4
  pub short : length chain ≤ most_steps

-- steps that are not refused, and at least one, with a box of at most this many corners
pub record MapFits (chain : List ℕ) (width height from : ℕ) (closed : Bool) (size : ℕ) : Type 0 where
  pub steady : Steady chain
  pub some : 0 < length chain
  pub box : Boxed chain width height from closed
  pub room : width * height ≤ size

-- the outline of the walk from c is counted and written, unless the buffer is shorter
pub record Traced (c : Corner) (chain before : List ℕ) (r : Counted) (after : List ℕ) : Type 0 where
  pub answer : r ≡ counted_of (when (ltb (length before) (length (outline_of c chain))) OutlineRoom) (length (outline_of c chain))
  pub buffer : after ≡ laid_if (when (ltb (length before) (length (outline_of c chain))) OutlineRoom) (outline_of c chain) before

-- What the calls for one line take and leave. Assumes nothing.
use Rattle.std.specs.Prelude.{◌≡◌, cond, List, length, take, ℕ, ◌*◌, leb, ℤ}
use Rattle.grid.specs.declared.Corner.{Corner}
use Rattle.grid.specs.Grid.{numbers}
use Rattle.line_frame.specs.{Sizes.marks_words, Sizes.hull_numbers, Sizes.most_answer, Line.line_answer}
use Rattle.line_fields.specs.Put.{put}
use Rattle.line_walk.specs.Walk.{Clear}

-- buffers for judging any line
pub record Lent (t ms : List ℕ) (h : List ℤ) : Type 0 where
  pub table : Clear t
  pub marks : length ms ≡ marks_words
  pub hull : length h ≡ hull_numbers

-- a list of corners stands at the start of the buffer, and n is how many
pub record HoldsCorners (cs : List Corner) (n : ℕ) (after : List ℤ) : Type 0 where
  pub count : n ≡ length cs
  pub buffer : take (2 * n) after ≡ numbers cs

-- one line: its answer and how many bytes that has; nothing, if the buffer is too short for some answer
pub record LineIs (s before : List ℕ) (n : ℕ) (after : List ℕ) : Type 0 where
  pub answer : n ≡ cond (leb most_answer (length before)) (length (line_answer s)) 0
  pub buffer : after ≡ cond (leb most_answer (length before)) (put (line_answer s) 0 before) before

-- What the walk of a line takes and leaves. Assumes nothing.
use Rattle.lists.specs.Lists.{Below}
use Rattle.std.specs.Prelude.{◌≡◌, List, length, take, replicate, ℕ, Err, Ok, ◌≤◌}
use Rattle.answer.specs.Answers.{Answer}
use Rattle.answer.specs.declared.{Facts.Facts}
use Rattle.steps.specs.Operations.{survivors}
use Rattle.line_frame.specs.Sizes.{most_digits, table_words, marks_words}

-- a table for the walk of any line, all zero: so it is lent, and so it is left for the next line
abbrev pub Clear : List ℕ → Type 0
Clear t = t ≡ replicate table_words 0

-- how many records the walk that is answered so has left in such a table
abbrev pub records_left : Answer → ℕ
records_left (Ok f) = f.nodes
records_left (Err r) = 0

-- buffers for the walk of any line
pub record WalkBuffers (t ms ch : List ℕ) : Type 0 where
  pub table : Clear t
  pub marks : length ms ≡ marks_words
  pub chain : length ch ≡ most_digits

-- the chain begins with the surviving steps of these operations, and the facts say how many they are
pub record Survived (os : List ℕ) (f : Facts) (ch : List ℕ) : Type 0 where
  pub steps : f.steps ≡ length (survivors os)
  pub digits : Below 4 (survivors os)
  pub few : length (survivors os) ≤ most_digits
  pub chain : take f.steps ch ≡ survivors os
  pub within : f.steps ≤ length ch

-- the walk is answered by a, and if that accepts it, its surviving steps are passed on
pub record WalkedBy (a : Answer) (os : List ℕ) (r : Answer) (ch : List ℕ) : Type 0 where
  pub answer : r ≡ a
  pub survived : (f : Facts) → r ≡ Ok f → Survived os f ch

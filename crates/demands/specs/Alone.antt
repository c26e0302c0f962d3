-- What is lent for the record of the surviving steps alone (RULES 8.3).
-- Assumes nothing.
use Rattle.std.specs.Prelude.{List, ◌≡◌, ℕ, ◌*◌, length}
use Rattle.layout.specs.Marks.{mark_words}

-- a table of the same size, of any contents, and marks and a chain of the lengths that refusal 3 asks for these steps
pub record LentAlone (ds t t₁ ms₁ ch₁ : List ℕ) : Type 0 where
  pub table : length t₁ ≡ length t
  pub marks : length ms₁ ≡ mark_words * length ds
  pub chain : length ch₁ ≡ length ds

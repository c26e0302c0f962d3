-- When each answer of the turns' calls is given (RULES 6.1 to 6.3).
-- Assumes nothing.
use Rattle.std.specs.Prelude.{List, ◌≡◌, ℕ, ◌<◌, ◌≤◌, length, Err, Ok, get_or}
use Rattle.answer.specs.Answers.{Judged}
use Rattle.answer.specs.declared.Refusal.TheVariants.{TooMany, ResultRoom, BadDigit}
use Rattle.answer.specs.Limits.{most_input}
use Rattle.demands.specs.Given.{FirstAt}

-- the digit at place i is a direction, or above 3
abbrev pub DigitAt : List ℕ → ℕ → Type 0
DigitAt ds i = get_or ds i 0 < 4

abbrev pub AboveThreeAt : List ℕ → ℕ → Type 0
AboveThreeAt ds i = 3 < get_or ds i 0

-- the occasion of each judgement: 1, then 3, then 4 at the first bad digit
pub data GivenTurns (ds : List ℕ) (size : ℕ) : Judged → Type 0 where
  too_many : most_input < length ds → GivenTurns ds size (Err TooMany)
  result_room : length ds ≤ most_input → (size ≡ length ds → ⊥) → GivenTurns ds size (Err ResultRoom)
  bad_digit : (i : ℕ) → length ds ≤ most_input → size ≡ length ds → FirstAt (length ds) (DigitAt ds) (AboveThreeAt ds) i
      → GivenTurns ds size (Err (BadDigit i))
  accepted : length ds ≤ most_input → size ≡ length ds → ((i : ℕ) → i < length ds → DigitAt ds i) → GivenTurns ds size (Ok tt)

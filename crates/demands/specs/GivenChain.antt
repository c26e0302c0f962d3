-- When each judgement of a start and a chain is given, which every call on a chain makes first (RULES 6.1 to 6.3).
-- Assumes nothing.
use Rattle.std.specs.Prelude.{List, ℕ, ◌<◌, ◌≤◌, Err, Ok, length}
use Rattle.answer.specs.Answers.{Judged}
use Rattle.answer.specs.declared.Refusal.TheVariants.{TooMany, BadDigit, TooLong, StartRange}
use Rattle.answer.specs.Limits.{most_input, most_steps, Near}
use Rattle.grid.specs.declared.Corner.{Corner}
use Rattle.demands.specs.Given.{FirstAt}
use Rattle.demands.specs.GivenTurns.{DigitAt, AboveThreeAt}

-- the byte at place i is a step that is not too many
abbrev pub StepAt : List ℕ → ℕ → Type 0
StepAt chain i = DigitAt chain i × (i < most_steps)

-- it is a step too many
abbrev pub StepTooManyAt : List ℕ → ℕ → Type 0
StepTooManyAt chain i = DigitAt chain i × (most_steps ≤ i)

-- 1 and 10 are out of the question
pub record ChainSized (c : Corner) (chain : List ℕ) : Type 0 where
  pub few : length chain ≤ most_input
  pub start : Near c

-- every byte is a step, and none is too many
abbrev pub AllSteps : List ℕ → Type 0
AllSteps ds = (i : ℕ) → i < length ds → StepAt ds i

-- the occasion of each judgement: 1, then 10, then 4 and 6 at the first faulty place
pub data GivenChain (c : Corner) (ds : List ℕ) : Judged → Type 0 where
  too_many : most_input < length ds → GivenChain c ds (Err TooMany)
  start_range : length ds ≤ most_input → (Near c → ⊥) → GivenChain c ds (Err StartRange)
  bad_digit : (i : ℕ) → ChainSized c ds → FirstAt (length ds) (StepAt ds) (AboveThreeAt ds) i
      → GivenChain c ds (Err (BadDigit i))
  too_long : (i : ℕ) → ChainSized c ds → FirstAt (length ds) (StepAt ds) (StepTooManyAt ds) i
      → GivenChain c ds (Err (TooLong i))
  walkable : ChainSized c ds → AllSteps ds → GivenChain c ds (Ok tt)

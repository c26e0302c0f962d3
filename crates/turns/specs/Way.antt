-- Both conversions, digit by digit, as one with its way as a parameter. Assumes nothing.
use Rattle.std.specs.Prelude.{List, ℕ}
use Rattle.steps.specs.Turns.{turn_of, step_after, turns_from, turns_of, steps_from, steps_of}
use Rattle.turns.specs.declared.Way.{Way, TheVariants.ToTurns, TheVariants.ToSteps}

-- what is written for the digit x after the step a
abbrev pub digit_by : Way → ℕ → ℕ → ℕ
digit_by ToTurns a x = turn_of a x
digit_by ToSteps a x = step_after a x

-- the step at the digit x for which y is written
abbrev pub step_by : Way → ℕ → ℕ → ℕ
step_by ToTurns x y = x
step_by ToSteps x y = y

-- the conversion of digits after the step a
abbrev pub convert_from : Way → ℕ → List ℕ → List ℕ
convert_from ToTurns = turns_from
convert_from ToSteps = steps_from

-- the conversion of digits
abbrev pub convert_of : Way → List ℕ → List ℕ
convert_of ToTurns = turns_of
convert_of ToSteps = steps_of

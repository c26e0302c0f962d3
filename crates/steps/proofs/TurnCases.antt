-- Turns and their refusals, computed on small inputs.
-- Assumes nothing.
use Rattle.std.specs.Prelude.{Err, Ok}
use mathlib.Core.List.{[], ◌∷◌}
use mathlib.Core.Path.{◌≡◌, refl}
use Rattle.answer.specs.declared.Refusal.TheVariants.{ResultRoom, BadDigit}
use Rattle.steps.specs.Turns.{turns_of, steps_of, turns_judged, written_if}

-- the word of P11 and its turns: the first digit is the first step
turns_of_the_word : turns_of (0 ∷ 0 ∷ 1 ∷ 1 ∷ 0 ∷ 0 ∷ 3 ∷ 2 ∷ 2 ∷ 2 ∷ 2 ∷ 3 ∷ []) ≡ 0 ∷ 0 ∷ 1 ∷ 0 ∷ 3 ∷ 0 ∷ 3 ∷ 3 ∷ 0 ∷ 0 ∷ 0 ∷ 1 ∷ []
turns_of_the_word = refl

-- the first digit is kept, not counted from anything
turns-from_the_south : turns_of (3 ∷ 0 ∷ 3 ∷ []) ≡ 3 ∷ 1 ∷ 3 ∷ []
turns-from_the_south = refl

steps-to_the_south : steps_of (3 ∷ 1 ∷ 3 ∷ []) ≡ 3 ∷ 0 ∷ 3 ∷ []
steps-to_the_south = refl

turns_of_none : turns_of [] ≡ []
turns_of_none = refl

-- room before digits
room-before_digits : turns_judged (4 ∷ []) 0 ≡ Err ResultRoom
room-before_digits = refl

-- the first bad digit of several
first_bad_digit : turns_judged (3 ∷ 4 ∷ 5 ∷ []) 3 ≡ Err (BadDigit 1)
first_bad_digit = refl

all_digits : turns_judged (3 ∷ 0 ∷ []) 2 ≡ Ok tt
all_digits = refl

untouched : written_if (Err ResultRoom) (1 ∷ []) (7 ∷ 7 ∷ []) ≡ 7 ∷ 7 ∷ []
untouched = refl

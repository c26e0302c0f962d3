-- Surviving steps and the faults of operations, computed.
-- Assumes nothing.
use Rattle.std.specs.Prelude.{Err, Ok}
use mathlib.Core.List.{[], ◌∷◌}
use mathlib.Core.Path.{◌≡◌, refl}
use Rattle.answer.specs.declared.Refusal.TheVariants.{BadDigit, NothingToTake, TooLong}
use Rattle.answer.specs.Limits.{most_steps}
use Rattle.steps.specs.Operations.{survivors, operations_judged}

-- operation 4 takes the last surviving step, not the first
last_taken : survivors (0 ∷ 2 ∷ 1 ∷ 4 ∷ []) ≡ 0 ∷ 2 ∷ []
last_taken = refl

taken_and_walked_on : survivors (0 ∷ 0 ∷ 4 ∷ 1 ∷ 2 ∷ 3 ∷ []) ≡ 0 ∷ 1 ∷ 2 ∷ 3 ∷ []
taken_and_walked_on = refl

-- 5, if no step survives any more
nothing_left : operations_judged 0 0 (0 ∷ 4 ∷ 4 ∷ []) ≡ Err (NothingToTake 2)
nothing_left = refl

-- 4, at the first faulty place of several
first-place : operations_judged 0 0 (0 ∷ 5 ∷ 4 ∷ 4 ∷ []) ≡ Err (BadDigit 1)
first-place = refl

-- 6, for the 16,385th surviving step; the 16,384th is good
one_too_long : operations_judged 0 most_steps (3 ∷ []) ≡ Err (TooLong 0)
one_too_long = refl

longest : operations_judged 0 16383 (3 ∷ []) ≡ Ok tt
longest = refl

-- 4 before 6 at one place
bad_before-long : operations_judged 0 most_steps (5 ∷ []) ≡ Err (BadDigit 0)
bad_before-long = refl

-- a step taken back makes space for another
room_again : operations_judged 0 most_steps (4 ∷ 3 ∷ []) ≡ Ok tt
room_again = refl

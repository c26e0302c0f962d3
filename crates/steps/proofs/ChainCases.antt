-- The refusals of a start and a chain, computed.
-- Assumes nothing.
use Rattle.std.specs.Prelude.{Err, Ok}
use mathlib.Core.List.{[], ◌∷◌}
use mathlib.Core.Path.{◌≡◌, refl}
use lib.IntN.{pos}
use Rattle.grid.specs.Grid.{corner}
use Rattle.answer.specs.declared.Refusal.TheVariants.{BadDigit, TooLong, StartRange}
use Rattle.steps.specs.Chain.{fault_at, as_walk_judged}

-- 4 comes before 6 at one place, and 6 only at place 16,384
bad_digit_first : fault_at 16384 4 ≡ Err (BadDigit 16384)
bad_digit_first = refl

step_too_many : fault_at 16384 3 ≡ Err (TooLong 16384)
step_too_many = refl

last_step : fault_at 16383 3 ≡ Ok tt
last_step = refl

-- 10 comes before 4
start-before_digit : as_walk_judged (corner (pos 0) (pos 16385)) (4 ∷ []) ≡ Err StartRange
start-before_digit = refl

-- What one call passes and holds, computed on small inputs.
-- Assumes nothing.
use mathlib.Core.List.{[], ◌∷◌}
use mathlib.Core.Path.{◌≡◌, refl}
use lib.ListN.{length, replicate}
use Rattle.line_frame.specs.Begun.{line_length, kept_of, passed_of, held_of}

-- a line with its line feed, and not what comes after it
line_passed : passed_of (48 ∷ 10 ∷ 49 ∷ []) ≡ 2
unfolding line_length
line_passed = refl

-- all, if there is none
all-passed : passed_of (48 ∷ 49 ∷ []) ≡ 2
unfolding line_length
all-passed = refl

-- after its line feed a line is held no more
held_no_more : held_of (48 ∷ []) (49 ∷ 10 ∷ 50 ∷ []) ≡ []
unfolding line_length
held_no_more = refl

-- a line begun is held with what was held of it
held_on : held_of (48 ∷ []) (49 ∷ []) ≡ 48 ∷ 49 ∷ []
unfolding line_length
held_on = refl

-- of a line that is too long one byte more is kept than a frame has
kept_of_a-long_line : length (kept_of (replicate 1032 48)) ≡ 1031
kept_of_a-long_line = refl

-- and it stays held, so that its rest is not a line
long_line_held : length (held_of (replicate 1031 48) (48 ∷ [])) ≡ 1031
unfolding line_length
long_line_held = refl

-- The numbers of the answers, computed.
-- Assumes nothing.
use Rattle.std.specs.Prelude.{Err, Ok}
use mathlib.Core.List.{[], ◌∷◌}
use mathlib.Core.Path.{◌≡◌, refl}
use lib.IntN.{pos, negsuc}
use Rattle.answer.specs.declared.Refusal.TheVariants.{ResultRoom, BadDigit}
use Rattle.answer.specs.declared.Verdict.TheVariants.{Room}
use Rattle.answer.specs.Words.{bits_of, answer_words, answer_number, counted_words, judged_words}

-- two's complement of 32 bits
minus_one : bits_of (negsuc 0) ≡ 0xffffffff
minus_one = refl

minus-256 : bits_of (negsuc 255) ≡ 0xffffff00
minus-256 = refl

-- a refused answer holds number and place, and 0 in all other words
walk_refused : answer_words (Err (BadDigit 7)) ≡ 4 ∷ 7 ∷ 0 ∷ 0 ∷ 0 ∷ 0 ∷ 0 ∷ 0 ∷ 0 ∷ 0 ∷ 0 ∷ []
walk_refused = refl

-- an accepted one holds 0 for both, and its values: P3, whose area is -1
walk_accepted :
    answer_words (Ok (record { verdict = Room; steps = 4; nodes = 5; corners = 6; j = 0; k = 7; area = negsuc 0; last = record { 0 = pos 8; 1 = pos 9 } }))
    ≡ 0 ∷ 0 ∷ 2 ∷ 4 ∷ 5 ∷ 6 ∷ 0 ∷ 7 ∷ 0xffffffff ∷ 8 ∷ 9 ∷ []
walk_accepted = refl

its-number : answer_number (Err (BadDigit 7)) ≡ 4
its-number = refl

hull_accepted : counted_words (Ok 6) ≡ 0 ∷ 0 ∷ 6 ∷ []
hull_accepted = refl

hull_refused : counted_words (Err (BadDigit 7)) ≡ 4 ∷ 7 ∷ 0 ∷ []
hull_refused = refl

turns_refused : judged_words (Err ResultRoom) ≡ 3 ∷ 0 ∷ []
turns_refused = refl

turns_accepted : judged_words (Ok tt) ≡ 0 ∷ 0 ∷ []
turns_accepted = refl

-- The answer to a polygon that is read as numbers (RULES 18.8). Assumes nothing.
use Rattle.std.specs.Prelude.{List, [], ◌∷◌, Err, Ok, ℕ}
use Rattle.polygon_ring.specs.Answers.{Given}
use Rattle.answer.specs.{Refusal.refusal_number, Refusal.refusal_place, Words.bits_of}

-- number, place, steps, x and y of the start, in two's complement; a refused answer holds number and place, and 0 in all other
-- words
abbrev pub given_words : Given → List ℕ
given_words (Ok f) = 0 ∷ 0 ∷ f.steps ∷ bits_of f.start.0 ∷ bits_of f.start.1 ∷ []
given_words (Err r) = refusal_number r ∷ refusal_place r ∷ 0 ∷ 0 ∷ 0 ∷ []

-- the refusal's number, 0 if the file is accepted
abbrev pub given_number : Given → ℕ
given_number (Ok f) = 0
given_number (Err r) = refusal_number r

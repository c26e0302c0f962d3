-- The answers as the numbers of each case (RULES 5.2, 6.5). Assumes nothing.
use Rattle.std.specs.Prelude.{List, [], ◌∷◌, ℕ, ◌+◌, ◌-◌, ◌^◌, ℤ, pos, Err, Ok, negsuc}
use Rattle.answer.specs.Answers.{Answer, Counted, Judged}
use Rattle.answer.specs.declared.{Facts.Facts}
use Rattle.answer.specs.Refusal.{refusal_number, refusal_place, verdict_number, judged_number, judged_place}

-- a whole number as 32 bits, negatives in two's complement
abbrev pub bits_of : ℤ → ℕ
bits_of (pos n) = n
bits_of (negsuc n) = 2 ^ 32 - (n + 1)

-- an accepted walk: 0, 0, verdict, n, nodes, different corners, j, k, area, x and y of the last corner, the signed ones in two's
-- complement
abbrev pub facts_words : Facts → List ℕ
facts_words f =
    0 ∷ 0 ∷ verdict_number f.verdict ∷ f.steps ∷ f.nodes ∷ f.corners ∷ f.j ∷ f.k
    ∷ bits_of f.area ∷ bits_of f.last.0 ∷ bits_of f.last.1 ∷ []

-- a refused answer holds number and place, and 0 in all other words; an accepted one holds 0 for both
abbrev pub answer_words : Answer → List ℕ
answer_words (Ok f) = facts_words f
answer_words (Err r) = refusal_number r ∷ refusal_place r ∷ 0 ∷ 0 ∷ 0 ∷ 0 ∷ 0 ∷ 0 ∷ 0 ∷ 0 ∷ 0 ∷ []

-- the refusal's number, 0 if it is accepted
abbrev pub answer_number : Answer → ℕ
answer_number (Ok f) = 0
answer_number (Err r) = refusal_number r

-- number, place, count
abbrev pub counted_words : Counted → List ℕ
counted_words (Ok n) = 0 ∷ 0 ∷ n ∷ []
counted_words (Err r) = refusal_number r ∷ refusal_place r ∷ 0 ∷ []

-- the refusal's number, in the same way
abbrev pub counted_number : Counted → ℕ
counted_number (Ok n) = 0
counted_number (Err r) = refusal_number r

-- number, place
abbrev pub judged_words : Judged → List ℕ
judged_words j = judged_number j ∷ judged_place j ∷ []

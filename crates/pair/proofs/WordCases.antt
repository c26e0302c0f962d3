-- The answer to two parties as numbers, computed.
-- Assumes nothing.
use mathlib.Core.List.{[], ◌∷◌}
use mathlib.Core.Path.{◌≡◌, refl}
use lib.IntN.{pos}
use Rattle.grid.specs.Grid.{corner}
use Rattle.pair.specs.Call.{pair_answer}
use Rattle.pair.specs.Words.{pair_answer_words, pair_answer_number}

-- a room of the first walked clockwise from (1,0), one step west of the second to (-1,0), whose last corner is in two's complement
words_of_both : pair_answer_words (pair_answer (corner (pos 1) (pos 0)) (corner (pos 0) (pos 0)) (3 ∷ 18 ∷ 2 ∷ 1 ∷ 0 ∷ []) 432 15 5 5)
    ≡ 0 ∷ 0 ∷ 5 ∷ 2 ∷ 4 ∷ 4 ∷ 0 ∷ 4 ∷ 4294967295 ∷ 1 ∷ 0 ∷ 1 ∷ 1 ∷ 2 ∷ 65535 ∷ 65535 ∷ 0 ∷ 4294967295 ∷ 0 ∷ []
words_of_both = refl

-- an unknown party at place 1
words_refused : pair_answer_words (pair_answer (corner (pos 0) (pos 0)) (corner (pos 0) (pos 0)) (0 ∷ 37 ∷ []) 72 6 2 2)
    ≡ 20 ∷ 1 ∷ 0 ∷ 0 ∷ 0 ∷ 0 ∷ 0 ∷ 0 ∷ 0 ∷ 0 ∷ 0 ∷ 0 ∷ 0 ∷ 0 ∷ 0 ∷ 0 ∷ 0 ∷ 0 ∷ 0 ∷ []
words_refused = refl

number_refused : pair_answer_number (pair_answer (corner (pos 0) (pos 0)) (corner (pos 0) (pos 0)) (0 ∷ 37 ∷ []) 72 6 2 2) ≡ 20
number_refused = refl

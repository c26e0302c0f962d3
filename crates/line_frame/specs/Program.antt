-- The whole output for a whole input (RULES 7.1). Assumes nothing.
use Rattle.lists.specs.Lists.{count}
use Rattle.std.specs.Prelude.{true, false, List, [], ◌∷◌, ◌++◌, ℕ, eqb}
use Rattle.line_frame.specs.Line.{line_answer}

-- what is left of the input after its last line feed: a line, unless there is nothing
abbrev pub last_of : (List ℕ → List ℕ) → List ℕ → List ℕ
last_of f [] = []
last_of f (b ∷ s) = f (b ∷ s)

-- an output made line by line, if these bytes of the first line were read before: what is written for each line that a line feed
-- ends, and what is written for a last line that lacks it
unfoldable pub output_from : (List ℕ → List ℕ) → (List ℕ → List ℕ) → List ℕ → List ℕ → List ℕ
output_from told last line [] = last_of last line
output_from told last line (b ∷ s) =
    elim (eqb b 10) [ true ↦ told line ++ output_from told last [] s | false ↦ output_from told last (line ++ (b ∷ [])) s ]

-- how many line feeds there are
abbrev pub feeds_in : List ℕ → ℕ
feeds_in s = count (λ b. eqb b 10) s

-- a line's answer, ended by a line feed
abbrev pub answered : List ℕ → List ℕ
answered l = line_answer l ++ (10 ∷ [])

-- the output for an input: every line is answered, the last too
abbrev pub program : List ℕ → List ℕ
program s = output_from answered answered [] s

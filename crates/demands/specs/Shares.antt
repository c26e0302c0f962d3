-- An input that is shared out in parts which end where lines end. Assumes nothing.
use Rattle.std.specs.Prelude.{List, [], ◌∷◌, ◌++◌, ℕ}

-- the parts, each ended by a line feed, one after the other
unfoldable pub ended_parts : List (List ℕ) → List ℕ
ended_parts [] = []
ended_parts (s ∷ ss) = (s ++ (10 ∷ [])) ++ ended_parts ss

-- what a program writes for each of them by itself, put together in their order
unfoldable pub outputs_of : (List ℕ → List ℕ) → List (List ℕ) → List ℕ
outputs_of program [] = []
outputs_of program (s ∷ ss) = program (s ++ (10 ∷ [])) ++ outputs_of program ss

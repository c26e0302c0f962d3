-- The answer to a good frame, without the line feed (RULES 7.3 to 7.5). Assumes nothing.
use Rattle.std.specs.Prelude.{List, [], ◌∷◌, ◌++◌, length, ℕ, ◌+◌, Err, Ok, ℤ}
use Rattle.answer.specs.Answers.{Answer}
use Rattle.answer.specs.declared.{Refusal.Refusal, Facts.Facts}
use Rattle.answer.specs.{Refusal.refusal_number, Refusal.refusal_place, Refusal.verdict_number, Words.bits_of}
use Rattle.grid.specs.{declared.Corner.Corner, Grid.origin, Grid.numbers}
use Rattle.hull_laws.specs.Chain.{hull_of}
use Rattle.line_frame.specs.Hex.{hex_of}

-- refused: hexadecimal 80 plus the number, then the place in 8 digits
abbrev pub refused_line : Refusal → List ℕ
refused_line r = hex_of 2 (0x80 + refusal_number r) ++ hex_of 8 (refusal_place r)

-- verdict 2 digits, n 4, nodes 8, different corners 4, j 4, k 4, area 8
abbrev pub facts_line : Facts → List ℕ
facts_line f =
    hex_of 2 (verdict_number f.verdict)
    ++ hex_of 4 f.steps
    ++ hex_of 8 f.nodes
    ++ hex_of 4 f.corners
    ++ hex_of 4 f.j
    ++ hex_of 4 f.k
    ++ hex_of 8 (bits_of f.area)

-- whole numbers, 4 digits each, negatives in two's complement
unfoldable pub numbers_line : List ℤ → List ℕ
numbers_line [] = []
numbers_line (z ∷ zs) = hex_of 4 (bits_of z) ++ numbers_line zs

-- hull count 4 digits, then x and y of each hull corner
abbrev pub hull_line : List Corner → List ℕ
hull_line cs = hex_of 4 (length cs) ++ numbers_line (numbers cs)

-- the walk's answer, and the hull of the surviving steps if it is accepted
abbrev pub answer_line : Answer → List ℕ → List ℕ
answer_line (Ok f) w = facts_line f ++ hull_line (hull_of origin w)
answer_line (Err r) w = refused_line r

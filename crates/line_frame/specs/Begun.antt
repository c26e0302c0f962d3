-- A line that is begun in one part of the input and goes on in the next (RULES 7.12): how far one call goes, and what it holds of
-- the line.
-- Assumes nothing.
use Rattle.std.specs.Prelude.{Bool, true, false, cond, List, [], ◌∷◌, ◌++◌, length, take, ℕ, suc, eqb, ltb}
use Rattle.line_frame.specs.Sizes.{most_held}

-- how many bytes stand before the first line feed
unfoldable pub line_length : List ℕ → ℕ
line_length [] = 0
line_length (b ∷ s) = elim (eqb b 10) [ true ↦ 0 | false ↦ suc (line_length s) ]

-- there is a line feed
abbrev pub has_feed : List ℕ → Bool
has_feed s = ltb (line_length s) (length s)

-- what is held of the bytes of a line begun
abbrev pub kept_of : List ℕ → List ℕ
kept_of h = take most_held h

-- the bytes that one call passes: a line with its line feed, or all
abbrev pub passed_of : List ℕ → ℕ
passed_of s = cond (has_feed s) (suc (line_length s)) (length s)

-- what is held after it
abbrev pub held_of : List ℕ → List ℕ → List ℕ
held_of h s = cond (has_feed s) [] (kept_of (h ++ s))

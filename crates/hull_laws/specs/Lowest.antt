-- The lowest corner of each column of a walk.
-- Assumes nothing.
use Rattle.std.specs.Prelude.{List, [], ◌∷◌, ℕ, ◌-◌, min, get_or, set}

-- the height of a column that has none yet
abbrev pub blank : ℕ
blank = 65535

-- a column keeps the least of its heights
unfoldable pub sink : List ℕ → ℕ × ℕ → List ℕ
sink a v = set a v.0 (min (get_or a v.0 0) v.1)

-- and so for several, one after the other
unfoldable pub sinks : List ℕ → List (ℕ × ℕ) → List ℕ
sinks a [] = a
sinks a (v ∷ vs) = sinks (sink a v) vs

-- counted from the column w
abbrev pub counted_from : ℕ → ℕ × ℕ → ℕ × ℕ
counted_from w v = (v.0 - w, v.1)

-- turned by half a turn: counted westward from the column e, and downward from the height h
abbrev pub half_turned : ℕ → ℕ → ℕ × ℕ → ℕ × ℕ
half_turned e h v = (e - v.0, h - v.1)

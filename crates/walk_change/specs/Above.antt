-- A record and the one above it.
-- Assumes nothing.
use Rattle.std.specs.Prelude.{List, ℕ, suc, not, eqb, ◌+◌, ◌-◌, ◌*◌, ◌<◌, ◌≤◌, length, get_or}
use Rattle.lists.specs.Lists.{tally}
use Rattle.layout.specs.Table.{width, word_at, HasRecord, parent_word, neighbour_word}
use Rattle.walk_change.specs.declared.Level.{Level}

-- the parent of record u, if there is one, lies in the table too
abbrev pub ParentHeld : List ℕ → ℕ → Type 0
ParentHeld t u = 0 < get_or t (word_at u parent_word) 0 → HasRecord t (get_or t (word_at u parent_word) 0 - 1)

-- in a table with this many words for each record, record u has a parent, which lies in the table and has a neighbour in
-- direction d
abbrev pub LinkedIn : ℕ → List ℕ → ℕ → ℕ → Type 0
LinkedIn words t u d =
    let up = get_or t (u * words + parent_word) 0 in
    (0 < up) × (suc (up - 1) * words ≤ length t) × (0 < get_or t ((up - 1) * words + neighbour_word d) 0)

-- the level above u and v in such a table: the parent of u, its neighbour in direction d, and how many of these two are not an
-- end of the level below
abbrev pub level_above : ℕ → List ℕ → ℕ → ℕ → ℕ → Level
level_above words t u v d =
    let up = get_or t (u * words + parent_word) 0 - 1 in
    let beside = get_or t (up * words + neighbour_word d) 0 - 1 in
    record { u = up; v = beside; count = tally (not (eqb up v)) + tally (not (eqb beside u)) }

-- in the table of a walk, record u has such a parent
abbrev pub LinkedAbove : List ℕ → ℕ → ℕ → Type 0
LinkedAbove t u d = LinkedIn width t u d

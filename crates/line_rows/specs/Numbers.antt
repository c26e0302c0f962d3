-- The numbers of spans, one span on each line. Assumes nothing.
use Rattle.std.specs.Prelude.{List, [], ◌∷◌, ◌++◌, take, drop, ℕ, zero, suc, ℤ}
use Rattle.line_frame.specs.Spelled.{numbers_line}

-- the first three numbers, and a line feed
abbrev pub three_told : List ℤ → List ℕ
three_told zs = numbers_line (take 3 zs) ++ (10 ∷ [])

-- this many lines of three
unfoldable pub threes_told : ℕ → List ℤ → List ℕ
threes_told zero zs = []
threes_told (suc n) zs = three_told zs ++ threes_told n (drop 3 zs)

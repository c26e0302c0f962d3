-- The whole sheet for a whole input (RULES 20.1, 20.2), and a part of it. Assumes nothing.
use Rattle.lists.specs.Lists.{tally}
use Rattle.std.specs.Prelude.{Bool, true, not, cond, List, [], ◌∷◌, ◌++◌, ℕ, zero, suc, ◌+◌, eqb}
use Rattle.line_frame.specs.Program.{output_from, feeds_in}
use Rattle.sheet.specs.declared.Margin.{Margin}
use Rattle.sheet.specs.Entry.{cell_of, entry_of}

-- what is said of a line, ended by a line feed
abbrev pub entered : List ℕ → List ℕ
entered l = entry_of l ++ (10 ∷ [])

-- what is said of every line of an input, the last too
abbrev pub entries : List ℕ → List ℕ
entries s = output_from entered entered [] s

-- each line with its number before it, from n on; the first of these bytes begins a line, or goes on in it
unfoldable pub numbered_from : Bool → ℕ → List ℕ → List ℕ
numbered_from begins n [] = []
numbered_from begins n (b ∷ s) = cond begins (cell_of n) [] ++ (b ∷ numbered_from (eqb b 10) (cond (eqb b 10) (suc n) n) s)

-- whether a line begins after these bytes
unfoldable pub begins_after : Bool → List ℕ → Bool
begins_after begins [] = begins
begins_after begins (b ∷ s) = begins_after (eqb b 10) s

-- how many lines an input has: as many as line feeds, and one more if the last lacks it
abbrev pub lines_in : List ℕ → ℕ
lines_in s = feeds_in s + tally (not (begins_after true s))

-- id,refusal,place,verdict,steps,nodes,corners,j,k,area,wkb
abbrev pub header : List ℕ
header =
    105 ∷ 100 ∷ 44
    ∷ 114 ∷ 101 ∷ 102 ∷ 117 ∷ 115 ∷ 97 ∷ 108 ∷ 44
    ∷ 112 ∷ 108 ∷ 97 ∷ 99 ∷ 101 ∷ 44
    ∷ 118 ∷ 101 ∷ 114 ∷ 100 ∷ 105 ∷ 99 ∷ 116 ∷ 44
    ∷ 115 ∷ 116 ∷ 101 ∷ 112 ∷ 115 ∷ 44
    ∷ 110 ∷ 111 ∷ 100 ∷ 101 ∷ 115 ∷ 44
    ∷ 99 ∷ 111 ∷ 114 ∷ 110 ∷ 101 ∷ 114 ∷ 115 ∷ 44
    ∷ 106 ∷ 44
    ∷ 107 ∷ 44
    ∷ 97 ∷ 114 ∷ 101 ∷ 97 ∷ 44
    ∷ 119 ∷ 107 ∷ 98 ∷ 10 ∷ []

-- what is said of each line of the input, numbered from n on
abbrev pub entries_from : ℕ → List ℕ → List ℕ
entries_from n s = numbered_from true n (entries s)

-- the sheet: the header, then a row for each line, numbered from 1 on
abbrev pub sheet : List ℕ → List ℕ
sheet s = header ++ entries_from 1 s

-- where the sheet stands before anything is written
abbrev pub at_top : Margin
at_top = record { line = 0; begins = true }

-- what is written before everything else: the header, unless it is there
abbrev pub head_of : ℕ → List ℕ
head_of zero = header
head_of (suc n) = []

-- the number of the line in which the next byte stands
abbrev pub line_of : ℕ → ℕ
line_of zero = 1
line_of (suc n) = suc n

-- bytes of the entries as a part of a sheet that stands at m
abbrev pub page_of : Margin → List ℕ → List ℕ
page_of m s = head_of m.line ++ numbered_from m.begins (line_of m.line) s

-- where the sheet stands then
abbrev pub margin_after : Margin → List ℕ → Margin
margin_after m s = record { line = line_of m.line + feeds_in s; begins = begins_after m.begins s }

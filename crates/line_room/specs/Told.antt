-- What the rows program writes for a line, with its line feeds, and for an input (RULES 14.6 to 14.8). Assumes nothing.
use Rattle.std.specs.Prelude.{Err, List, Ok, [], ◌∷◌, ◌++◌, ℕ, ◌*◌, ◌/◌}
use Rattle.answer.specs.Answers.{Answer, Judged}
use Rattle.grid.specs.Grid.{origin}
use Rattle.answer.specs.declared.{Refusal.Refusal}
use Rattle.steps.specs.Operations.{survivors}
use Rattle.room.specs.Room.{as_room_judged}
use Rattle.row.specs.Rows.{Span}
use Rattle.row_laws.specs.Feet.{rows_of}
use Rattle.line_frame.specs.{Sizes.most_digits, Spelled.refused_line, Spelled.numbers_line, Line.digits_of, Program.output_from, Line.line_walked}

-- row, first and last panel of a span, 4 digits each, and a line feed
abbrev span_told : Span → List ℕ
span_told s = numbers_line (s.row ∷ s.first ∷ s.last ∷ []) ++ (10 ∷ [])

-- one span after the other
unfoldable pub spans_told : List Span → List ℕ
spans_told [] = []
spans_told (s ∷ l) = span_told s ++ spans_told l

-- the line of a refusal
abbrev pub refused_told : Refusal → List ℕ
refused_told r = refused_line r ++ (10 ∷ [])

-- the spans of a room; what is not a room is refused as the rows call refuses it
abbrev pub room_told : Judged → List ℕ → List ℕ
room_told (Ok _) ds = spans_told (rows_of origin ds)
room_told (Err r) ds = refused_told r

-- a walk that is refused has its refusal; of any other the surviving steps are taken as a room
abbrev pub walk_told : Answer → List ℕ → List ℕ
walk_told (Ok f) ds = room_told (as_room_judged origin ds) ds
walk_told (Err r) ds = refused_told r

-- what is written for a line
unfoldable pub rows_told : List ℕ → List ℕ
rows_told s = walk_told (line_walked s) (survivors (digits_of s))

-- the output for an input: that for every line, the last too
abbrev pub rows_program : List ℕ → List ℕ
rows_program s = output_from rows_told rows_told [] s

-- bytes for a line at most: 12 digits and a line feed for each span; there are at most half as many spans as digits
abbrev pub most_rows : ℕ
most_rows = 13 * (most_digits / 2)

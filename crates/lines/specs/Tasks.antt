-- What each program does with the lines of its input. Assumes nothing.
use Rattle.std.specs.Prelude.{List, [], ◌∷◌, ◌++◌, ℕ, ◌+◌}
use Rattle.line_frame.specs.{Sizes.most_held, Sizes.most_answer, Program.output_from, Program.answered, Converted.converted_line, Converted.converted}
use Rattle.line_stream.specs.Stream.{Job, tells_each, passes_on, Fed, most_part}
use Rattle.line_room.specs.Told.{rows_told, most_rows}
use Rattle.sheet.specs.{declared.Margin.Margin, Sizes.most_entry, Sheet.entered, Sheet.at_top, Sheet.page_of, Sheet.margin_after}
use Rattle.lines.specs.declared.Task.{Task, TheVariants.Answer, TheVariants.Convert, TheVariants.Rows, TheVariants.Enter}

-- bytes that are written of a line before it ends, and at its end, at most
abbrev pub most_early : Task → ℕ
most_early Answer = 0
most_early Convert = most_held + most_part
most_early Rows = 0
most_early Enter = 0

abbrev pub most_told : Task → ℕ
most_told Answer = most_answer
most_told Convert = most_held
most_told Rows = most_rows
most_told Enter = most_entry

-- what each task writes. Answer: the answer, at the end of the line. Convert: the converted line at its end, and a line that is
-- too long for a frame as it comes. Rows: the rows of the room, at the end of the line. Enter: the entry of the sheet, at the end
-- of the line
abbrev pub job_of : Task → Job
job_of Answer = tells_each answered (most_early Answer + most_told Answer)
job_of Convert = passes_on converted_line (most_early Convert + most_told Convert)
job_of Rows = tells_each rows_told (most_early Rows + most_told Rows)
job_of Enter = tells_each entered (most_early Enter + most_told Enter)

-- what is written for a line that a line feed ends, and for a last line that lacks it
abbrev pub fed_line_of : Task → List ℕ → List ℕ
fed_line_of Answer = answered
fed_line_of Convert = converted
fed_line_of Rows = rows_told
fed_line_of Enter = entered

abbrev pub last_line_of : Task → List ℕ → List ℕ
last_line_of Answer = answered
last_line_of Convert = converted_line
last_line_of Rows = rows_told
last_line_of Enter = entered

-- the output for an input
abbrev pub output_of : Task → List ℕ → List ℕ
output_of t s = output_from (fed_line_of t) (last_line_of t) [] s

-- what is passed on of it, if the sheet stands at m: entries are numbered, after the header, and everything else stays as it is
abbrev pub handed_of : Task → Margin → List ℕ → List ℕ
handed_of Answer m w = w
handed_of Convert m w = w
handed_of Rows m w = w
handed_of Enter m w = page_of m w

-- where the sheet stands then
abbrev pub margin_of : Task → Margin → List ℕ → Margin
margin_of Answer m w = m
margin_of Convert m w = m
margin_of Rows m w = m
margin_of Enter m w = margin_after m w

-- all that is passed on for the parts of an input, one after the other, and at the end, if h was held and the sheet stood at m at
-- first
pub data Handed (t : Task) : Margin → List ℕ → List (List ℕ) → List ℕ → Type 0 where
  closed : {m : Margin} {h : List ℕ} → Handed t m h [] (handed_of t m ((job_of t).last h))
  passed : {m : Margin} {h o : List ℕ} {ss : List (List ℕ)} (s w h' : List ℕ) → Fed (job_of t) h s w h'
      → Handed t (margin_of t m w) h' ss o → Handed t m h (s ∷ ss) (handed_of t m w ++ o)

-- the whole of it for an input
abbrev pub all_handed : Task → List ℕ → List ℕ
all_handed t s = handed_of t at_top (output_of t s)

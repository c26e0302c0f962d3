-- What is asked of the programs on lines (RULES 7, 14.6 to 14.8, 20), as theorems about their definitions. Each is proved by
-- naming a law.
-- Assumes nothing.
use Rattle.std.specs.Prelude.{Err, Ok, Some}
use mathlib.Core.Path.{◌≡◌}
use mathlib.Core.List.{List, [], ◌∷◌, ◌++◌}
use mathlib.Core.Logic.{◌↔◌}
use Prim.Native.Nat.{ℕ, ◌^◌, ◌<◌}
use lib.ListN.{length}
use Rattle.answer.specs.Answers.{Judged}
use Rattle.answer.specs.declared.Refusal.{Refusal}
use Rattle.answer.specs.declared.Refusal.TheVariants.{RetiredKind}
use Rattle.answer.specs.Refusal.{refusal_number, refusal_place}
use Rattle.lists.specs.Lists.{Below}
use Rattle.grid.specs.declared.Corner.{Corner}
use Rattle.grid.specs.Grid.{origin, corners_from}
use Rattle.steps.specs.Operations.{survivors}
use Rattle.steps.specs.Turns.{steps_of}
use Rattle.trace.specs.Verdict.{IsRoom}
use Rattle.walk.specs.Walk.{facts_of}
use Rattle.hull.specs.Hull.{HullIs}
use Rattle.panels.specs.Inside.{Inside}
use Rattle.polygon.specs.Polygon.{polygon_of}
use Rattle.row.specs.Rows.{Span, RowsIs}
use Rattle.line_frame.specs.declared.{Kind.TheVariants.Operations, Kind.TheVariants.Turns}
use Rattle.line_frame.specs.Line.{frame_of, digits_of, line_answer, kind_walked}
use Rattle.line_frame.specs.Spelled.{refused_line, facts_line, hull_line, answer_line}
use Rattle.line_frame.specs.Program.{output_from, feeds_in, answered, program}
use Rattle.line_frame.specs.Converted.{Turned, converted_line, converter}
use Rattle.line_room.specs.Told.{spans_told, refused_told, rows_told}
use Rattle.sheet.specs.Sizes.{most_decimals}
use Rattle.sheet.specs.Entry.{cell_of, entry_of}
use Rattle.sheet.specs.Sheet.{lines_in}
use Rattle.line_frame.proofs.LineLaws as line_laws
use Rattle.line_frame.proofs.ConvertedLaws as converted_laws
use Rattle.line_frame.proofs.OutputLaws as output_laws
use Rattle.demands.specs.Shares.{ended_parts, outputs_of}
use Rattle.demands.specs.GivenLine.{FrameIs, GivenLine, GivenLineRoom}
use Rattle.demands.specs.Fields.{RefusalRead, AnswerRead, SpansRead}
use Rattle.demands.specs.Cells.{number_at, RefusedRow, RowRead}
use Rattle.demands.proofs.ShareLaws as share_laws
use Rattle.demands.proofs.LineCallLaws as line_call_laws
use Rattle.demands.proofs.LineRoomLaws as line_room_laws
use Rattle.demands.proofs.LineRowLaws as line_row_laws

-- ---- the line program
-- a line is a frame in one way at most
pub frame_one : {s : List ℕ} {k j : ℕ} {ds es : List ℕ} → k < 2 → j < 2 → FrameIs s k ds → FrameIs s j es → (k ≡ j) × (ds ≡ es)
frame_one = line_call_laws.frame_one

-- "takes every byte string as a record": each line has an answer, which is acceptance or one of 9, 19, 4, 5 and 7
pub line_answers : (s : List ℕ) → (j : Judged) × GivenLine s j
line_answers = line_call_laws.line_given

-- each refusal is written exactly on its occasion; a place that has more than eight digits is not a place of a line
pub line_refused_exactly : (s : List ℕ) (q : Refusal) → refusal_place q < 16 ^ 8
    → line_answer s ≡ refused_line q ↔ GivenLine s (Err q)
line_refused_exactly s q h = (line_call_laws.refused_line_lem s q h, λ g. (line_call_laws.line_refused s q g).0)

-- and the facts of the surviving steps with their hull exactly on the occasion of acceptance
pub line_accepted_exactly : (s os : List ℕ) → FrameIs s 0 os → (L : List Corner) → HullIs (corners_from origin (survivors os)) L
    → line_answer s ≡ facts_line (facts_of origin (survivors os)) ++ hull_line L ↔ GivenLine s (Ok tt)
line_accepted_exactly = line_call_laws.accepted_when

-- what is read in a line that is written: its fields give number and place of the refusal, or the facts and the corners of the
-- hull
pub line_refused_read : (s : List ℕ) (q : Refusal) → GivenLine s (Err q) → RefusalRead (line_answer s) q
line_refused_read s q g = (line_call_laws.line_refused s q g).1

pub line_accepted_read : (s os : List ℕ) → FrameIs s 0 os → (L : List Corner) → HullIs (corners_from origin (survivors os)) L
    → GivenLine s (Ok tt) → AnswerRead (line_answer s) (facts_of origin (survivors os)) L
line_accepted_read = line_call_laws.line_read

-- "each frame gives one line, ended by a line feed": there is none in an answer, and as many lines are written as are read
pub line_feeds : (s : List ℕ) → feeds_in (line_answer s) ≡ 0
line_feeds = line_laws.line_answer_feeds

pub program_lines : (s : List ℕ) → feeds_in (program s) ≡ lines_in s
program_lines = line_call_laws.program_lines

-- "19, retired kind, for any well-formed 01 frame, before its digits are judged"
pub retired : (s : List ℕ) (n : ℕ) → frame_of s ≡ Some (Turns, n) → line_answer s ≡ refused_line RetiredKind
retired = line_laws.line_answer-turns

-- ---- the converter
-- "each 01 frame as the 00 frame with the same steps": converted, it is answered as the steps of its turns are
pub converted-walked : (s : List ℕ) → Turned s
    → line_answer (converted_line s)
    ≡ answer_line (kind_walked Operations (steps_of (digits_of s))) (survivors (steps_of (digits_of s)))
converted-walked = converted_laws.converted_answer

-- the frame itself: of kind 00, with the same count and the steps of the turns
pub converted_frame : (s ts : List ℕ) → FrameIs s 1 ts → Below 4 ts
    → FrameIs (converted_line s) 0 (steps_of ts) × (length (steps_of ts) ≡ length ts)
converted_frame = line_call_laws.converted-is

pub turned_frame : (s ts : List ℕ) → FrameIs s 1 ts → Below 4 ts → Turned s
turned_frame = line_call_laws.turned

-- "other lines, 01 frames that cannot be converted .. as they came"
pub others_stay : (s : List ℕ) → (Turned s → ⊥) → converted_line s ≡ s
others_stay = converted_laws.converted_other

-- no line can be converted again
pub none_left : (s : List ℕ) → Turned (converted_line s) → ⊥
none_left = converted_laws.converted-none

-- whatever is done with the lines of a converted file is done with the lines converted: the line program answers each of these
pub converted_lines : (told last : List ℕ → List ℕ) (s : List ℕ)
    → output_from told last [] (converter s) ≡ output_from (λ l. told (converted_line l)) (λ l. last (converted_line l)) [] s
converted_lines = converted_laws.converter_then

pub converted_answers : (s : List ℕ)
    → program (converter s) ≡ output_from (λ l. answered (converted_line l)) (λ l. answered (converted_line l)) [] s
converted_answers = converted_laws.converter_then answered answered

-- a file converted twice is the file converted once
pub converted-twice : (s : List ℕ) → converter (converter s) ≡ converter s
converted-twice = converted_laws.converter-twice

-- "all line feeds as they came": as many, and the file is as long
pub converted_feeds : (s : List ℕ) → feeds_in (converter s) ≡ feeds_in s
converted_feeds = converted_laws.converter_feeds

pub converted-length : (s : List ℕ) → length (converter s) ≡ length s
converted-length = converted_laws.converter-length

-- ---- the rows program
-- each line has an answer, which is its spans or one of 9, 19, 4, 5, 7 and 12
pub rows_line_answers : (s : List ℕ) → (j : Judged) × GivenLineRoom s j
rows_line_answers = line_room_laws.line_room_given

pub rows_line_refused_exactly : (s : List ℕ) (q : Refusal) → refusal_place q < 16 ^ 8
    → rows_told s ≡ refused_told q ↔ GivenLineRoom s (Err q)
rows_line_refused_exactly s q h = (line_room_laws.refused_rows s q h, line_room_laws.rows_refused s q)

-- the spans are those of the panels inside the room
pub rows_line_exactly : (s os : List ℕ) → FrameIs s 0 os → (L : List Span) → RowsIs (Inside origin (survivors os)) L
    → rows_told s ≡ spans_told L ↔ GivenLineRoom s (Ok tt)
rows_line_exactly = line_room_laws.rows-when

-- and row, first and last panel of each are read back, one span on each line
pub rows_line_read : (s os : List ℕ) → FrameIs s 0 os → (L : List Span) → RowsIs (Inside origin (survivors os)) L
    → GivenLineRoom s (Ok tt) → SpansRead (rows_told s) L
rows_line_read = line_room_laws.spans_when

pub rows_line_refused_read : (s : List ℕ) (q : Refusal) → GivenLineRoom s (Err q)
    → (l : List ℕ) × (rows_told s ≡ l ++ (10 ∷ [])) × RefusalRead l q × (feeds_in l ≡ 0)
rows_line_refused_read = line_room_laws.rows_refusal

-- ---- the table of polygons
-- row n has a line's refusal exactly on its occasion, and none exactly if the line is accepted
pub row_refused_exactly : (s : List ℕ) (n : ℕ) → n < 10 ^ most_decimals → (q : Refusal)
    → (number_at (cell_of n ++ entry_of s) 1 ≡ refusal_number q) × (number_at (cell_of n ++ entry_of s) 2 ≡ refusal_place q)
    ↔ GivenLine s (Err q)
row_refused_exactly = line_row_laws.row_refused_exactly

pub row_accepted_exactly : (s : List ℕ) (n : ℕ) → n < 10 ^ most_decimals
    → number_at (cell_of n ++ entry_of s) 1 ≡ 0 ↔ GivenLine s (Ok tt)
row_accepted_exactly = line_row_laws.row_accepted_exactly

-- what is read in its cells: nothing after the refusal and its place if a line is refused
pub row_refused_read : (s : List ℕ) (n : ℕ) → n < 10 ^ most_decimals → (q : Refusal) → GivenLine s (Err q)
    → RefusedRow (cell_of n ++ entry_of s) n (refusal_number q) (refusal_place q)
row_refused_read = line_row_laws.row_refused

-- otherwise the facts, with the bytes of the polygon of a room, and no byte for a walk that is not a room
pub row-room-read : (s : List ℕ) (n : ℕ) → n < 10 ^ most_decimals → (os : List ℕ) → FrameIs s 0 os → GivenLine s (Ok tt)
    → IsRoom origin (survivors os)
    → RowRead (cell_of n ++ entry_of s) n 0 0 (facts_of origin (survivors os)) (polygon_of origin (survivors os))
row-room-read = line_row_laws.row_room

pub row_other_read : (s : List ℕ) (n : ℕ) → n < 10 ^ most_decimals → (os : List ℕ) → FrameIs s 0 os → GivenLine s (Ok tt)
    → (IsRoom origin (survivors os) → ⊥)
    → RowRead (cell_of n ++ entry_of s) n 0 0 (facts_of origin (survivors os)) []
row_other_read = line_row_laws.row_other

-- ---- an input in parts of every program that writes line by line: if the first part of an input ends in a line feed, the output
-- is that of the first part and then that of the second
pub output_in_parts : (told last : List ℕ → List ℕ) (s t : List ℕ)
    → output_from told last [] (s ++ (10 ∷ t)) ≡ output_from told last [] (s ++ (10 ∷ [])) ++ output_from told last [] t
output_in_parts = output_laws.output_parts

-- and so in any number of parts: each may be answered by a run of its own, anywhere, and the outputs put together in order are
-- the output of the whole
pub output_shared : (told last : List ℕ → List ℕ) (ss : List (List ℕ)) (t : List ℕ)
    → output_from told last [] (ended_parts ss ++ t) ≡ outputs_of (output_from told last []) ss ++ output_from told last [] t
output_shared = share_laws.outputs_shared

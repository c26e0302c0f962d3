-- Whatever the parts in which an input comes, what a program writes is its output for the whole; and what that output is.
-- Assumes nothing.
use mathlib.Core.Path.{◌≡◌, refl, sym, ap, ◌∙◌}
use mathlib.Core.List.{List, [], ◌∷◌, ◌++◌}
use Prim.Native.Nat.{ℕ, ◌<◌}
use lib.ListN.{length}
use Rattle.line_frame.specs.Program.{output_from, feeds_in, program}
use Rattle.line_frame.specs.Converted.{converter}
use Rattle.line_frame.proofs.OutputLaws.{output_line, output_last}
use Rattle.line_room.specs.Told.{rows_program}
use Rattle.line_stream.specs.Stream.{Run, ended, fed, joined}
use Rattle.line_stream.proofs.Demand as stream
use Rattle.sheet.specs.{declared.Margin.Margin, Sheet.sheet, Sheet.at_top}
use Rattle.sheet.proofs.NumberLaws.{page_append}
use Rattle.lines.specs.declared.Task.{Task, TheVariants.Answer, TheVariants.Convert, TheVariants.Rows, TheVariants.Enter}
use Rattle.lines.specs.Tasks.{job_of, fed_line_of, last_line_of, output_of, handed_of, margin_of, Handed, closed, passed, all_handed}
use Rattle.lines.proofs.TaskLaws.{job_does}

pub run_task : (t : Task) {o : List ℕ} {ss : List (List ℕ)} → Run (job_of t) [] ss o → o ≡ output_of t (joined ss)
run_task t = stream.run_output (job_does t)

-- of the line program that is its answers, of the converter its lines, of the rows program the spans of its rooms
pub run_program : {o : List ℕ} {ss : List (List ℕ)} → Run (job_of Answer) [] ss o → o ≡ program (joined ss)
run_program = run_task Answer

pub run_converter : {o : List ℕ} {ss : List (List ℕ)} → Run (job_of Convert) [] ss o → o ≡ converter (joined ss)
run_converter = run_task Convert

pub run_rows : {o : List ℕ} {ss : List (List ℕ)} → Run (job_of Rows) [] ss o → o ≡ rows_program (joined ss)
run_rows = run_task Rows

-- a line without a line feed in it, ended by one, is written, and then comes the output for the rest
pub output_of_line : (t : Task) (l s : List ℕ) → feeds_in l ≡ 0 → output_of t (l ++ (10 ∷ s)) ≡ fed_line_of t l ++ output_of t s
output_of_line t = output_line (fed_line_of t) (last_line_of t)

-- a last line that lacks it is written too
pub output_of_last : (t : Task) (l : List ℕ) → feeds_in l ≡ 0 → 0 < length l → output_of t l ≡ last_line_of t l
output_of_last t = output_last (fed_line_of t) (last_line_of t)

-- and there is nothing else
pub output_of_nil : (t : Task) → output_of t [] ≡ []
unfolding output_from
output_of_nil t = refl

-- what is passed on of two parts, one after the other
handed_append : (t : Task) (m : Margin) (r s : List ℕ) → handed_of t m (r ++ s) ≡ handed_of t m r ++ handed_of t (margin_of t m r) s
handed_append Answer m r s = refl
handed_append Convert m r s = refl
handed_append Rows m r s = refl
handed_append Enter m r s = page_append m r s

-- the parts are those of a run, and what is passed on is what is passed on of its output
handed_run : (t : Task) {m : Margin} {h o : List ℕ} {ss : List (List ℕ)} → Handed t m h ss o → (w : List ℕ) × (Run (job_of t) h ss w × (o ≡ handed_of t m w))
handed_run t {m} {h} closed = ((job_of t).last h, (ended, refl))
handed_run t {m} {h} (passed {ss = ss} s w h' f r) =
    let k = handed_run t r in
    (w ++ k.0, (fed s w h' f k.1.0, ap (λ (l : List ℕ). handed_of t m w ++ l) k.1.1 ∙ sym (handed_append t m w k.0)))

-- whatever the parts in which an input comes, what is passed on, one after the other, is the whole
pub handed_whole : (t : Task) {o : List ℕ} {ss : List (List ℕ)} → Handed t at_top [] ss o → o ≡ all_handed t (joined ss)
handed_whole t h =
    let k = handed_run t h in
    k.1.1 ∙ ap (handed_of t at_top) (run_task t k.1.0)

-- of the table of polygons that is the sheet: its header once, and then a row for each line, numbered from 1 on
pub handed_sheet : {o : List ℕ} {ss : List (List ℕ)} → Handed Enter at_top [] ss o → o ≡ sheet (joined ss)
handed_sheet = handed_whole Enter

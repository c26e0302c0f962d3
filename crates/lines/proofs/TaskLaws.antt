-- The programs' tasks: each does what it should, and writes no more than the buffer holds.
-- Assumes nothing.
use Rattle.std.specs.Prelude.{Err}
use mathlib.Core.Path.{◌≡◌, refl, sym, ap, ◌∙◌, subst}
use mathlib.Core.List.{List, [], ◌∷◌, ◌++◌}
use Prim.Native.Nat.{ℕ, ◌+◌, ◌<◌, ◌≤◌}
use native.Mathlib.Omega.{arith}
use native.Mathlib.Decide.{dec_le}
use lib.ListN.{length, take, length-append}
use lib.Seq.{length-take-le, take_all}
use Rattle.answer.specs.declared.Refusal.TheVariants.{BadLine}
use Rattle.line_frame.specs.Sizes.{most_line, most_held, most_answer}
use Rattle.line_frame.specs.Program.{answered}
use Rattle.line_frame.specs.Converted.{converted_line}
use Rattle.line_frame.proofs.LineLaws.{line_answer-long, line_answer_most}
use Rattle.line_frame.proofs.ConvertedLaws.{converted-long, converted_nil, converted-length}
use Rattle.line_room.specs.Told.{refused_told, rows_told, most_rows}
use Rattle.line_room.proofs.ToldLaws.{rows_told-long, rows_told_most}
use Rattle.line_fields.specs.Put.{Wrote}
use Rattle.line_fields.proofs.PutLaws.{wrote_nil}
use Rattle.line_frame.specs.Begun.{kept_of}
use Rattle.line_stream.specs.Stream.{told_of, Does, most_part}
use Rattle.line_stream.proofs.JobLaws.{each_does, each_most}
use Rattle.line_stream.proofs.JobLaws as job_laws
use Rattle.line_stream.proofs.PassLaws as pass_laws
use Rattle.sheet.specs.Sizes.{most_entry}
use Rattle.sheet.specs.Entry.{entry_by}
use Rattle.sheet.specs.Sheet.{entered}
use Rattle.sheet.proofs.EntryLaws.{entry_of-long, entered_most}
use Rattle.lines.specs.declared.Task.{Task, TheVariants.Answer, TheVariants.Convert, TheVariants.Rows, TheVariants.Enter}
use Rattle.lines.specs.Tasks.{most_early, most_told, job_of, fed_line_of, last_line_of}

-- what is kept of a line gives the same, if all lines that are longer than a frame do
kept_same : (f : List ℕ → List ℕ) (b : List ℕ) → ((s : List ℕ) → most_line < length s → f s ≡ b) → (s : List ℕ) → f (kept_of s) ≡ f s
kept_same f b long s =
    elim (dec_le (length s) most_held) [
      | yes e ↦ ap f (take_all most_held s e)
      | no n ↦ long (kept_of s) (omega (arith, length-take-le most_held s (omega (arith, n)))) ∙ sym (long s (omega (arith, n)))
    ]

answered-long : (s : List ℕ) → most_line < length s → answered s ≡ refused_told BadLine
answered-long s h = ap (λ (l : List ℕ). l ++ (10 ∷ [])) (line_answer-long s h)

entered-long : (s : List ℕ) → most_line < length s → entered s ≡ entry_by (Err BadLine) [] ++ (10 ∷ [])
entered-long s h = ap (λ (l : List ℕ). l ++ (10 ∷ [])) (entry_of-long s h)

answered_most : (s : List ℕ) → length (answered s) ≤ most_answer
answered_most s = simp length-append (omega (arith, line_answer_most s))

-- each job does what is to be written for a line
pub job_does : (t : Task) → Does (job_of t) (fed_line_of t) (last_line_of t)
job_does Answer = each_does answered most_answer (kept_same answered (refused_told BadLine) answered-long)
job_does Convert = pass_laws.passes_does converted_line (most_early Convert + most_told Convert) converted-long converted_nil
job_does Rows = each_does rows_told most_rows (kept_same rows_told (refused_told BadLine) rows_told-long)
job_does Enter = each_does entered most_entry (kept_same entered (entry_by (Err BadLine) [] ++ (10 ∷ [])) entered-long)

told_most : (t : Task) (h s : List ℕ) → length h ≤ most_held → length s ≤ most_part → length (told_of (job_of t) h s) ≤ (job_of t).most
told_most Answer h s a b = each_most answered most_answer answered_most h s
told_most Convert h s a b = omega (arith, pass_laws.passes_most converted_line (most_early Convert + most_told Convert) converted-length h s)
told_most Rows h s a b = each_most rows_told most_rows rows_told_most h s
told_most Enter h s a b = each_most entered most_entry entered_most h s

pub last_most : (t : Task) (h : List ℕ) → length h ≤ most_held → length ((job_of t).last h) ≤ most_told t
last_most Answer h a = job_laws.last_most answered most_answer answered_most h
last_most Convert h a = omega (arith, pass_laws.passes-last converted_line (most_early Convert + most_told Convert) converted-length h)
last_most Rows h a = job_laws.last_most rows_told most_rows rows_told_most h
last_most Enter h a = job_laws.last_most entered most_entry entered_most h

module _ (t : Task) (h s : List ℕ) (held : length h ≤ most_held) (part : length s ≤ most_part) where
  pub room_line : (used : ℕ) {n : ℕ} → used + (job_of t).most ≤ n → used + length (told_of (job_of t) h s) ≤ n
  room_line used r = omega (arith, r, told_most t h s held part)

-- if nothing is held, nothing is written at the end
last_nil : (t : Task) → (job_of t).last [] ≡ []
last_nil Answer = refl
last_nil Convert = converted_nil
last_nil Rows = refl
last_nil Enter = refl

pub last_none : (t : Task) (line out : List ℕ) (held : ℕ) → held < 1 → Wrote ((job_of t).last (take held line)) 0 out 0 out
last_none t line out held h =
    let z : 0 ≡ held = omega arith in
    subst (λ (n : ℕ). Wrote ((job_of t).last (take n line)) 0 out 0 out) z (subst (λ (l : List ℕ). Wrote l 0 out 0 out) (sym (last_nil t)) (wrote_nil 0 out))

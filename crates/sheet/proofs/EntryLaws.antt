-- What is said of a line: by its walk, for a line that is too long, and how much it is at most.
-- Assumes nothing.
use Rattle.std.specs.Prelude.{Err, Option, Some, None}
use mathlib.Core.Path.{◌≡◌, refl, sym, ap}
use mathlib.Core.List.{List, [], ◌∷◌}
use Prim.Native.Nat.{ℕ, ◌+◌, ◌<◌, ◌≤◌}
use native.Mathlib.Omega.{arith}
use lib.ListN.{length, length-append}
use Rattle.answer.specs.Answers.{Answer}
use Rattle.answer.specs.declared.Refusal.TheVariants.{BadLine}
use Rattle.steps.specs.Operations.{survivors}
use Rattle.steps.proofs.SurvivorLaws.{length-survivors}
use Rattle.line_frame.specs.Sizes.{most_line}
use Rattle.line_frame.specs.Line.{frame_of, digits_of, line_walked}
use Rattle.line_frame.proofs.LineLaws.{frame_of-long, frame_good, length-digits_of}
use Rattle.line_room.proofs.WalkedLaws.{line_walked-by}
use Rattle.sheet.specs.Sizes.{most_entry}
use Rattle.sheet.specs.Entry.{entry_by, entry_of}
use Rattle.sheet.specs.Sheet.{entered}
use Rattle.sheet.proofs.SizeLaws.{entry_by_most}
use Rattle.line_frame.specs.declared.Kind.{Kind}

pub entry_of-by : (s : List ℕ) (a : Answer) → line_walked s ≡ a → entry_by a (survivors (digits_of s)) ≡ entry_of s
unfolding entry_of
entry_of-by s a e = ap (λ (b : Answer). entry_by b (survivors (digits_of s))) (sym e)

pub entry_of-long : (s : List ℕ) → most_line < length s → entry_of s ≡ entry_by (Err BadLine) []
entry_of-long s h = sym (entry_of-by s (Err BadLine) (sym (line_walked-by s None (frame_of-long s h))))

-- it is not longer than the limit, with its line feed
entry_of_most : (s : List ℕ) → length (entry_of s) + 1 ≤ most_entry
unfolding entry_of
entry_of_most s = by (frame_of s) refl
  where
    by : (f : Option (Kind × ℕ)) → frame_of s ≡ f → length (entry_by (line_walked s) (survivors (digits_of s))) + 1 ≤ most_entry
    by (Some (k, n)) e =
        let g = frame_good s k n e in
        entry_by_most (line_walked s) (survivors (digits_of s)) (omega (arith, length-survivors [] (digits_of s), length-digits_of s n g.size, g.most))
    by None e = omega (arith, ap (λ (a : Answer). length (entry_by a (survivors (digits_of s)))) (sym (line_walked-by s None e)), entry_by_most (Err BadLine) [] (omega arith))

pub entered_most : (s : List ℕ) → length (entered s) ≤ most_entry
entered_most s = omega (arith, length-append (entry_of s) (10 ∷ []), entry_of_most s)

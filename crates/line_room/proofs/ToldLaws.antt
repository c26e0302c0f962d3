-- What the rows program writes for a line: by its walk, how much it is at most, for a line that is longer than a frame, and each line's occasion.
-- Assumes nothing.
use Rattle.std.specs.Prelude.{Err, Ok, Option, Some, None}
use mathlib.Core.Path.{◌≡◌, refl, sym, ap, ◌∙◌}
use mathlib.Core.Bool.{Bool, true, false, not}
use mathlib.Core.List.{List, [], ◌∷◌, ◌++◌}
use Prim.Native.Nat.{ℕ, zero, suc, ◌*◌, ◌<◌, ◌≤◌}
use native.Mathlib.Omega.{arith}
use lib.ListN.{length, length-append}
use Rattle.answer.specs.Answers.{Answer, Judged}
use Rattle.grid.specs.declared.Corner.{Corner}
use Rattle.grid.specs.Grid.{origin, stepped}
use Rattle.answer.specs.declared.{Facts.Facts, Refusal.Refusal, Refusal.TheVariants.BadLine, Refusal.TheVariants.NotRoom}
use Rattle.answer.specs.Refusal.{when}
use Rattle.steps.specs.Operations.{survivors}
use Rattle.steps.proofs.SurvivorLaws.{length-survivors}
use Rattle.trace.specs.Verdict.{IsRoom}
use Rattle.steps.proofs.ChainLaws.{walk_good}
use Rattle.room.specs.Room.{is_room, as_room_judged}
use Rattle.room.proofs.RoomLaws.{is_room_exactly, judged-room, good_room}
use Rattle.panels.specs.Inside.{Inside}
use Rattle.row.specs.Rows.{Span, RowsIs}
use Rattle.row_laws.specs.Feet.{rows_of}
use Rattle.row_laws.proofs.{RoomLaws.feet_from, RowLaws.rows_is_rows_of, SortedLaws.room-count}
use Rattle.line_frame.specs.Sizes.{most_digits, most_line}
use Rattle.line_frame.specs.Line.{frame_of, digits_of, line_answer, line_walked}
use Rattle.line_frame.specs.Spelled.{refused_line, numbers_line}
use Rattle.line_frame.proofs.LineLaws.{frame_good, length-digits_of}
use Rattle.line_frame.proofs.SpelledLaws.{length-refused_line, length-numbers_line}
use Rattle.line_room.specs.Told.{spans_told, refused_told, room_told, walk_told, rows_told, most_rows}
use Rattle.line_room.proofs.WalkedLaws.{line_walked-by, line_walked-long, line_answer-walked, line_sound}
use Rattle.line_frame.specs.declared.Kind.{Kind}

-- by the walk
pub rows_told-by : (s : List ℕ) (a : Answer) → line_walked s ≡ a → walk_told a (survivors (digits_of s)) ≡ rows_told s
unfolding rows_told
rows_told-by s a e = sym (ap (λ (b : Answer). walk_told b (survivors (digits_of s))) e)

-- a line that is longer than a frame is refused
pub rows_told-long : (s : List ℕ) → most_line < length s → rows_told s ≡ refused_told BadLine
rows_told-long s h = sym (rows_told-by s (Err BadLine) (line_walked-long s h))

-- a span takes 13 bytes, a refusal 11
pub length-spans_told : (l : List Span) → length (spans_told l) ≡ 13 * length l
unfolding spans_told
length-spans_told [] = refl
length-spans_told (s ∷ l) =
    let z = s.row ∷ s.first ∷ s.last ∷ [] in
    omega (arith, length-append (numbers_line z ++ (10 ∷ [])) (spans_told l), length-append (numbers_line z) (10 ∷ []), length-numbers_line z, length-spans_told l)

pub length-refused_told : (r : Refusal) → length (refused_told r) ≡ 11
length-refused_told r = omega (arith, length-append (refused_line r) (10 ∷ []), length-refused_line r)

feet_few : (c : Corner) (ds : List ℕ) → length (feet_from c ds) ≤ length ds
feet_few c [] = omega arith
feet_few c (zero ∷ ds) = omega (arith, feet_few (stepped 0 c) ds)
feet_few c (suc zero ∷ ds) = omega (arith, feet_few (stepped 1 c) ds)
feet_few c (suc (suc zero) ∷ ds) = omega (arith, feet_few (stepped 2 c) ds)
feet_few c (suc (suc (suc d)) ∷ ds) = omega (arith, feet_few (stepped (suc (suc (suc d))) c) ds)

-- a room has at most half as many spans as steps
pub rows_few : (c : Corner) (ds : List ℕ) → as_room_judged c ds ≡ Ok tt → 2 * length (rows_of c ds) ≤ length ds
rows_few c ds g = omega (arith, room-count c ds (good_room c ds g).room, feet_few c ds)

room_told_most : (j : Judged) (ds : List ℕ) → as_room_judged origin ds ≡ j → length ds ≤ most_digits → length (room_told j ds) ≤ most_rows
room_told_most (Ok _) ds e h = omega (arith, length-spans_told (rows_of origin ds), rows_few origin ds e)
room_told_most (Err r) ds e h = omega (arith, length-refused_told r)

walk_told_most : (a : Answer) (ds : List ℕ) → length ds ≤ most_digits → length (walk_told a ds) ≤ most_rows
walk_told_most (Ok f) ds h = room_told_most (as_room_judged origin ds) ds refl h
walk_told_most (Err r) ds h = omega (arith, length-refused_told r)

-- no line gives more
pub rows_told_most : (s : List ℕ) → length (rows_told s) ≤ most_rows
unfolding rows_told
rows_told_most s = by (frame_of s) refl
  where
    by : (f : Option (Kind × ℕ)) → frame_of s ≡ f → length (walk_told (line_walked s) (survivors (digits_of s))) ≤ most_rows
    by (Some (k, n)) e =
        let g = frame_good s k n e in
        walk_told_most (line_walked s) (survivors (digits_of s)) (omega (arith, length-survivors [] (digits_of s), length-digits_of s n g.size, g.most))
    by None e = omega (arith, ap (λ (a : Answer). length (walk_told a (survivors (digits_of s)))) (sym (line_walked-by s None e)), length-refused_told BadLine)

-- a walk that is refused has the refusal of the line program, as its line
pub refused_told_lem : (s : List ℕ) (r : Refusal) → line_walked s ≡ Err r → (rows_told s ≡ refused_told r) × (line_answer s ≡ refused_line r)
refused_told_lem s r e = (sym (rows_told-by s (Err r) e), sym (line_answer-walked s (Err r) e))

-- of one that is accepted the surviving steps are a room or not
module _ (s : List ℕ) (f : Facts) (e : line_walked s ≡ Ok f) where
  abbrev left : List ℕ
  left = survivors (digits_of s)

  told_by : (b : Bool) → is_room origin left ≡ b → rows_told s ≡ room_told (when (not b) NotRoom) left
  told_by b h =
      sym (rows_told-by s (Ok f) e)
      ∙ ap (λ (j : Judged). room_told j left) (judged-room origin left (walk_good origin left refl (line_sound s f e)) ∙ ap (λ (c : Bool). when (not c) NotRoom) h)

  -- its spans are the list of the panels inside it
  pub room_told_lem : IsRoom origin left → (L : List Span) → RowsIs (Inside origin left) L → rows_told s ≡ spans_told L
  room_told_lem r L k = told_by true ((is_room_exactly origin left).1 r) ∙ ap spans_told (sym (rows_is_rows_of origin left L r.closed k))

  -- what is none is refusal 12
  pub not_room_told : (IsRoom origin left → ⊥) → rows_told s ≡ refused_told NotRoom
  not_room_told n = by (is_room origin left) refl
    where
      by : (b : Bool) → is_room origin left ≡ b → rows_told s ≡ refused_told NotRoom
      by true h = absurd (n ((is_room_exactly origin left).0 h))
      by false h = told_by false h

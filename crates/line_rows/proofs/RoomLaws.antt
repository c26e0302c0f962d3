-- The rows call for the steps of a frame: the numbers that it leaves give the spans of the room, and its refusal is the room's.
-- Assumes nothing.
use Rattle.std.specs.Prelude.{Err, Ok}
use mathlib.Core.Path.{◌≡◌, refl, ap, ◌∙◌}
use mathlib.Core.List.{List, ◌++◌}
use Prim.Native.Nat.{ℕ, ◌*◌, ◌≤◌}
use native.Mathlib.Omega.{arith}
use borrow.Author.Tests.{le-ltb}
use lib.IntN.{ℤ}
use lib.ListN.{length, drop}
use Rattle.answer.specs.Answers.{Counted, Judged}
use Rattle.grid.specs.Grid.{origin}
use Rattle.answer.specs.declared.{Refusal.Refusal, Refusal.TheVariants.SpanRoom}
use Rattle.answer.specs.Refusal.{when}
use Rattle.answer.specs.Listed.{counted_of, laid_if}
use Rattle.room.specs.Room.{as_room_judged}
use Rattle.room.proofs.RoomLaws.{good_room}
use Rattle.row.specs.{Rows.span_numbers, Call.rows_judged, Call.RowsCall}
use Rattle.row_laws.specs.Feet.{rows_of}
use Rattle.row_laws.proofs.{RowLaws.rows_is_rows_of, CallLaws.rows_refused, CallLaws.rows-room}
use Rattle.line_frame.specs.Sizes.{most_digits, hull_numbers}
use Rattle.line_room.specs.Told.{spans_told, refused_told, room_told, most_rows}
use Rattle.line_room.proofs.ToldLaws.{rows_few}
use Rattle.line_rows.specs.Numbers.{threes_told}
use Rattle.line_rows.proofs.ThreeLaws.{threes_spans}

module _ {ds : List ℕ} {before after : List ℤ} {r : Counted} (w : RowsCall origin ds before r after) (few : length ds ≤ most_digits) (room : length before ≡ hull_numbers) where
  module _ (g : as_room_judged origin ds ≡ Ok tt) where
    list_is : w.list ≡ rows_of origin ds
    list_is = rows_is_rows_of origin ds w.list (good_room origin ds g).room.closed (w.rows g)

    enough : 3 * length w.list ≤ length before
    enough = omega (arith, ap length list_is, rows_few origin ds g)

    judged : rows_judged origin ds (length before) (length w.list) ≡ Ok tt
    judged = rows-room origin ds (length before) (length w.list) g ∙ ap (λ b. when b SpanRoom) (le-ltb (length before) (3 * length w.list) enough)

    answered : r ≡ Ok (length w.list)
    answered = w.answer ∙ ap (λ (j : Judged). counted_of j (length w.list)) judged

    left : after ≡ span_numbers w.list ++ drop (length (span_numbers w.list)) before
    left = w.buffer ∙ ap (λ (j : Judged). laid_if j (span_numbers w.list) before) judged

  refused : (q : Refusal) → as_room_judged origin ds ≡ Err q → r ≡ Err q
  refused q e = w.answer ∙ ap (λ (j : Judged). counted_of j (length w.list)) (rows_refused origin ds (length before) (length w.list) q e)

  -- this many spans: the buffer has their numbers, and lines of three are the lines of the room
  pub room_listed : (n : ℕ) → r ≡ Ok n → (3 * n ≤ length before) × (13 * n ≤ most_rows) × (threes_told n after ≡ room_told (as_room_judged origin ds) ds)
  room_listed n e = by (as_room_judged origin ds) refl
    where
      by : (j : Judged) → as_room_judged origin ds ≡ j → (3 * n ≤ length before) × (13 * n ≤ most_rows) × (threes_told n after ≡ room_told j ds)
      by (Ok _) g =
          let k : n ≡ length w.list = cc (answered g) in
          let m = rows_few origin ds g in
          let l = ap length (list_is g) in (
            omega (arith, enough g),
            omega arith,
            ap (λ (k : ℕ). threes_told k after) k ∙ ap (threes_told (length w.list)) (left g) ∙ threes_spans w.list (drop (length (span_numbers w.list)) before) ∙ ap spans_told (list_is g),
          )
      by (Err q) g = let z : ◌≡◌ {A = ℕ} 0 1 = cc (refused q g) in absurd (omega arith)

  -- a refusal is that of the room
  pub room_refused : (q : Refusal) → r ≡ Err q → refused_told q ≡ room_told (as_room_judged origin ds) ds
  room_refused q e = by (as_room_judged origin ds) refl
    where
      by : (j : Judged) → as_room_judged origin ds ≡ j → refused_told q ≡ room_told j ds
      by (Ok _) g = let z : ◌≡◌ {A = ℕ} 0 1 = cc (answered g) in absurd (omega arith)
      by (Err x) g = let k : q ≡ x = cc (refused x g) in ap refused_told k

-- What the rows call answers, and what it leaves in the buffer (RULES 14.4, 14.5). Assumes nothing.
use Rattle.std.specs.Prelude.{◌≡◌, List, [], ◌∷◌, length, ℕ, ◌*◌, ltb, Ok, ℤ}
use Rattle.answer.specs.Answers.{Counted, Judged}
use Rattle.grid.specs.declared.Corner.{Corner}
use Rattle.answer.specs.declared.{Refusal.TheVariants.SpanRoom}
use Rattle.answer.specs.{Refusal.when, Refusal.first_of, Listed.counted_of, Listed.laid_if}
use Rattle.room.specs.Room.{as_room_judged}
use Rattle.panels.specs.Inside.{Inside}
use Rattle.row.specs.Rows.{Span, RowsIs, span_numbers}

-- 21 if the buffer has fewer than three numbers for each span
abbrev pub span_room_judged : ℕ → ℕ → Judged
span_room_judged size spans = when (ltb size (3 * spans)) SpanRoom

-- the refusals of a room, then 21
abbrev pub rows_judged : Corner → List ℕ → ℕ → ℕ → Judged
rows_judged c ds size spans = first_of (as_room_judged c ds ∷ span_room_judged size spans ∷ [])

-- the promise of the call: `list` has the panels inside the room by rows. What is not a room is refused, whatever its list
pub record RowsCall (c : Corner) (ds : List ℕ) (before : List ℤ) (r : Counted) (after : List ℤ) : Type 0 where
  pub list : List Span
  pub rows : as_room_judged c ds ≡ Ok tt → RowsIs (Inside c ds) list
  pub answer : r ≡ counted_of (rows_judged c ds (length before) (length list)) (length list)
  pub buffer : after ≡ laid_if (rows_judged c ds (length before) (length list)) (span_numbers list) before

-- When each answer of the rows call is given (RULES 14.5).
-- Assumes nothing.
use Rattle.std.specs.Prelude.{List, ℕ, ◌*◌, ◌<◌, ◌≤◌, Err, Ok, length}
use Rattle.answer.specs.Answers.{Counted}
use Rattle.answer.specs.declared.Refusal.{Refusal}
use Rattle.answer.specs.declared.Refusal.TheVariants.{SpanRoom}
use Rattle.grid.specs.declared.Corner.{Corner}
use Rattle.panels.specs.Inside.{Inside}
use Rattle.row.specs.Rows.{Span, RowsIs}
use Rattle.demands.specs.GivenRoom.{GivenRoom}

-- the occasion of each answer if the buffer has this many numbers: the refusals of a room, then 21; otherwise the number of spans
pub data GivenRows (c : Corner) (ds : List ℕ) (size : ℕ) : Counted → Type 0 where
  refused : (q : Refusal) → GivenRoom c ds (Err q) → GivenRows c ds size (Err q)
  span_room : GivenRoom c ds (Ok tt) → (L : List Span) → RowsIs (Inside c ds) L → size < 3 * length L
      → GivenRows c ds size (Err SpanRoom)
  listed : GivenRoom c ds (Ok tt) → (L : List Span) → RowsIs (Inside c ds) L → 3 * length L ≤ size
      → GivenRows c ds size (Ok (length L))

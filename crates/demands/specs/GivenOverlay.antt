-- When each answer of the call on two rooms is given (RULES 16.5).
-- Assumes nothing.
use Rattle.std.specs.Prelude.{List, ℕ, ◌*◌, ◌<◌, ◌≤◌, Err, Ok, length}
use Rattle.overlay.specs.Answers.{Overlaid}
use Rattle.answer.specs.declared.Refusal.{Refusal}
use Rattle.answer.specs.declared.Refusal.TheVariants.{SpanRoom}
use Rattle.grid.specs.declared.Corner.{Corner}
use Rattle.row.specs.Rows.{Span, RowsIs}
use Rattle.overlay.specs.declared.{Part.Part}
use Rattle.overlay.specs.{Overlay.InPart, Call.measures_of}
use Rattle.demands.specs.GivenRoom.{GivenRoom}

-- the three lists
abbrev pub PartsAre : Corner → List ℕ → Corner → List ℕ → (Part → List Span) → Type 0
PartsAre c ds e es L = (k : Part) → RowsIs (InPart k c ds e es) (L k)

-- the occasion of each answer if the buffer of each part has this many numbers: the refusals of the first room, then those of the
-- second, then 21; otherwise how many panels and spans each list has
pub data GivenOverlay (c : Corner) (ds : List ℕ) (e : Corner) (es : List ℕ) (size : Part → ℕ) : Overlaid → Type 0 where
  first_none : (q : Refusal) → GivenRoom c ds (Err q) → GivenOverlay c ds e es size (Err q)
  second_none : (q : Refusal) → GivenRoom c ds (Ok tt) → GivenRoom e es (Err q)
      → GivenOverlay c ds e es size (Err q)
  span_room : GivenRoom c ds (Ok tt) → GivenRoom e es (Ok tt) → (L : Part → List Span) → PartsAre c ds e es L → (k : Part)
      → size k < 3 * length (L k) → GivenOverlay c ds e es size (Err SpanRoom)
  listed : GivenRoom c ds (Ok tt) → GivenRoom e es (Ok tt) → (L : Part → List Span) → PartsAre c ds e es L
      → ((k : Part) → 3 * length (L k) ≤ size k) → GivenOverlay c ds e es size (Ok (measures_of L))

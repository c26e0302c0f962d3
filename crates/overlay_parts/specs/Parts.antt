-- What is answered and left in the buffers for the parts of two lists of spans.
-- Assumes nothing.
use Rattle.std.specs.Prelude.{List, [], ◌∷◌, ◌≡◌, ◌*◌, ◌≤◌, ℤ, length}
use Rattle.overlay.specs.Answers.{Overlaid}
use Rattle.answer.specs.Answers.{Judged}
use Rattle.answer.specs.Refusal.{first_of}
use Rattle.answer.specs.Listed.{laid_if}
use Rattle.row.specs.{Rows.Span, Rows.span_numbers}
use Rattle.overlay.specs.declared.{Part.Part, Part.TheVariants.First, Part.TheVariants.Second, Part.TheVariants.Both}
use Rattle.overlay.specs.Call.{part_room_judged, overlaid_of}

-- each buffer is long enough for its list
abbrev pub HaveRoom : (Part → List Span) → (Part → List ℤ) → Type 0
HaveRoom lists before = (k : Part) → 3 * length (lists k) ≤ length (before k)

-- 21 for any of the three lists
abbrev pub parts_judged : (Part → List ℤ) → (Part → List Span) → Judged
parts_judged before lists =
    first_of (part_room_judged before lists First ∷ part_room_judged before lists Second ∷ part_room_judged before lists Both
    ∷ [])

-- the answer and the buffers by the three lists
pub record PartsCall (lists : Part → List Span) (before : Part → List ℤ) (r : Overlaid) (after : Part → List ℤ) : Type 0 where
  pub answer : r ≡ overlaid_of (parts_judged before lists) lists
  pub buffers : (k : Part) → after k ≡ laid_if (parts_judged before lists) (span_numbers (lists k)) (before k)

-- What the call that lists the parts of two rooms answers, and what it leaves in the three buffers (RULES 16.3 to 16.6). Assumes
-- nothing.
use Rattle.std.specs.Prelude.{◌≡◌, List, [], ◌∷◌, length, ℕ, Err, Ok, ℤ}
use Rattle.overlay.specs.Answers.{Overlaid}
use Rattle.answer.specs.Answers.{Judged}
use Rattle.grid.specs.declared.Corner.{Corner}
use Rattle.answer.specs.{Refusal.first_of, Refusal.refusal_number, Refusal.refusal_place, Listed.laid_if}
use Rattle.room.specs.Room.{as_room_judged}
use Rattle.row.specs.{Rows.Span, Rows.RowsIs, Rows.lengths_of, Call.span_room_judged, Rows.span_numbers}
use Rattle.overlay.specs.declared.{Part.Part, Part.TheVariants.First, Part.TheVariants.Second, Part.TheVariants.Both, Measure.Measure, Measures.Measures}
use Rattle.overlay.specs.Overlay.{InPart}

-- what belongs to each part, in their order
abbrev pub of_parts : {A : Type 0} → A → A → A → Part → A
of_parts a b c First = a
of_parts a b c Second = b
of_parts a b c Both = c

-- 21 if the buffer of a part is too short for its spans
abbrev pub part_room_judged : (Part → List ℤ) → (Part → List Span) → Part → Judged
part_room_judged before lists k = span_room_judged (length (before k)) (length (lists k))

-- the refusals of the first room, then those of the second, then 21 for any of the three lists
abbrev pub overlay_judged : Corner → List ℕ → Corner → List ℕ → (Part → List ℤ) → (Part → List Span) → Judged
overlay_judged c ds e es before lists =
    first_of (as_room_judged c ds ∷ as_room_judged e es ∷ part_room_judged before lists First
    ∷ part_room_judged before lists Second
    ∷ part_room_judged before lists Both ∷ [])

-- how many panels and how many spans a list has, and each of three lists
abbrev pub measure_of : List Span → Measure
measure_of L = record { panels = lengths_of L; spans = length L }

abbrev pub measures_of : (Part → List Span) → Measures
measures_of lists =
    record { first = measure_of (lists First); second = measure_of (lists Second); both = measure_of (lists Both) }

-- those of the three lists, unless there is a refusal
abbrev pub overlaid_of : Judged → (Part → List Span) → Overlaid
overlaid_of (Ok _) lists = Ok (measures_of lists)
overlaid_of (Err r) lists = Err r

-- the promise of the call: `lists` has the panels of each part by rows. What is not two rooms is refused, whatever the lists
pub record OverlayCall (c : Corner) (ds : List ℕ) (e : Corner) (es : List ℕ) (before : Part → List ℤ) (r : Overlaid)
    (after : Part → List ℤ) : Type 0 where
  pub lists : Part → List Span
  pub rows : as_room_judged c ds ≡ Ok tt → as_room_judged e es ≡ Ok tt → (k : Part) → RowsIs (InPart k c ds e es) (lists k)
  pub answer : r ≡ overlaid_of (overlay_judged c ds e es before lists) lists
  pub buffers : (k : Part) → after k ≡ laid_if (overlay_judged c ds e es before lists) (span_numbers (lists k)) (before k)

-- number, place, the panels of the three parts, and their spans
abbrev pub overlaid_words : Overlaid → List ℕ
overlaid_words (Ok m) =
    0 ∷ 0 ∷ m.first.panels ∷ m.second.panels ∷ m.both.panels ∷ m.first.spans ∷ m.second.spans ∷ m.both.spans ∷ []
overlaid_words (Err r) = refusal_number r ∷ refusal_place r ∷ 0 ∷ 0 ∷ 0 ∷ 0 ∷ 0 ∷ 0 ∷ []

-- the refusal's number, 0 if there is none
abbrev pub overlaid_number : Overlaid → ℕ
overlaid_number (Ok m) = 0
overlaid_number (Err r) = refusal_number r

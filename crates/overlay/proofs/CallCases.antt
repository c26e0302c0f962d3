-- The refusals of two rooms, and what is answered and written, computed.
-- Assumes nothing.
use Rattle.std.specs.Prelude.{Err, Ok}
use mathlib.Core.List.{List, [], ◌∷◌}
use mathlib.Core.Path.{◌≡◌, refl, ap, ◌∙◌}
use Prim.Native.Nat.{ℕ}
use lib.IntN.{ℤ, pos}
use Rattle.overlay.specs.Answers.{Overlaid}
use Rattle.answer.specs.Answers.{Judged}
use Rattle.answer.specs.declared.{Refusal.TheVariants.BadDigit, Refusal.TheVariants.NotRoom, Refusal.TheVariants.SpanRoom}
use Rattle.answer.specs.Listed.{laid_if}
use Rattle.grid.specs.Grid.{origin}
use Rattle.row.specs.{Rows.Span, Rows.span_numbers}
use Rattle.overlay.specs.declared.{Part.Part, Part.TheVariants.First, Part.TheVariants.Second}
use Rattle.overlay.specs.Call.{of_parts, overlay_judged, overlaid_of, OverlayCall, overlaid_words, overlaid_number}
use Rattle.overlay.proofs.OverlayCases.{one}

abbrev span : ℕ → ℕ → Span
span a b = record { row = pos 0; first = pos a; last = pos b }

-- three lists: a span of two panels, one of two and one of one, none
abbrev lists : Part → List Span
lists = of_parts (span 8 9 ∷ []) (span 1 2 ∷ span 4 4 ∷ []) []

abbrev three : List ℤ
three = pos 7 ∷ pos 7 ∷ pos 7 ∷ []

abbrev five : List ℤ
five = pos 7 ∷ pos 7 ∷ three

-- the buffers: just enough for the first list, b for the second, and nothing for the third
abbrev buffers : List ℤ → Part → List ℤ
buffers b = of_parts three b []

abbrev judged : List ℕ → List ℕ → List ℤ → Judged
judged ds es b = overlay_judged origin ds origin es (buffers b) lists

-- the first room's last refusal comes before the second's first
first-room-first : judged (0 ∷ 2 ∷ []) (0 ∷ 9 ∷ []) [] ≡ Err NotRoom
first-room-first = refl

-- and the second's before a buffer that is too short
rooms_before-buffers : judged one (0 ∷ 9 ∷ []) [] ≡ Err (BadDigit 1)
rooms_before-buffers = refl

-- any list can be too long for its buffer; an empty one needs no buffer
short_for_one : judged one one five ≡ Err SpanRoom
short_for_one = refl

room_for_all : judged one one (pos 7 ∷ five) ≡ Ok tt
room_for_all = refl

-- one list is too long: the other is not written either
one-short : {r : Overlaid} {after : Part → List ℤ} (w : OverlayCall origin one origin one (buffers five) r after) → w.lists ≡ lists → after First ≡ three
one-short w e = w.buffers First ∙ ap (λ (L : Part → List Span). laid_if (overlay_judged origin one origin one (buffers five) L) (span_numbers (L First)) three) e

-- the number after a list stays
number_behind : laid_if (judged one one (pos 7 ∷ pos 7 ∷ five)) (span_numbers (lists Second)) (pos 7 ∷ pos 7 ∷ five) ≡ pos 0 ∷ pos 1 ∷ pos 2 ∷ pos 0 ∷ pos 4 ∷ pos 4 ∷ pos 7 ∷ []
number_behind = refl

-- panels 2, 3 and 0, spans 1, 2 and 0
words_listed : overlaid_words (overlaid_of (judged one one (pos 7 ∷ five)) lists) ≡ 0 ∷ 0 ∷ 2 ∷ 3 ∷ 0 ∷ 1 ∷ 2 ∷ 0 ∷ []
words_listed = refl

words_refused : overlaid_words (overlaid_of (judged one (0 ∷ 9 ∷ []) five) lists) ≡ 4 ∷ 1 ∷ 0 ∷ 0 ∷ 0 ∷ 0 ∷ 0 ∷ 0 ∷ []
words_refused = refl

number_refused : overlaid_number (overlaid_of (judged one (0 ∷ 9 ∷ []) five) lists) ≡ 4
number_refused = refl

-- The promise of the call on two rooms: which judgement it is if a room is refused and if both are good, and that there is one
-- answer and one state of each buffer. Assumes nothing.
use Rattle.std.specs.Prelude.{Err, Ok}
use mathlib.Core.Bool.{Bool, true, false}
use mathlib.Core.List.{List, [], ◌∷◌}
use mathlib.Core.Logic.{◌⊎◌, inl, inr}
use mathlib.Core.Path.{◌≡◌, refl, ap, ap₂, sym, ◌∙◌}
use Prim.Native.Nat.{ℕ, ◌*◌, ◌<◌, ◌≤◌}
use native.Mathlib.Decide.{dec_lt}
use native.Mathlib.Omega.{arith}
use borrow.Author.Tests.{lt-ltb, le-ltb}
use lib.Dec.{ltb}
use lib.IntN.{ℤ}
use lib.ListN.{length}
use Rattle.overlay.specs.Answers.{Overlaid}
use Rattle.answer.specs.Answers.{Judged}
use Rattle.answer.specs.declared.{Refusal.Refusal, Refusal.TheVariants.SpanRoom}
use Rattle.answer.specs.Refusal.{when, or_else, first_of}
use Rattle.answer.proofs.RefusalLaws.{clear_first}
use Rattle.answer.specs.Listed.{laid_if}
use Rattle.grid.specs.declared.Corner.{Corner}
use Rattle.room.specs.Room.{as_room_judged}
use Rattle.row.specs.{Rows.Span, Rows.span_numbers}
use Rattle.row_laws.proofs.OneLaws.{rows_is_one}
use Rattle.overlay.specs.declared.{Part.Part, Part.TheVariants.First, Part.TheVariants.Second, Part.TheVariants.Both}
use Rattle.overlay.specs.{Overlay.InPart, Call.part_room_judged, Call.overlay_judged, Call.overlaid_of, Call.OverlayCall}

-- whether any of the three lists is too long for its buffer
abbrev pub buffers_judged : (Part → List ℤ) → (Part → List Span) → Judged
buffers_judged before L = first_of (part_room_judged before L First ∷ part_room_judged before L Second ∷ part_room_judged before L Both ∷ [])

module _ (before : Part → List ℤ) (L : Part → List Span) where
  abbrev Short : Part → Type 0
  Short k = length (before k) < 3 * length (L k)

  abbrev Enough : Part → Type 0
  Enough k = 3 * length (L k) ≤ length (before k)

  -- any is enough for 21
  pub any-short : (k : Part) → Short k → buffers_judged before L ≡ Err SpanRoom
  any-short k h = by k (ap (λ (b : Bool). when b SpanRoom) (lt-ltb (length (before k)) (3 * length (L k)) h))
    where
      at_once : (j k : Judged) → j ≡ Err SpanRoom → or_else j k ≡ Err SpanRoom
      at_once j k e = ap (λ (i : Judged). or_else i k) e

      later : (b : Bool) (j : Judged) → j ≡ Err SpanRoom → or_else (when b SpanRoom) j ≡ Err SpanRoom
      later true j e = refl
      later false j e = e

      test : Part → Bool
      test k = ltb (length (before k)) (3 * length (L k))

      by : (k : Part) → part_room_judged before L k ≡ Err SpanRoom → buffers_judged before L ≡ Err SpanRoom
      by First e = at_once (part_room_judged before L First) (first_of (part_room_judged before L Second ∷ part_room_judged before L Both ∷ [])) e
      by Second e = later (test First) (first_of (part_room_judged before L Second ∷ part_room_judged before L Both ∷ [])) (at_once (part_room_judged before L Second) (first_of (part_room_judged before L Both ∷ [])) e)
      by Both e = later (test First) (first_of (part_room_judged before L Second ∷ part_room_judged before L Both ∷ [])) (later (test Second) (first_of (part_room_judged before L Both ∷ [])) (at_once (part_room_judged before L Both) (Ok tt) e))

  pub all_enough : ((k : Part) → Enough k) → buffers_judged before L ≡ Ok tt
  all_enough f = clear_first (part_room_judged before L First ∷ part_room_judged before L Second ∷ part_room_judged before L Both ∷ []) (good First, (good Second, (good Both, tt)))
    where
      good : (k : Part) → part_room_judged before L k ≡ Ok tt
      good k = ap (λ (b : Bool). when b SpanRoom) (le-ltb (length (before k)) (3 * length (L k)) (f k))

  pub short_or_enough : ((k : Part) × Short k) ⊎ ((k : Part) → Enough k)
  short_or_enough =
      elim (dec_lt (length (before First)) (3 * length (L First))) [
        | yes h ↦ inl (First, h)
        | no f ↦ elim (dec_lt (length (before Second)) (3 * length (L Second))) [
          | yes h ↦ inl (Second, h)
          | no g ↦ elim (dec_lt (length (before Both)) (3 * length (L Both))) [ yes h ↦ inl (Both, h) | no h ↦ inr (all (omega arith) (omega arith) (omega arith)) ]
        ]
      ]
    where
      all : Enough First → Enough Second → Enough Both → (k : Part) → Enough k
      all f g h First = f
      all f g h Second = g
      all f g h Both = h

module _ (s : Corner) (ds : List ℕ) (t : Corner) (es : List ℕ) (before : Part → List ℤ) where
  abbrev judged_by : (Part → List Span) → Judged
  judged_by L = overlay_judged s ds t es before L

  module _ (L : Part → List Span) where
    by_rooms : (i j : Judged) → as_room_judged s ds ≡ i → as_room_judged t es ≡ j → judged_by L ≡ or_else i (or_else j (buffers_judged before L))
    by_rooms i j e f = ap₂ (λ (x y : Judged). or_else x (or_else y (buffers_judged before L))) e f

    pub first_refused : (q : Refusal) → as_room_judged s ds ≡ Err q → judged_by L ≡ Err q
    first_refused q e = by_rooms (Err q) (as_room_judged t es) e refl

    pub second_refused : (q : Refusal) → as_room_judged s ds ≡ Ok tt → as_room_judged t es ≡ Err q → judged_by L ≡ Err q
    second_refused q = by_rooms (Ok tt) (Err q)

    pub both_rooms : as_room_judged s ds ≡ Ok tt → as_room_judged t es ≡ Ok tt → judged_by L ≡ buffers_judged before L
    both_rooms = by_rooms (Ok tt) (Ok tt)

  module _ {r q : Overlaid} {after end : Part → List ℤ} (c : OverlayCall s ds t es before r after) (d : OverlayCall s ds t es before q end) where
    abbrev Same : Type 0
    Same = (r ≡ q) × ((k : Part) → after k ≡ end k)

    -- refused alike whatever the lists
    refused_same : (x : Refusal) → judged_by c.lists ≡ Err x → judged_by d.lists ≡ Err x → Same
    refused_same x e f = (
      c.answer ∙ ap (λ (j : Judged). overlaid_of j c.lists) e ∙ sym (d.answer ∙ ap (λ (j : Judged). overlaid_of j d.lists) f),
      λ k. c.buffers k ∙ ap (λ (j : Judged). laid_if j (span_numbers (c.lists k)) (before k)) e ∙ sym (d.buffers k ∙ ap (λ (j : Judged). laid_if j (span_numbers (d.lists k)) (before k)) f),
    )

    lists-same : c.lists ≡ d.lists → Same
    lists-same e = (
      c.answer ∙ ap (λ (L : Part → List Span). overlaid_of (judged_by L) L) e ∙ sym d.answer,
      λ k. c.buffers k ∙ ap (λ (L : Part → List Span). laid_if (judged_by L) (span_numbers (L k)) (before k)) e ∙ sym (d.buffers k),
    )

    pub overlay_call_one : Same
    overlay_call_one = by (as_room_judged s ds) (as_room_judged t es) refl refl
      where
        by : (i j : Judged) → as_room_judged s ds ≡ i → as_room_judged t es ≡ j → Same
        by (Err x) j e f = refused_same x (first_refused c.lists x e) (first_refused d.lists x e)
        by (Ok _) (Err x) e f = refused_same x (second_refused c.lists x e f) (second_refused d.lists x e f)
        by (Ok _) (Ok _) e f = lists-same (λ i k. rows_is_one (InPart k s ds t es) (c.lists k) (d.lists k) (c.rows e f k) (d.rows e f k) i)

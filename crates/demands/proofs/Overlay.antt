-- What holds of two rooms laid over each other (RULES 16), as theorems about the parts and about the promise of the call that
-- lists them, `OverlayCall`. A room is a start and steps.
-- Assumes nothing.
use Rattle.std.specs.Prelude.{Err, Ok}
use mathlib.Core.List.{List, [], ◌++◌, Memᴰ}
use mathlib.Core.Logic.{◌↔◌}
use mathlib.Core.Path.{◌≡◌, ap, sym, ◌∙◌}
use Prim.Native.Nat.{ℕ, ◌+◌, ◌*◌, ◌^◌, ◌≤◌}
use native.Mathlib.Omega.{arith}
use lib.IntN.{ℤ, nat_abs}
use lib.ListN.{length, drop}
use Rattle.overlay.specs.Answers.{Overlaid}
use Rattle.lists.specs.Lists.{Distinct}
use Rattle.answer.specs.declared.Refusal.{Refusal}
use Rattle.grid.specs.declared.{Corner.Corner, Panel.Panel}
use Rattle.trace.specs.Verdict.{IsRoom, area_of}
use Rattle.room.proofs.RoomLaws.{good_room}
use Rattle.panels.specs.Inside.{Inside}
use Rattle.row.specs.Rows.{Span, RowsIs, lengths_of, span_numbers}
use Rattle.row_laws.proofs.{OneLaws.rows_is_one, RowLaws.rows_is_rows_of}
use Rattle.room_laws.proofs.RoomLaws.{room_panels}
use Rattle.overlay.specs.declared.{Part.Part, Part.TheVariants.First, Part.TheVariants.Second, Part.TheVariants.Both, Measure.Measure, Measures.Measures}
use Rattle.overlay.specs.{Overlay.InPart, Call.of_parts, Call.measure_of, Call.measures_of, Call.overlaid_words, Call.OverlayCall}
use Rattle.overlay_laws.specs.Sweep.{lists_of}
use Rattle.overlay_laws.proofs.OverlayLaws.{lists-rows, parts_listed, length_parts, none_listed}
use Rattle.overlay_laws.proofs.FewLaws.{spans_few_lem, part_few}
use Rattle.overlay_laws.proofs.CallLaws as call_laws
use Rattle.demands.specs.GivenOverlay.{PartsAre, GivenOverlay}
use Rattle.demands.proofs.RowCallLaws.{rows_area}
use Rattle.demands.proofs.OverlayCallLaws as overlay_call_laws

-- each part has a list of spans by rows; there is one at most (Rows.rowsIs-one)
pub parts_some : (s : Corner) (ds : List ℕ) (t : Corner) (es : List ℕ) → IsRoom s ds → IsRoom t es → (k : Part)
    → (L : List Span) × RowsIs (InPart k s ds t es) L
parts_some s ds t es r q k = (lists_of s ds t es k, lists-rows s ds t es r.closed q.closed k)

-- the third part is that of the rooms exchanged
both_exchanged : (s : Corner) (ds : List ℕ) (t : Corner) (es : List ℕ) (L : List Span) → RowsIs (InPart Both s ds t es) L
    → RowsIs (InPart Both t es s ds) L
both_exchanged s ds t es L k = record { order = k.order; panels = λ p. ((λ n. let b = (k.panels p).0 n in (b.1, b.0)), (λ n. (k.panels p).1 (n.1, n.0))) }

-- and no part has more spans than the two rooms have together
pub parts_few : (s : Corner) (ds : List ℕ) (t : Corner) (es : List ℕ) → IsRoom s ds → IsRoom t es → (A B : List Span)
    → RowsIs (Inside s ds) A → RowsIs (Inside t es) B
    → (k : Part) (L : List Span) → RowsIs (InPart k s ds t es) L → length L ≤ length A + length B
parts_few s ds t es r q A B a b k L l =
    let e = rows_is_one (InPart k s ds t es) L (lists_of s ds t es k) l (lists-rows s ds t es r.closed q.closed k) in
    omega (arith, ap length e, ap length (rows_is_rows_of s ds A r.closed a), ap length (rows_is_rows_of t es B q.closed b), part_few s ds t es r.closed q.closed k)

module _ (s : Corner) (ds : List ℕ) (t : Corner) (es : List ℕ) where
  -- what is in the first only and what is in both are together the first room's panels, so their numbers add up to the magnitude
  -- of its area
  pub first_area : IsRoom s ds → (L M : List Span) → RowsIs (InPart First s ds t es) L → RowsIs (InPart Both s ds t es) M
      → nat_abs (area_of s ds) ≡ lengths_of L + lengths_of M
  first_area r L M h k = room_panels s ds r _ (parts_listed s ds t es L M h k) ∙ length_parts L M

  -- exchanging the rooms exchanges the first two parts and leaves the third
  pub exchanged : (p : Panel) → (InPart First s ds t es p → InPart Second t es s ds p)
      × (InPart Second s ds t es p → InPart First t es s ds p) × (InPart Both s ds t es p → InPart Both t es s ds p)
  exchanged p = ((λ h. h), (λ h. h), (λ h. (h.1, h.0)))

  pub second_area : IsRoom t es → (L M : List Span) → RowsIs (InPart Second s ds t es) L → RowsIs (InPart Both s ds t es) M
      → nat_abs (area_of t es) ≡ lengths_of L + lengths_of M
  second_area r L M h k = room_panels t es r _ (parts_listed t es s ds L M h (both_exchanged s ds t es M k)) ∙ length_parts L M

  -- rooms apart have nothing in both
  pub apart_none : ((p : Panel) → Inside s ds p → Inside t es p → ⊥) → (L : List Span) → RowsIs (InPart Both s ds t es) L → L ≡ []
  apart_none f L k = none_listed (InPart Both s ds t es) L k (λ p h. f p h.0 h.1)

-- a room over itself has all in both and nothing in the first only or in the second only
module _ (s : Corner) (ds : List ℕ) (L : List Span) where
  pub itself_both : RowsIs (InPart Both s ds s ds) L → RowsIs (Inside s ds) L
  itself_both k = record { order = k.order; panels = λ p. ((λ n. ((k.panels p).0 n).0), (λ n. (k.panels p).1 (n, n))) }

  pub itself_first : RowsIs (InPart First s ds s ds) L → L ≡ []
  itself_first k = none_listed (InPart First s ds s ds) L k (λ p h. h.1 h.0)

  pub itself_second : RowsIs (InPart Second s ds s ds) L → L ≡ []
  itself_second k = none_listed (InPart Second s ds s ds) L k (λ p h. h.1 h.0)

-- ---- the call

-- every two starts, two chains and three buffers have an answer and a state of each buffer
pub overlay_answers : (s : Corner) (ds : List ℕ) (t : Corner) (es : List ℕ) (before : Part → List ℤ)
    → (r : Overlaid) × (after : Part → List ℤ) × OverlayCall s ds t es before r after
overlay_answers = overlay_call_laws.overlay_answers

module _ (s : Corner) (ds : List ℕ) (t : Corner) (es : List ℕ) (before : Part → List ℤ) where
  -- and only one
  pub overlay_call_one : {r q : Overlaid} {after end : Part → List ℤ} → OverlayCall s ds t es before r after
      → OverlayCall s ds t es before q end → (r ≡ q) × ((k : Part) → after k ≡ end k)
  overlay_call_one = call_laws.overlay_call_one s ds t es before

  -- each answer exactly on its occasion: the first room's 1, 10, 4, 6, 12, then the second's, then 21 for any of the three lists,
  -- otherwise the panels and spans of each
  pub overlay_exactly : {r : Overlaid} {after : Part → List ℤ} → OverlayCall s ds t es before r after → (x : Overlaid)
      → r ≡ x ↔ GivenOverlay s ds t es (λ k. length (before k)) x
  overlay_exactly = overlay_call_laws.overlay_when s ds t es before

  -- the numbers of each
  pub overlay_words : {r : Overlaid} {after : Part → List ℤ} → OverlayCall s ds t es before r after → (x : Overlaid)
      → GivenOverlay s ds t es (λ k. length (before k)) x → overlaid_words r ≡ overlaid_words x
  overlay_words w x g = ap overlaid_words ((overlay_exactly w x).1 g)

  module _ {after : Part → List ℤ} where
    -- a refusal writes in none of the three buffers
    pub overlay_untouched : (q : Refusal) → OverlayCall s ds t es before (Err q) after
        → (k : Part) → after k ≡ before k
    overlay_untouched = overlay_call_laws.overlay_untouched s ds t es before

    module _ (m : Measures) (w : OverlayCall s ds t es before (Ok m) after) where
      -- the lists, and the numbers after each as they were
      pub overlay_written : (L : Part → List Span) × PartsAre s ds t es L × (m ≡ measures_of L)
          × ((k : Part) → after k ≡ span_numbers (L k) ++ drop (3 * length (L k)) (before k))
      overlay_written = let d = overlay_call_laws.overlay_laid s ds t es before m w in (d.lists, d.rows, d.measures, d.buffers)

      -- the counts are the numbers of panels of the parts: of any list that has each once
      pub overlay_counts : (k : Part) (ps : List Panel) → Distinct ps → ((p : Panel) → Memᴰ p ps ↔ InPart k s ds t es p)
          → (of_parts m.first m.second m.both k).panels ≡ length ps
      overlay_counts k ps once in-ps =
          let d = overlay_call_laws.overlay_laid s ds t es before m w in
          ap (λ (n : Measures). (of_parts n.first n.second n.both k).panels) d.measures ∙ ap (λ (n : Measure). n.panels) (overlay_call_laws.measures_at d.lists k) ∙ overlay_call_laws.panels_counted (InPart k s ds t es) (d.lists k) (d.rows k) ps once in-ps

      -- they add up to the magnitudes of the two areas
      pub overlay_areas : (nat_abs (area_of s ds) ≡ m.first.panels + m.both.panels)
          × (nat_abs (area_of t es) ≡ m.second.panels + m.both.panels)
      overlay_areas =
          let d = overlay_call_laws.overlay_laid s ds t es before m w in
          let L = d.lists in (
            first_area s ds t es (good_room s ds d.first_good).room (L First) (L Both) (d.rows First) (d.rows Both) ∙ ap (λ (n : Measures). n.first.panels + n.both.panels) (sym d.measures),
            second_area s ds t es (good_room t es d.second_good).room (L Second) (L Both) (d.rows Second) (d.rows Both) ∙ ap (λ (n : Measures). n.second.panels + n.both.panels) (sym d.measures),
          )

      -- no part has more spans than panels, nor more panels than a room of 16,384 steps can have
      pub overlay_few : (k : Part) → ((of_parts m.first m.second m.both k).spans
          ≤ (of_parts m.first m.second m.both k).panels) × ((of_parts m.first m.second m.both k).panels ≤ 2 ^ 29)
      overlay_few k =
          let d = overlay_call_laws.overlay_laid s ds t es before m w in
          let e : of_parts m.first m.second m.both k ≡ measure_of (d.lists k) = ap (λ (n : Measures). of_parts n.first n.second n.both k) d.measures ∙ overlay_call_laws.measures_at d.lists k in
          (omega (arith, ap (λ (n : Measure). n.spans) e, ap (λ (n : Measure). n.panels) e, spans_few_lem (d.lists k) (d.rows k).order), by k)
        where
          few : (nat_abs (area_of s ds) ≤ 2 ^ 29) × (nat_abs (area_of t es) ≤ 2 ^ 29)
          few = let d = overlay_call_laws.overlay_laid s ds t es before m w in (overlay_call_laws.area_few s ds d.first_good, overlay_call_laws.area_few t es d.second_good)

          by : (k : Part) → (of_parts m.first m.second m.both k).panels ≤ 2 ^ 29
          by First = omega (arith, overlay_areas.0, few.0)
          by Second = omega (arith, overlay_areas.1, few.1)
          by Both = omega (arith, overlay_areas.0, few.0)

      -- rooms apart have nothing in both
      pub overlay_apart : ((p : Panel) → Inside s ds p → Inside t es p → ⊥) → m.both ≡ measure_of []
      overlay_apart f =
          let d = overlay_call_laws.overlay_laid s ds t es before m w in
          ap (λ (n : Measures). n.both) d.measures ∙ ap measure_of (apart_none s ds t es f (d.lists Both) (d.rows Both))

-- exchanging the rooms exchanges the first two lists and counts and leaves the third
module _ (s : Corner) (ds : List ℕ) (t : Corner) (es : List ℕ) where
  pub exchanged_lists : (L M : Part → List Span) → PartsAre s ds t es L → PartsAre t es s ds M
      → (L First ≡ M Second) × (L Second ≡ M First) × (L Both ≡ M Both)
  exchanged_lists L M l m = (
    rows_is_one (InPart First s ds t es) (L First) (M Second) (l First) (m Second),
    rows_is_one (InPart Second s ds t es) (L Second) (M First) (l Second) (m First),
    rows_is_one (InPart Both s ds t es) (L Both) (M Both) (l Both) (both_exchanged t es s ds (M Both) (m Both)),
  )

  pub overlay_exchanged : {before after before' after' : Part → List ℤ} (m n : Measures)
      → OverlayCall s ds t es before (Ok m) after → OverlayCall t es s ds before' (Ok n) after'
      → (m.first ≡ n.second) × (m.second ≡ n.first) × (m.both ≡ n.both)
  overlay_exchanged {before} {after} {before'} {after'} m n w v =
      let d = overlay_call_laws.overlay_laid s ds t es before m w in
      let e = overlay_call_laws.overlay_laid t es s ds before' n v in
      let x = exchanged_lists d.lists e.lists d.rows e.rows in (
        ap (λ (z : Measures). z.first) d.measures ∙ ap measure_of x.0 ∙ ap (λ (z : Measures). z.second) (sym e.measures),
        ap (λ (z : Measures). z.second) d.measures ∙ ap measure_of x.1 ∙ ap (λ (z : Measures). z.first) (sym e.measures),
        ap (λ (z : Measures). z.both) d.measures ∙ ap measure_of x.2 ∙ ap (λ (z : Measures). z.both) (sym e.measures),
      )

-- a room over itself: nothing in the first only or in the second only, and the magnitude of its area in both
pub overlay_itself : (s : Corner) (ds : List ℕ) {before after : Part → List ℤ} (m : Measures)
    → OverlayCall s ds s ds before (Ok m) after
    → (m.first ≡ measure_of []) × (m.second ≡ measure_of []) × (m.both.panels ≡ nat_abs (area_of s ds))
overlay_itself s ds {before} m w =
    let d = overlay_call_laws.overlay_laid s ds s ds before m w in
    let L = d.lists in (
      ap (λ (z : Measures). z.first) d.measures ∙ ap measure_of (itself_first s ds (L First) (d.rows First)),
      ap (λ (z : Measures). z.second) d.measures ∙ ap measure_of (itself_second s ds (L Second) (d.rows Second)),
      ap (λ (z : Measures). z.both.panels) d.measures ∙ rows_area s ds (good_room s ds d.first_good).room (L Both) (itself_both s ds (L Both) (d.rows Both)),
    )

-- The answers of the call on two rooms are given on their occasions and on no other; its promise taken apart; how many panels a list has.
-- Assumes nothing.
use Rattle.std.specs.Prelude.{Err, Ok}
use mathlib.Core.List.{List, ◌++◌, Memᴰ}
use mathlib.Core.Logic.{◌↔◌, ⊎_elim}
use mathlib.Core.Path.{◌≡◌, refl, ap, sym, ◌∙◌, subst}
use Prim.Native.Nat.{ℕ, ◌*◌, ◌^◌, ◌<◌, ◌≤◌}
use native.Mathlib.Omega.{arith}
use lib.IntN.{ℤ, nat_abs}
use lib.ListN.{length, drop}
use Rattle.overlay.specs.Answers.{Overlaid}
use Rattle.answer.specs.Answers.{Judged}
use Rattle.lists.specs.Lists.{Distinct}
use Rattle.lists.proofs.PigeonLaws.{pigeon}
use Rattle.answer.specs.declared.{Refusal.Refusal, Refusal.TheVariants.SpanRoom}
use Rattle.answer.specs.Limits.{farthest}
use Rattle.answer.specs.Listed.{laid_if}
use Rattle.grid.specs.declared.{Corner.Corner, Panel.Panel}
use Rattle.trace.specs.Verdict.{area_of}
use Rattle.trace.proofs.VerdictLaws.{area_room}
use Rattle.room.specs.Room.{as_room_judged}
use Rattle.room.proofs.RoomLaws.{good_room}
use Rattle.row.specs.{Rows.Span, Rows.RowsIs, Rows.lengths_of, Rows.span_numbers}
use Rattle.row_laws.proofs.{OneLaws.rows_is_one, CallLaws.good_steps, SpanLaws.panels_of, SpanLaws.length_panels, SpanLaws.spans_panels, NumberLaws.numbers_thrice}
use Rattle.overlay.specs.declared.{Part.Part, Part.TheVariants.First, Part.TheVariants.Second, Part.TheVariants.Both, Measures.Measures}
use Rattle.overlay.specs.{Overlay.InPart, Call.of_parts, Call.overlay_judged, Call.measure_of, Call.measures_of, Call.overlaid_of, Call.OverlayCall}
use Rattle.overlay_laws.specs.Sweep.{lists_of}
use Rattle.overlay_laws.proofs.{OverlayLaws.lists-rows, FewLaws.sweep_bound, CallLaws.first_refused, CallLaws.second_refused, CallLaws.both_rooms, CallLaws.any-short, CallLaws.all_enough, CallLaws.short_or_enough}
use Rattle.demands.specs.GivenOverlay.{PartsAre, GivenOverlay}
use Rattle.demands.specs.GivenOverlay as given
use Rattle.demands.proofs.RoomCallLaws.{room-when}

-- the panels of a set are counted by its list: any list that has each of them once is as long as its spans together
pub panels_counted : (M : Panel → Type 0) (L : List Span) → RowsIs M L → (ps : List Panel) → Distinct ps → ((p : Panel) → Memᴰ p ps ↔ M p) → lengths_of L ≡ length ps
panels_counted M L k ps once in-ps =
    let x = spans_panels M L k in
    let a = pigeon (panels_of L) ps x.0 (λ p m. (in-ps p).1 ((x.1 p).0 m)) in
    let b = pigeon ps (panels_of L) once (λ p m. (x.1 p).1 ((in-ps p).0 m)) in
    omega (arith, a, b, length_panels L)

-- the magnitude of a room's area
pub area_few : (c : Corner) (ds : List ℕ) → as_room_judged c ds ≡ Ok tt → nat_abs (area_of c ds) ≤ 2 ^ 29
area_few c ds e =
    let r = good_room c ds e in
    let n = (good_steps c ds e).1 in
    omega (arith, ap nat_abs (area_room c ds r.room), sweep_bound c ds farthest (omega (arith, r.near.0, n)), n)

pub measures_at : (L : Part → List Span) (k : Part) → of_parts (measure_of (L First)) (measure_of (L Second)) (measure_of (L Both)) k ≡ measure_of (L k)
measures_at L First = refl
measures_at L Second = refl
measures_at L Both = refl

module _ (s : Corner) (ds : List ℕ) (t : Corner) (es : List ℕ) (before : Part → List ℤ) where
  abbrev room : Part → ℕ
  room k = length (before k)

  abbrev judged_by : (Part → List Span) → Judged
  judged_by L = overlay_judged s ds t es before L

  pub overlay_answers : (r : Overlaid) × (after : Part → List ℤ) × OverlayCall s ds t es before r after
  overlay_answers =
      let L = lists_of s ds t es in
      (overlaid_of (judged_by L) L, (λ k. laid_if (judged_by L) (span_numbers (L k)) (before k)), record { lists = L; rows = λ g h k. lists-rows s ds t es (good_room s ds g).room.closed (good_room t es h).room.closed k; answer = refl; buffers = λ k. refl })

  module _ {r : Overlaid} {after : Part → List ℤ} (w : OverlayCall s ds t es before r after) where
    -- answer and buffers by what is judged
    at-judged : (j : Judged) → judged_by w.lists ≡ j → (r ≡ overlaid_of j w.lists) × ((k : Part) → after k ≡ laid_if j (span_numbers (w.lists k)) (before k))
    at-judged j e = (w.answer ∙ ap (λ (i : Judged). overlaid_of i w.lists) e, λ k. w.buffers k ∙ ap (λ (i : Judged). laid_if i (span_numbers (w.lists k)) (before k)) e)

    module _ (e : as_room_judged s ds ≡ Ok tt) (f : as_room_judged t es ≡ Ok tt) where
      judged-short : (k : Part) → room k < 3 * length (w.lists k) → judged_by w.lists ≡ Err SpanRoom
      judged-short k h = both_rooms s ds t es before w.lists e f ∙ any-short before w.lists k h

      judged_listed : ((k : Part) → 3 * length (w.lists k) ≤ room k) → judged_by w.lists ≡ Ok tt
      judged_listed h = both_rooms s ds t es before w.lists e f ∙ all_enough before w.lists h

      same_lists : (L : Part → List Span) → PartsAre s ds t es L → (k : Part) → L k ≡ w.lists k
      same_lists L g k = rows_is_one (InPart k s ds t es) (L k) (w.lists k) (g k) (w.rows e f k)

    given_answer : (x : Overlaid) → GivenOverlay s ds t es room x → r ≡ x
    given_answer _ (given.first_none q g) = (at-judged (Err q) (first_refused s ds t es before w.lists q ((room-when s ds (Err q)).1 g))).0
    given_answer _ (given.second_none q g h) = (at-judged (Err q) (second_refused s ds t es before w.lists q ((room-when s ds (Ok tt)).1 g) ((room-when t es (Err q)).1 h))).0
    given_answer _ (given.span_room g h L l k i) =
        let e = (room-when s ds (Ok tt)).1 g in
        let f = (room-when t es (Ok tt)).1 h in
        (at-judged (Err SpanRoom) (judged-short e f k (omega (arith, ap length (same_lists e f L l k))))).0
    given_answer _ (given.listed g h L l i) =
        let e = (room-when s ds (Ok tt)).1 g in
        let f = (room-when t es (Ok tt)).1 h in
        let x : L ≡ w.lists = λ j k. same_lists e f L l k j in
        (at-judged (Ok tt) (judged_listed e f (λ k. omega (arith, i k, ap length (same_lists e f L l k))))).0 ∙ ap (λ (l : Part → List Span). Ok (measures_of l)) (sym x)

    some_answer : (i j : Judged) → as_room_judged s ds ≡ i → as_room_judged t es ≡ j → (x : Overlaid) × GivenOverlay s ds t es room x
    some_answer (Err q) j e f = (Err q, given.first_none q ((room-when s ds (Err q)).0 e))
    some_answer (Ok _) (Err q) e f = (Err q, given.second_none q ((room-when s ds (Ok tt)).0 e) ((room-when t es (Err q)).0 f))
    some_answer (Ok _) (Ok _) e f =
        let g = (room-when s ds (Ok tt)).0 e in
        let h = (room-when t es (Ok tt)).0 f in
        ⊎_elim (λ x. (Err SpanRoom, given.span_room g h w.lists (w.rows e f) x.0 x.1)) (λ x. (Ok (measures_of w.lists), given.listed g h w.lists (w.rows e f) x)) (short_or_enough before w.lists)

    pub overlay_when : (x : Overlaid) → r ≡ x ↔ GivenOverlay s ds t es room x
    overlay_when x =
        let y = some_answer (as_room_judged s ds) (as_room_judged t es) refl refl in
        ((λ e. subst (GivenOverlay s ds t es room) (sym (given_answer y.0 y.1) ∙ e) y.1), given_answer x)

  refused_listed : (q : Refusal) (m : Measures) → Err q ≡ Ok m → ⊥
  refused_listed q m f = let z : ◌≡◌ {A = ℕ} 0 1 = cc in omega arith

  same_measures : (m n : Measures) → ◌≡◌ {A = Overlaid} (Ok m) (Ok n) → m ≡ n
  same_measures m n f = cc

  -- an accepted call: two rooms, three lists
  pub record Laid (after : Part → List ℤ) (m : Measures) : Type 0 where
    pub lists : Part → List Span
    pub first_good : as_room_judged s ds ≡ Ok tt
    pub second_good : as_room_judged t es ≡ Ok tt
    pub rows : PartsAre s ds t es lists
    pub measures : m ≡ measures_of lists
    pub buffers : (k : Part) → after k ≡ span_numbers (lists k) ++ drop (3 * length (lists k)) (before k)

  module _ {after : Part → List ℤ} where
    pub overlay_untouched : (q : Refusal) → OverlayCall s ds t es before (Err q) after → (k : Part) → after k ≡ before k
    overlay_untouched q w = by (judged_by w.lists) refl
      where
        by : (j : Judged) → judged_by w.lists ≡ j → (k : Part) → after k ≡ before k
        by (Ok _) e k = absurd (refused_listed q (measures_of w.lists) (at-judged w (Ok tt) e).0)
        by (Err x) e k = (at-judged w (Err x) e).1 k

    pub overlay_laid : (m : Measures) → OverlayCall s ds t es before (Ok m) after → Laid after m
    overlay_laid m w = by (as_room_judged s ds) (as_room_judged t es) (judged_by w.lists) refl refl refl
      where
        no : (q : Refusal) → judged_by w.lists ≡ Err q → ⊥
        no q e = refused_listed q m (sym (at-judged w (Err q) e).0)

        by : (i j k : Judged) → as_room_judged s ds ≡ i → as_room_judged t es ≡ j → judged_by w.lists ≡ k → Laid after m
        by (Err q) j k e f g = absurd (no q (first_refused s ds t es before w.lists q e))
        by (Ok _) (Err q) k e f g = absurd (no q (second_refused s ds t es before w.lists q e f))
        by (Ok _) (Ok _) (Err q) e f g = absurd (no q g)
        by (Ok _) (Ok _) (Ok _) e f g = record {
          lists = w.lists;
          first_good = e;
          second_good = f;
          rows = w.rows e f;
          measures = same_measures m (measures_of w.lists) (at-judged w (Ok tt) g).0;
          buffers = λ k. (at-judged w (Ok tt) g).1 k ∙ numbers_thrice (before k) (w.lists k);
        }

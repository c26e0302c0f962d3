-- From rooms to their lists of spans, and from the parts of two lists to the answer.
-- Assumes nothing.
use Rattle.std.specs.Prelude.{Err, Ok}
use mathlib.Core.List.{List, []}
use mathlib.Core.Path.{◌≡◌, sym, ap, ap₂, ◌∙◌, subst}
use Prim.Native.Nat.{ℕ, ◌+◌, ◌*◌, ◌/◌, ◌%◌, ◌<◌, ◌≤◌}
use native.Mathlib.Omega.{arith}
use native.Mathlib.Decide.{ℕ_discrete}
use lib.Dec.{eqb}
use lib.IntN.{ℤ, pos, nat_abs}
use lib.ListN.{length, get_or, set, take, drop, get_or-append}
use lib.Seq.{sets, length-take-le, get_or-take, get_or-set_same, get_or-set_other}
use Rattle.overlay.specs.Answers.{Overlaid}
use Rattle.answer.specs.Answers.{Judged}
use Rattle.lists.specs.Lists.{count}
use Rattle.answer.specs.declared.{Refusal.Refusal}
use Rattle.answer.specs.Listed.{laid_if}
use Rattle.grid.specs.declared.Corner.{Corner}
use Rattle.room.specs.Room.{as_room_judged}
use Rattle.row.specs.{Rows.Span, Rows.span_numbers}
use Rattle.row_laws.specs.Feet.{pairs_of, rows_of}
use Rattle.row_laws.proofs.{PairLaws.pairs_length, PairLaws.turn_up-to, SortedLaws.room_half, NumberLaws.length-numbers, NumberLaws.written}
use Rattle.row_call.proofs.CallLaws.{good_walled}
use Rattle.overlay.specs.declared.{Part.Part}
use Rattle.overlay.specs.Call.{overlay_judged, overlaid_of, OverlayCall}
use Rattle.overlay_laws.specs.Sweep.{part_ends, ends_from, ends_of_walk, lists_of}
use Rattle.overlay_laws.proofs.{PartLaws.Ends, OverlayLaws.walk_ends, OverlayLaws.lists-rows, ReadLaws.ends_read, ReadLaws.ends_same, ReadLaws.room_small}
use Rattle.overlay_laws.proofs.CallLaws.{first_refused, second_refused, both_rooms}
use Rattle.overlay_sweep.specs.Parts.{ends_in, HoldsSpans, part_spans}
use Rattle.overlay_parts.specs.Parts.{parts_judged, PartsCall}
use Rattle.overlay_call.specs.Lists.{ListsSpans}

-- ---- copies

pub copied_step : (list out : List ℤ) (k : ℕ) (v : ℤ) → k < length out → v ≡ get_or list k (pos 0) → ((j : ℕ) → j < k → get_or out j (pos 0) ≡ get_or list j (pos 0)) → (j : ℕ) → j < k + 1 → get_or (set out k v) j (pos 0) ≡ get_or list j (pos 0)
copied_step list out k v h e f j l = go (ℕ_discrete j k)
  where
    go : Dec (j ≡ k) → get_or (set out k v) j (pos 0) ≡ get_or list j (pos 0)
    go (yes u) = ap (λ (i : ℕ). get_or (set out k v) i (pos 0)) u ∙ get_or-set_same out k v (pos 0) h ∙ e ∙ ap (λ (i : ℕ). get_or list i (pos 0)) (sym u)
    go (no u) = get_or-set_other out k j v (pos 0) u ∙ f j (below u)
      where
        below : (j ≡ k → ⊥) → j < k
        below u = omega (arith, l, u)

copied_holds : (s : Corner) (ds : List ℕ) (list out : List ℤ) (n : ℕ) → HoldsSpans s ds list n → ((j : ℕ) → j < 3 * (n / 2) → get_or out j (pos 0) ≡ get_or list j (pos 0)) → 3 * (n / 2) ≤ length out → HoldsSpans s ds out n
copied_holds s ds list out n h c r =
    let m = h.numbers in
    record {
      closed = h.closed;
      ends = ends_same out list n m.even c ∙ h.ends;
      short = h.short;
      numbers = record { even = m.even; room = r; small = λ k l. subst (λ (z : ℤ). nat_abs z ≤ 32767) (sym (c k l)) (m.small k l); few = m.few };
    }

pub lists_taken : (s : Corner) (ds : List ℕ) (list out : List ℤ) (n : ℕ) → ListsSpans s ds list n → take n out ≡ take n list → n ≤ length out → ListsSpans s ds out n
lists_taken s ds list out n h e r = record { within = r; whole = h.whole; spans = subst (λ (l : List ℤ). HoldsSpans s ds l (ends_in l)) (sym e) h.spans }

-- ---- the list of a room

module _ (s : Corner) (ds : List ℕ) (g : as_room_judged s ds ≡ Ok tt) (v : ℕ) (e : v ≡ count (λ d. eqb (d % 2) 1) ds) (l : v ≤ length ds) where
  ends_of : Ends (ends_of_walk s ds)
  ends_of = walk_ends s ds (good_walled s ds g).room.closed

  twice : 2 * length (rows_of s ds) ≡ length (ends_of_walk s ds)
  twice = pairs_length (ends_of_walk s ds) (turn_up-to (ends_of_walk s ds) ends_of.sorted) ends_of.even

  pub room_spans : v ≡ 2 * length (rows_of s ds)
  room_spans = let w = good_walled s ds g in e ∙ sym (room_half s ds w.room w.digits)

  room_holds : (before after : List ℤ) → 3 * (length ds / 2) ≤ length before → after ≡ sets before 0 (span_numbers (rows_of s ds)) → length after ≡ length before → HoldsSpans s ds after v
  room_holds before after h u k =
      let w = good_walled s ds g in
      let f = u ∙ written before (rows_of s ds) (omega (arith, room_spans, l, h)) in
      let n : v ≡ length (ends_of_walk s ds) = room_spans ∙ twice in
      record {
        closed = w.room.closed;
        ends = ap₂ (λ (a : List ℤ) (m : ℕ). ends_from a 0 m) f n ∙ ends_read (ends_of_walk s ds) (drop (length (span_numbers (rows_of s ds))) before) ends_of;
        short = l;
        numbers = record {
          even = omega (arith, room_spans);
          room = omega (arith, h, k, l);
          small = λ i b. subst (λ (a : List ℤ). nat_abs (get_or a i (pos 0)) ≤ 32767) (sym f)
              (subst (λ (z : ℤ). nat_abs z ≤ 32767) (sym (get_or-append (span_numbers (rows_of s ds)) (drop (length (span_numbers (rows_of s ds))) before) (pos 0) i (omega (arith, b, room_spans, length-numbers (rows_of s ds))))) (room_small s ds w.room w.digits w.few w.near i));
          few = omega (arith, l, w.few);
        };
      }

  pub room_lists : (before after : List ℤ) → 3 * (length ds / 2) ≤ length before → after ≡ sets before 0 (span_numbers (rows_of s ds)) → length after ≡ length before → ListsSpans s ds after (3 * (v / 2))
  room_lists before after h u k =
      let w = room_holds before after h u k in
      let size = length-take-le (3 * (v / 2)) after w.numbers.room in
      let same : v ≡ ends_in (take (3 * (v / 2)) after) = omega (arith, size, w.numbers.even) in
      record {
        within = w.numbers.room;
        whole = omega arith;
        spans = subst (HoldsSpans s ds (take (3 * (v / 2)) after)) same (copied_holds s ds after (take (3 * (v / 2)) after) v w (λ j b. get_or-take (3 * (v / 2)) after j (pos 0) b) (omega (arith, size)));
      }

-- ---- the call

module _ (s : Corner) (ds : List ℕ) (t : Corner) (es : List ℕ) (before : Part → List ℤ) where
  pub call_listed : as_room_judged s ds ≡ Ok tt → as_room_judged t es ≡ Ok tt → (a : List ℤ) (na : ℕ) (b : List ℤ) (nb : ℕ) (r : Overlaid) (after : Part → List ℤ) → HoldsSpans s ds a na → HoldsSpans t es b nb → PartsCall (part_spans a na b nb) before r after → OverlayCall s ds t es before r after
  call_listed e f a na b nb r after x y c =
      let w : part_spans a na b nb ≡ lists_of s ds t es = ap₂ {C = Part → List Span} (λ (P Q : List Corner) (k : Part). pairs_of (part_ends k P Q)) x.ends y.ends in
      let j = both_rooms s ds t es before (lists_of s ds t es) e f in
      record {
        lists = lists_of s ds t es;
        rows = λ _ _. lists-rows s ds t es x.closed y.closed;
        answer = c.answer ∙ ap (λ (L : Part → List Span). overlaid_of (parts_judged before L) L) w ∙ sym (ap (λ (i : Judged). overlaid_of i (lists_of s ds t es)) j);
        buffers = λ k. c.buffers k ∙ ap (λ (L : Part → List Span). laid_if (parts_judged before L) (span_numbers (L k)) (before k)) w ∙ sym (ap (λ (i : Judged). laid_if i (span_numbers (lists_of s ds t es k)) (before k)) j);
      }

  abbrev none : Part → List Span
  none k = []

  good_refused : (q : Refusal) → ◌≡◌ {A = Judged} (Ok tt) (Err q) → ⊥
  good_refused q f = let z : ◌≡◌ {A = ℕ} 0 1 = cc in omega arith

  call_refused : (q : Refusal) → overlay_judged s ds t es before none ≡ Err q → (as_room_judged s ds ≡ Ok tt → as_room_judged t es ≡ Ok tt → ⊥) → OverlayCall s ds t es before (Err q) before
  call_refused q e f = record {
    lists = none;
    rows = λ g h. absurd (f g h);
    answer = sym (ap (λ (j : Judged). overlaid_of j none) e);
    buffers = λ k. sym (ap (λ (j : Judged). laid_if j (span_numbers []) (before k)) e);
  }

  pub call_first : (q : Refusal) → as_room_judged s ds ≡ Err q → OverlayCall s ds t es before (Err q) before
  call_first q e = call_refused q (first_refused s ds t es before none q e) (λ g h. good_refused q (sym g ∙ e))

  pub call_second : (q : Refusal) → as_room_judged s ds ≡ Ok tt → as_room_judged t es ≡ Err q → OverlayCall s ds t es before (Err q) before
  call_second q e f = call_refused q (second_refused s ds t es before none q e f) (λ g h. good_refused q (sym h ∙ f))

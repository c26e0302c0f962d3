-- The answers of the rows call are given on their occasions and on no other; its promise taken apart; what the list of a room says.
-- Assumes nothing.
use Rattle.std.specs.Prelude.{Err, Ok}
use mathlib.Core.Bool.{Bool, true, false}
use mathlib.Core.List.{List, ◌++◌}
use mathlib.Core.Logic.{◌↔◌}
use mathlib.Core.Path.{◌≡◌, refl, ap, sym, ◌∙◌, subst}
use Prim.Native.Nat.{ℕ, ◌*◌, ◌%◌, ◌<◌, ◌≤◌}
use native.Mathlib.Decide.{dec_lt}
use native.Mathlib.Omega.{arith}
use borrow.Author.Tests.{lt-ltb, le-ltb}
use lib.Dec.{eqb, ltb}
use lib.IntN.{ℤ, nat_abs}
use lib.ListN.{length, drop}
use Rattle.answer.specs.Answers.{Counted, Judged}
use Rattle.lists.specs.Lists.{count, Below}
use Rattle.answer.specs.declared.{Refusal.Refusal, Refusal.TheVariants.SpanRoom}
use Rattle.answer.specs.Refusal.{when}
use Rattle.grid.specs.declared.Corner.{Corner}
use Rattle.trace.specs.Verdict.{IsRoom, area_of}
use Rattle.answer.specs.Listed.{counted_of, laid_if}
use Rattle.room.specs.Room.{as_room_judged}
use Rattle.room.proofs.RoomLaws.{good_room}
use Rattle.panels.specs.Inside.{Inside}
use Rattle.row.specs.{Rows.Span, Rows.RowsIs, Rows.lengths_of, Rows.span_numbers, Call.rows_judged, Call.RowsCall}
use Rattle.row_laws.specs.Feet.{rows_of}
use Rattle.row_laws.proofs.{OneLaws.rows_is_one, RowLaws.rows_of-rows, RowLaws.rows_is_rows_of, SortedLaws.room_half, SpanLaws.panels_of, SpanLaws.length_panels, SpanLaws.spans_listed, CallLaws.rows_refused, CallLaws.rows-room, NumberLaws.numbers_thrice}
use Rattle.room_laws.proofs.RoomLaws.{room_panels}
use Rattle.demands.specs.GivenRows.{GivenRows}
use Rattle.demands.specs.GivenRows as given
use Rattle.demands.proofs.RoomCallLaws.{room-when}

-- ---- the list of a room

module _ (c : Corner) (ds : List ℕ) (r : IsRoom c ds) where
  pub rows_some : (L : List Span) × RowsIs (Inside c ds) L
  rows_some = (rows_of c ds, rows_of-rows c ds r.closed)

  module _ (L : List Span) (k : RowsIs (Inside c ds) L) where
    pub rows_half : Below 4 ds → 2 * length L ≡ count (λ d. eqb (d % 2) 1) ds
    rows_half b = ap (λ (l : List Span). 2 * length l) (rows_is_rows_of c ds L r.closed k) ∙ room_half c ds r b

    pub rows_area : lengths_of L ≡ nat_abs (area_of c ds)
    rows_area = sym (room_panels c ds r (panels_of L) (spans_listed c ds L k) ∙ length_panels L)

-- ---- the call

module _ (c : Corner) (ds : List ℕ) (before : List ℤ) where
  abbrev room : ℕ
  room = length before

  pub rows_answers : (r : Counted) × (after : List ℤ) × RowsCall c ds before r after
  rows_answers =
      let L = rows_of c ds in
      let j = rows_judged c ds room (length L) in
      (counted_of j (length L), laid_if j (span_numbers L) before, record { list = L; rows = λ g. rows_of-rows c ds (good_room c ds g).room.closed; answer = refl; buffer = refl })

  module _ {r : Counted} {after : List ℤ} (w : RowsCall c ds before r after) where
    -- the answer and the buffer if start and chain are refused
    at_refused : (q : Refusal) → as_room_judged c ds ≡ Err q → (r ≡ Err q) × (after ≡ before)
    at_refused q e =
        let k = rows_refused c ds room (length w.list) q e in
        (w.answer ∙ ap (λ (j : Judged). counted_of j (length w.list)) k, w.buffer ∙ ap (λ (j : Judged). laid_if j (span_numbers w.list) before) k)

    -- if they are a room
    module _ (e : as_room_judged c ds ≡ Ok tt) where
      by-room : (b : Bool) → ltb room (3 * length w.list) ≡ b → (r ≡ counted_of (when b SpanRoom) (length w.list)) × (after ≡ laid_if (when b SpanRoom) (span_numbers w.list) before)
      by-room b t =
          let k = rows-room c ds room (length w.list) e ∙ ap (λ (b : Bool). when b SpanRoom) t in
          (w.answer ∙ ap (λ (j : Judged). counted_of j (length w.list)) k, w.buffer ∙ ap (λ (j : Judged). laid_if j (span_numbers w.list) before) k)

      at-short : room < 3 * length w.list → (r ≡ Err SpanRoom) × (after ≡ before)
      at-short h = by-room true (lt-ltb room (3 * length w.list) h)

      at_listed : 3 * length w.list ≤ room → (r ≡ Ok (length w.list)) × (after ≡ span_numbers w.list ++ drop (3 * length w.list) before)
      at_listed h = let k = by-room false (le-ltb room (3 * length w.list) h) in (k.0, k.1 ∙ numbers_thrice before w.list)

      same_list : (L : List Span) → RowsIs (Inside c ds) L → L ≡ w.list
      same_list L k = rows_is_one (Inside c ds) L w.list k (w.rows e)

    given_answer : (s : Counted) → GivenRows c ds room s → r ≡ s
    given_answer _ (given.refused q g) = (at_refused q ((room-when c ds (Err q)).1 g)).0
    given_answer _ (given.span_room g L k h) = let e = (room-when c ds (Ok tt)).1 g in (at-short e (omega (arith, ap length (same_list e L k)))).0
    given_answer _ (given.listed g L k h) = let e = (room-when c ds (Ok tt)).1 g in (at_listed e (omega (arith, ap length (same_list e L k)))).0 ∙ ap (λ (l : List Span). Ok (length l)) (sym (same_list e L k))

    some_answer : (j : Judged) → as_room_judged c ds ≡ j → (s : Counted) × GivenRows c ds room s
    some_answer (Ok _) e =
        let g = (room-when c ds (Ok tt)).0 e in
        elim (dec_lt room (3 * length w.list)) [ yes h ↦ (Err SpanRoom, given.span_room g w.list (w.rows e) h) | no h ↦ (Ok (length w.list), given.listed g w.list (w.rows e) (omega arith)) ]
    some_answer (Err q) e = (Err q, given.refused q ((room-when c ds (Err q)).0 e))

    pub rows-when : (s : Counted) → r ≡ s ↔ GivenRows c ds room s
    rows-when s =
        let x = some_answer (as_room_judged c ds) refl in
        ((λ e. subst (GivenRows c ds room) (sym (given_answer x.0 x.1) ∙ e) x.1), given_answer s)

  refused_many : (q : Refusal) (n : ℕ) → Err q ≡ Ok n → ⊥
  refused_many q n f = let z : ◌≡◌ {A = ℕ} 0 1 = cc in omega arith

  module _ {after : List ℤ} where
    pub rows_untouched : (q : Refusal) → RowsCall c ds before (Err q) after → after ≡ before
    rows_untouched q w = by (as_room_judged c ds) refl
      where
        by : (j : Judged) → as_room_judged c ds ≡ j → after ≡ before
        by (Ok _) e = elim (dec_lt room (3 * length w.list)) [ yes h ↦ (at-short w e h).1 | no h ↦ absurd (refused_many q (length w.list) (at_listed w e (omega arith)).0) ]
        by (Err x) e = (at_refused w x e).1

    pub rows_written : (n : ℕ) → RowsCall c ds before (Ok n) after → (L : List Span) × RowsIs (Inside c ds) L × (n ≡ length L) × (after ≡ span_numbers L ++ drop (3 * length L) before)
    rows_written n w = by (as_room_judged c ds) refl
      where
        many : (m : ℕ) → ◌≡◌ {A = Counted} (Ok n) (Ok m) → n ≡ m
        many m f = cc

        by : (j : Judged) → as_room_judged c ds ≡ j → (L : List Span) × RowsIs (Inside c ds) L × (n ≡ length L) × (after ≡ span_numbers L ++ drop (3 * length L) before)
        by (Ok _) e =
            elim (dec_lt room (3 * length w.list)) [
              | yes h ↦ absurd (refused_many SpanRoom n (sym (at-short w e h).0))
              | no h ↦ (let k = at_listed w e (omega arith) in (w.list, w.rows e, many (length w.list) k.0, k.1))
            ]
        by (Err x) e = absurd (refused_many x n (sym (at_refused w x e).0))

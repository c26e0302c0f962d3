-- The promise of the rows call: what is judged to be a room has few spans, refused calls, and that there is one answer and one buffer.
-- Assumes nothing.
use Rattle.std.specs.Prelude.{Err, Ok}
use mathlib.Core.Bool.{Bool, true, false}
use mathlib.Core.List.{List, ◌∷◌, []}
use mathlib.Core.Path.{◌≡◌, refl, ap, sym, ◌∙◌}
use Prim.Native.Nat.{ℕ, suc, ◌+◌, ◌*◌, ◌%◌, ◌≤◌}
use native.Mathlib.Omega.{arith}
use lib.Dec.{eqb, ltb}
use lib.IntN.{ℤ}
use lib.ListN.{length}
use Rattle.answer.specs.Answers.{Counted, Judged}
use Rattle.lists.specs.Lists.{tally, count, Below}
use Rattle.lists.proofs.BelowLaws.{below_all}
use Rattle.answer.specs.declared.{Refusal.Refusal, Refusal.TheVariants.SpanRoom}
use Rattle.answer.specs.Limits.{most_steps}
use Rattle.answer.specs.Refusal.{when, or_else}
use Rattle.answer.proofs.RefusalLaws.{or_else-right}
use Rattle.grid.specs.declared.Corner.{Corner}
use Rattle.answer.specs.Listed.{counted_of, laid_if}
use Rattle.steps.proofs.ChainLaws.{good_digits, good_short}
use Rattle.room.specs.Room.{as_room_judged}
use Rattle.room.proofs.RoomLaws.{good_room}
use Rattle.panels.specs.Inside.{Inside}
use Rattle.row.specs.{Rows.Span, Rows.RowsIs, Call.rows_judged, Call.RowsCall, Rows.span_numbers}
use Rattle.row_laws.proofs.{OneLaws.rows_is_one, RowLaws.rows_is_rows_of, SortedLaws.room_half}

count_le : (t : ℕ → Bool) (l : List ℕ) → count t l ≤ length l
count_le t [] = omega arith
count_le t (x ∷ l) = by (t x) (count_le t l)
  where
    by : (b : Bool) → count t l ≤ length l → tally b + count t l ≤ suc (length l)
    by true h = omega arith
    by false h = omega arith

-- what is judged to be a room has few steps, and half as many spans at most
module _ (c : Corner) (ds : List ℕ) (g : as_room_judged c ds ≡ Ok tt) where
  pub good_steps : Below 4 ds × (length ds ≤ most_steps)
  good_steps = let r = good_room c ds g in (below_all 4 ds (good_digits 0 ds r.steps), omega (arith, good_short 0 ds (omega arith) r.steps))

  pub rows_few : (L : List Span) → RowsIs (Inside c ds) L → 2 * length L ≤ most_steps
  rows_few L k =
      let r = (good_room c ds g).room in
      omega (arith, ap length (rows_is_rows_of c ds L r.closed k), room_half c ds r good_steps.0, count_le (λ d. eqb (d % 2) 1) ds, good_steps.1)

module _ (c : Corner) (ds : List ℕ) (room n : ℕ) where
  -- what is not a room is refused whatever the buffer
  pub rows_refused : (q : Refusal) → as_room_judged c ds ≡ Err q → rows_judged c ds room n ≡ Err q
  rows_refused q e = ap (λ (j : Judged). or_else j (or_else (when (ltb room (3 * n)) SpanRoom) (Ok tt))) e

  -- a room by its buffer alone
  pub rows-room : as_room_judged c ds ≡ Ok tt → rows_judged c ds room n ≡ when (ltb room (3 * n)) SpanRoom
  rows-room e = ap (λ (j : Judged). or_else j (or_else (when (ltb room (3 * n)) SpanRoom) (Ok tt))) e ∙ or_else-right (when (ltb room (3 * n)) SpanRoom)

module _ (c : Corner) (ds : List ℕ) (before : List ℤ) where
  abbrev judged_by : List Span → Judged
  judged_by L = rows_judged c ds (length before) (length L)

  -- a refused call
  pub refused_call : (q : Refusal) → as_room_judged c ds ≡ Err q → RowsCall c ds before (Err q) before
  refused_call q e = record {
    list = [];
    rows = λ g. absurd (good_refused (sym g ∙ e));
    answer = sym (ap (λ (j : Judged). counted_of j 0) (rows_refused c ds (length before) 0 q e));
    buffer = sym (ap (λ (j : Judged). laid_if j (span_numbers []) before) (rows_refused c ds (length before) 0 q e));
  }
    where
      good_refused : ◌≡◌ {A = Judged} (Ok tt) (Err q) → ⊥
      good_refused f = let z : ◌≡◌ {A = ℕ} 0 1 = cc in omega arith

  pub rows_call_one : {r s : Counted} {after end : List ℤ} → RowsCall c ds before r after → RowsCall c ds before s end → (r ≡ s) × (after ≡ end)
  rows_call_one {r} {s} {after} {end} g h = by (as_room_judged c ds) refl
    where
      by : (j : Judged) → as_room_judged c ds ≡ j → (r ≡ s) × (after ≡ end)
      by (Ok _) e =
          let l = rows_is_one (Inside c ds) g.list h.list (g.rows e) (h.rows e) in
          (g.answer ∙ ap (λ (L : List Span). counted_of (judged_by L) (length L)) l ∙ sym h.answer, g.buffer ∙ ap (λ (L : List Span). laid_if (judged_by L) (span_numbers L) before) l ∙ sym h.buffer)
      by (Err q) e =
          let a = rows_refused c ds (length before) (length g.list) q e in
          let b = rows_refused c ds (length before) (length h.list) q e in (
            g.answer ∙ ap (λ (j : Judged). counted_of j (length g.list)) a ∙ sym (h.answer ∙ ap (λ (j : Judged). counted_of j (length h.list)) b),
            g.buffer ∙ ap (λ (j : Judged). laid_if j (span_numbers g.list) before) a ∙ sym (h.buffer ∙ ap (λ (j : Judged). laid_if j (span_numbers h.list) before) b),
          )

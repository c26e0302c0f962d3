-- From the working store to the list in the buffer, and from a room to the answer.
-- Assumes nothing.
use Rattle.std.specs.Prelude.{Err, Ok}
use mathlib.Core.Path.{◌≡◌, sym, ap, ◌∙◌, subst}
use mathlib.Core.Bool.{Bool, true, false}
use mathlib.Core.List.{List}
use Prim.Native.Nat.{ℕ, suc, ◌+◌, ◌*◌, ◌/◌, ◌%◌, ◌<◌, ◌≤◌}
use native.Mathlib.Omega.{arith}
use native.Mathlib.Decide.{dec_lt}
use borrow.Author.Tests.{lt-ltb, le-ltb}
use lib.Dec.{eqb, ltb}
use lib.IntN.{ℤ}
use lib.ListN.{length, get_or, replicate, get_or-replicate, length-replicate, get_or-eq_default}
use lib.Seq.{sets}
use Rattle.answer.specs.Answers.{Judged}
use Rattle.lists.specs.Lists.{count}
use Rattle.grid.specs.declared.Corner.{Corner}
use Rattle.answer.specs.declared.{Refusal.TheVariants.SpanRoom}
use Rattle.answer.specs.Refusal.{when}
use Rattle.answer.specs.Limits.{most_steps}
use Rattle.answer.specs.Listed.{counted_of, laid_if}
use Rattle.room.specs.Room.{as_room_judged}
use Rattle.room.proofs.RoomLaws.{good_room}
use Rattle.row.specs.{Rows.Span, Rows.span_numbers, Call.rows_judged, Call.RowsCall}
use Rattle.row_laws.specs.Feet.{rows_of}
use Rattle.row_laws.proofs.{RowLaws.rows_of-rows, SortedLaws.room_half, NumberLaws.written, CallLaws.good_steps, CallLaws.rows-room}
use Rattle.column_laws.specs.Columns.{top}
use Rattle.room_thread_laws.specs.Threads.{Stays}
use Rattle.room_thread_laws.proofs.RoomLaws.{closed_stays}
use Rattle.row_bucket_laws.specs.Buckets.{bucket_of, low_of, poured_of, Filed, ColumnsReady, ColumnsDone, Sheet, SheetDone, Poured}
use Rattle.row_bucket_laws.proofs.RowLaws.{low_below, row_pairs, order_rows, order_length}
use Rattle.row_call.specs.Store.{Walled, RowStore}

module _ {c : Corner} {ds : List ℕ} {m : ℕ} {head row next at : List ℕ} (w : Walled c ds) (s : RowStore (length ds) m head row next at) where
  narrow : 2 * m ≤ suc top
  narrow = omega (arith, s.columns, s.narrow)

  pub store_stays : Stays ds m (length head)
  store_stays = closed_stays c ds m w.room.closed s.wide (length head) s.columns (omega (arith, s.narrow))

  feet : (k : ℕ) → 2 * m ≤ k → (q : ℕ) → q < length ds → low_of ds m q < k
  feet k h q b = omega (arith, low_below c ds m w.room w.digits s.wide narrow q b)

  module _ (end : ℕ) (e : end ≡ 2 * m) {head' next' at' : List ℕ} (eh : length head' ≡ length head) (en : length next' ≡ length next) (ea : length at' ≡ length at) (f : Filed (bucket_of ds m) (low_of ds m) (length ds) head' next' at') where
    pub store_columns : ColumnsReady end head' next' at' row
    store_columns = record {
      key = bucket_of ds m;
      foot = low_of ds m;
      n = length ds;
      filed = f;
      feet = feet (length row) s.rows;
      store = omega (arith, s.links, s.values);
      some = omega (arith, s.wide);
      within = omega (arith, s.columns);
      narrow = omega (arith, s.narrow);
      empty = s.empty.1;
    }

    module _ {next'' at'' row'' : List ℕ} (fn : length next'' ≡ length next') (fa : length at'' ≡ length at') (fr : length row'' ≡ length row) (g : ColumnsDone end head' next' at' row next'' at'' row'') where
      poured : Poured (bucket_of ds m) (low_of ds m) (poured_of ds m) next'' at'' row''
      poured = subst (λ (k : ℕ). ColumnsDone k head' next' at' row next'' at'' row'') e g (bucket_of ds m) (low_of ds m) (length ds) f (feet (length row) s.rows) (omega (arith, s.links, s.values))

      pub store_sheet : (room : ℕ) → 3 * length (rows_of c ds) ≤ room → Sheet end next'' at'' row'' room
      store_sheet room h = subst (λ (k : ℕ). Sheet k next'' at'' row'' room) (sym e) (record {
        key = bucket_of ds m;
        foot = low_of ds m;
        done = poured_of ds m;
        poured = poured;
        even = row_pairs c ds m w.room w.digits s.wide narrow;
        within = omega (arith, s.rows);
        fits = omega (arith, order_length c ds m w.room w.digits s.wide narrow);
        store = omega (arith, s.values);
      })

      pub store_rows : (before after : List ℤ) → SheetDone c m end next'' at'' row'' before after → after ≡ sets before 0 (span_numbers (rows_of c ds))
      store_rows before after d =
          subst (λ (k : ℕ). SheetDone c m k next'' at'' row'' before after) e d (bucket_of ds m) (low_of ds m) (poured_of ds m) poured (row_pairs c ds m w.room w.digits s.wide narrow)
          ∙ ap (λ (l : List Span). sets before 0 (span_numbers l)) (order_rows c ds m w.room w.digits s.wide narrow)

-- a store that is new
pub fresh : (steps m room : ℕ) → steps < 2 * m → 2 * m ≤ room → room ≤ most_steps + 2 → steps ≤ room → RowStore steps m (replicate room 0) (replicate room 0) (replicate room 0) (replicate room 0)
fresh steps m room a b d g = record {
  wide = a;
  columns = omega (arith, length-replicate {A = ℕ} room 0);
  rows = omega (arith, length-replicate {A = ℕ} room 0);
  narrow = omega (arith, length-replicate {A = ℕ} room 0);
  links = omega (arith, length-replicate {A = ℕ} room 0);
  values = omega arith;
  empty = (zero_all room, zero_all room);
}
  where
    zero_all : (n j : ℕ) → get_or (replicate {A = ℕ} n 0) j 0 ≡ 0
    zero_all n j = go (dec_lt j n)
      where
        go : Dec (j < n) → get_or (replicate {A = ℕ} n 0) j 0 ≡ 0
        go (yes l) = get_or-replicate n j 0 0 l
        go (no l) = get_or-eq_default (replicate n 0) 0 {n = j} (omega (arith, length-replicate {A = ℕ} n 0))

-- what is judged to be a room can be listed
pub good_walled : (c : Corner) (ds : List ℕ) → as_room_judged c ds ≡ Ok tt → Walled c ds
good_walled c ds g =
    let r = good_room c ds g in
    let k = good_steps c ds g in
    record { room = r.room; few = k.1; digits = k.0; near = r.near }

-- the answer, from how many steps are vertical
module _ (c : Corner) (ds : List ℕ) (g : as_room_judged c ds ≡ Ok tt) (v : ℕ) (e : v ≡ count (λ d. eqb (d % 2) 1) ds) where
  w : Walled c ds
  w = good_walled c ds g

  pub spans_half : length (rows_of c ds) ≡ v / 2
  spans_half = omega (arith, room_half c ds w.room w.digits)

  judged-by : (room : ℕ) (b : Bool) → ltb room (3 * length (rows_of c ds)) ≡ b → rows_judged c ds room (length (rows_of c ds)) ≡ when b SpanRoom
  judged-by room b t = rows-room c ds room (length (rows_of c ds)) g ∙ ap (λ (b : Bool). when b SpanRoom) t

  pub call_short : (before : List ℤ) → length before < 3 * (v / 2) → RowsCall c ds before (Err SpanRoom) before
  call_short before h =
      let t = judged-by (length before) true (lt-ltb (length before) (3 * length (rows_of c ds)) (omega (arith, spans_half))) in
      record {
        list = rows_of c ds;
        rows = λ _. rows_of-rows c ds w.room.closed;
        answer = sym (ap (λ (j : Judged). counted_of j (length (rows_of c ds))) t);
        buffer = sym (ap (λ (j : Judged). laid_if j (span_numbers (rows_of c ds)) before) t);
      }

  pub call_listed : (before after : List ℤ) → 3 * (v / 2) ≤ length before → after ≡ sets before 0 (span_numbers (rows_of c ds)) → RowsCall c ds before (Ok (v / 2)) after
  call_listed before after h u =
      let t = judged-by (length before) false (le-ltb (length before) (3 * length (rows_of c ds)) (omega (arith, spans_half))) in
      record {
        list = rows_of c ds;
        rows = λ _. rows_of-rows c ds w.room.closed;
        answer = ap Ok (sym spans_half) ∙ sym (ap (λ (j : Judged). counted_of j (length (rows_of c ds))) t);
        buffer = u ∙ written before (rows_of c ds) (omega (arith, spans_half)) ∙ sym (ap (λ (j : Judged). laid_if j (span_numbers (rows_of c ds)) before) t);
      }

-- What is asked of the rows of a room (RULES 14), as theorems about the list, `RowsIs`, and the call's promise, `RowsCall`. Each
-- is proved by naming a law.
-- Assumes nothing.
use Rattle.std.specs.Prelude.{Err, Ok}
use mathlib.Core.List.{List, ◌++◌, Memᴰ}
use mathlib.Core.Logic.{◌↔◌}
use mathlib.Core.Path.{◌≡◌, ap}
use Prim.Native.Nat.{ℕ, ◌*◌, ◌%◌}
use lib.Dec.{eqb}
use lib.IntN.{ℤ, nat_abs}
use lib.ListN.{length, drop}
use Rattle.answer.specs.Answers.{Counted}
use Rattle.lists.specs.Lists.{count, Below}
use Rattle.answer.specs.declared.{Refusal.Refusal}
use Rattle.answer.specs.Words.{counted_words}
use Rattle.grid.specs.declared.{Corner.Corner, Panel.Panel}
use Rattle.trace.specs.Verdict.{IsRoom, area_of}
use Rattle.panels.specs.Inside.{Inside}
use Rattle.row.specs.{Rows.Span, Rows.Covers, Rows.RowsIs, Rows.NextTo, Rows.lengths_of, Rows.span_numbers, Call.RowsCall}
use Rattle.row_laws.proofs.OneLaws as one_laws
use Rattle.row_laws.proofs.CallLaws as call_laws
use Rattle.demands.specs.GivenRows.{GivenRows}
use Rattle.demands.proofs.RowCallLaws as row_call_laws

-- any set of panels has one list at most
pub rows_is_one : (M : Panel → Type 0) (L L' : List Span) → RowsIs M L → RowsIs M L' → L ≡ L'
rows_is_one = one_laws.rows_is_one

-- "spans are as long as possible": no panel next to one is in the set
pub rows_maximal : (M : Panel → Type 0) (L : List Span) (s : Span) (q : Panel) → RowsIs M L → Memᴰ s L → NextTo s q → M q → ⊥
rows_maximal = one_laws.rows_is_maximal

-- the panels inside a room have one
pub rows_some : (c : Corner) (ds : List ℕ) → IsRoom c ds → (L : List Span) × RowsIs (Inside c ds) L
rows_some = row_call_laws.rows_some

module _ (c : Corner) (ds : List ℕ) (r : IsRoom c ds) (L : List Span) (k : RowsIs (Inside c ds) L) where
  -- "a panel is in a span exactly when an odd number of the outline's vertical edges in its row have x above the panel's"
  pub rows_panels : (p : Panel) → Covers L p ↔ Inside c ds p
  rows_panels = k.panels

  -- half as many spans as steps north and south
  pub rows_half : Below 4 ds → 2 * length L ≡ count (λ d. eqb (d % 2) 1) ds
  rows_half = row_call_laws.rows_half c ds r L k

  -- what the fitters lay is what the order says
  pub rows_area : lengths_of L ≡ nat_abs (area_of c ds)
  rows_area = row_call_laws.rows_area c ds r L k

-- every start, chain and buffer has an answer and a state of the buffer
pub rows_answers : (c : Corner) (ds : List ℕ) (before : List ℤ) → (r : Counted) × (after : List ℤ) × RowsCall c ds before r after
rows_answers = row_call_laws.rows_answers

module _ (c : Corner) (ds : List ℕ) (before : List ℤ) where
  -- and only one
  pub rows_call_one : {r₁ r₂ : Counted} {after₁ after₂ : List ℤ} → RowsCall c ds before r₁ after₁ → RowsCall c ds before r₂ after₂
      → (r₁ ≡ r₂) × (after₁ ≡ after₂)
  rows_call_one = call_laws.rows_call_one c ds before

  -- each answer exactly on its occasion: 1, 10, 4, 6, 12, then 21, otherwise the number of spans
  pub rows_exactly : {r : Counted} {after : List ℤ} → RowsCall c ds before r after → (s : Counted)
      → r ≡ s ↔ GivenRows c ds (length before) s
  rows_exactly = row_call_laws.rows-when c ds before

  -- the numbers of each
  pub rows_words : {r : Counted} {after : List ℤ} → RowsCall c ds before r after → (s : Counted)
      → GivenRows c ds (length before) s → counted_words r ≡ counted_words s
  rows_words w s g = ap counted_words ((rows_exactly w s).1 g)

  module _ {after : List ℤ} where
    -- "nothing written"
    pub rows_untouched : (q : Refusal) → RowsCall c ds before (Err q) after → after ≡ before
    rows_untouched = row_call_laws.rows_untouched c ds before

    -- the list, and "numbers after the list are unchanged"
    pub rows_written : (n : ℕ) → RowsCall c ds before (Ok n) after
        → (L : List Span) × RowsIs (Inside c ds) L × (n ≡ length L) × (after ≡ span_numbers L ++ drop (3 * length L) before)
    rows_written = row_call_laws.rows_written c ds before

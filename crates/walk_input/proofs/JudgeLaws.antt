-- The judgement of the input: what each test decides, what no fault says, and that no refusal is "no room".
-- Assumes nothing.
use Rattle.std.specs.Prelude.{Err, Ok}
use mathlib.Core.Bool.{Bool, true, false, not, ◌&&◌}
use mathlib.Core.List.{List, [], ◌∷◌}
use mathlib.Core.Path.{◌≡◌, refl, ap, ◌∙◌}
use Prim.Native.Nat.{ℕ, suc, ◌+◌, ◌*◌, ◌%◌, ◌<◌, ◌≤◌, ◌^◌}
use native.Mathlib.Omega.{arith}
use borrow.Author.Tests.{eq-eqb, ne_eqb, lt-ltb, le-ltb, leb-true}
use lib.Dec.{eqb, ltb, leb}
use lib.ListN.{length}
use Rattle.answer.specs.Answers.{Judged}
use Rattle.answer.specs.declared.Refusal.{Refusal}
use Rattle.answer.specs.declared.Refusal.TheVariants.{TooMany, Table, ResultRoom, BadDigit, NothingToTake, TooLong, StartRange}
use Rattle.answer.specs.Refusal.{or_else, when, refusal_number}
use Rattle.answer.specs.Limits.{most_input, most_steps, most_records, Near, start_fits}
use Rattle.grid.specs.declared.Corner.{Corner}
use Rattle.walk.specs.Walk.{table_fits, buffer_by}
use Rattle.steps.specs.Operations.{fault_of, operations_judged, after}
use Rattle.layout.specs.Marks.{mark_words}
use Rattle.layout.specs.Table.{width, records_in}
use Rattle.lists.proofs.GatherLaws.{and_left, and_right}
use Rattle.order.specs.Highest.{highest_of}
use Rattle.walk.proofs.JudgedLaws.{input_fits}
use Rattle.walk_input.specs.Input.{input_judged}

pub fault_bad : (i n o : ℕ) → 4 < o → Err (BadDigit i) ≡ fault_of i n o
fault_bad i n o h = rw (lt-ltb 4 o h)

pub fault_nothing : (i n o : ℕ) → o ≡ 4 → n ≡ 0 → Err (NothingToTake i) ≡ fault_of i n o
fault_nothing i n o e z = rw (e, z)

pub fault_long : (i n o : ℕ) → o ≤ 4 → (o ≡ 4 → ⊥) → most_steps ≤ n → Err (TooLong i) ≡ fault_of i n o
fault_long i n o h e l = rw (le-ltb 4 o h, ne_eqb o 4 e, le-ltb n most_steps l)

fault_fits : (i n o : ℕ) → o ≤ 4 → (o ≡ 4 → ⊥) → n < most_steps → Ok tt ≡ fault_of i n o
fault_fits i n o h e l = rw (le-ltb 4 o h, ne_eqb o 4 e, lt-ltb n most_steps l)

after_step : (n o : ℕ) → (o ≡ 4 → ⊥) → n + 1 ≡ after n o
after_step n o e = rw (ne_eqb o 4 e, after)

-- no 4 and not too many: no fault
pub steps_fine : (i n : ℕ) (os : List ℕ) → highest_of os ≤ 3 → n + length os ≤ most_steps → Ok tt ≡ operations_judged i n os
steps_fine i n [] h l = refl
steps_fine i n (o ∷ os) h l =
    let f : Ok tt ≡ fault_of i n o = fault_fits i n o (omega arith) (λ e. omega arith) (omega arith) in
    let a : n + 1 ≡ after n o = after_step n o (λ e. omega arith) in
    steps_fine (suc i) (after n o) os (omega arith) (omega (arith, a)) ∙ ap (λ (j : Judged). or_else j (operations_judged (suc i) (after n o) os)) f

module _ (c : Corner) (os : List ℕ) (w m k : ℕ) where
  pub input_many : most_input < length os → Err TooMany ≡ input_judged c os w m k
  input_many h = rw (lt-ltb most_input (length os) h)

  module _ (few : length os ≤ most_input) where
    pub input_table : table_fits w ≡ false → Err Table ≡ input_judged c os w m k
    input_table e = rw (le-ltb most_input (length os) few, e)

    module _ (fits : table_fits w ≡ true) where
      pub input_marks : (m ≡ mark_words * length os → ⊥) → Err ResultRoom ≡ input_judged c os w m k
      input_marks e = rw (le-ltb most_input (length os) few, fits, ne_eqb m (mark_words * length os) e)

      pub input_chain : m ≡ mark_words * length os → (k ≡ length os → ⊥) → Err ResultRoom ≡ input_judged c os w m k
      input_chain p e = rw (le-ltb most_input (length os) few, fits, eq-eqb m (mark_words * length os) p, ne_eqb k (length os) e)

-- ---- an input with no fault
fits_words : (w : ℕ) → table_fits w ≡ true → (width ≤ w) × (w < 2 ^ 32)
fits_words w e =
    let a = eqb (w % width) 0 in
    let b = leb 1 (records_in w) in
    let d = leb (records_in w) most_records in
    let h : a && b ≡ true = and_left (a && b) d e in
    let l : 1 ≤ records_in w = leb-true 1 (records_in w) (and_right a b h) in
    let m : records_in w ≤ most_records = leb-true (records_in w) most_records (and_right (a && b) d e) in
    (omega arith, omega arith)

pub record Sized (c : Corner) (os : List ℕ) (w m k : ℕ) : Type 0 where
  pub few : length os ≤ most_input
  pub least : width ≤ w
  pub most : w < 2 ^ 32
  pub marks : m ≡ mark_words * length os
  pub chain : k ≡ length os
  pub start : Near c
  pub fine : operations_judged 0 0 os ≡ Ok tt

pub input_good : (c : Corner) (os : List ℕ) (w m k : ℕ) → input_judged c os w m k ≡ Ok tt → Sized c os w m k
input_good c os w m k e =
    let h = input_fits c os w m k e in
    let t = fits_words w h.table in
    record { few = h.few; least = t.0; most = t.1; marks = h.marks; chain = h.chain; start = h.start; fine = h.fine }

-- no refusal of the input is "no room"
abbrev pub Early : Judged → Type 0
Early (Ok _) = Unit {0}
Early (Err r) = eqb (refusal_number r) 7 ≡ false

-- such a refusal leaves a buffer as it was
pub untouched : (r : Refusal) (new old : List ℕ) → Early (Err r) → buffer_by (Err r) new old ≡ old
untouched r new old e = rw e

pub early_when : (b : Bool) (r : Refusal) → eqb (refusal_number r) 7 ≡ false → Early (when b r)
early_when true r e = e
early_when false r e = tt

pub early_or : (a b : Judged) → Early a → Early b → Early (or_else a b)
early_or (Ok _) b p q = q
early_or (Err r) b p q = p

pub early_fault : (i n o : ℕ) → Early (fault_of i n o)
early_fault i n o =
    let a = when (ltb 4 o) (BadDigit i) in
    let b = when (eqb o 4 && eqb n 0) (NothingToTake i) in
    let d = when (not (eqb o 4) && not (ltb n most_steps)) (TooLong i) in
    early_or a (or_else b (or_else d (Ok tt))) (early_when (ltb 4 o) (BadDigit i) refl)
    (early_or b (or_else d (Ok tt)) (early_when (eqb o 4 && eqb n 0) (NothingToTake i) refl)
    (early_or d (Ok tt) (early_when (not (eqb o 4) && not (ltb n most_steps)) (TooLong i) refl) tt))

early_faults : (i n : ℕ) (os : List ℕ) → Early (operations_judged i n os)
early_faults i n [] = tt
early_faults i n (o ∷ os) = early_or (fault_of i n o) (operations_judged (suc i) (after n o) os) (early_fault i n o) (early_faults (suc i) (after n o) os)

pub early_input : (c : Corner) (os : List ℕ) (w m k : ℕ) → Early (input_judged c os w m k)
early_input c os w m k =
    let a = when (ltb most_input (length os)) TooMany in
    let b = when (not (table_fits w)) Table in
    let x = not (eqb m (mark_words * length os) && eqb k (length os)) in
    let d = when x ResultRoom in
    let s = when (not (start_fits c)) StartRange in
    let f = operations_judged 0 0 os in
    early_or a (or_else b (or_else d (or_else s (or_else f (Ok tt))))) (early_when (ltb most_input (length os)) TooMany refl)
    (early_or b (or_else d (or_else s (or_else f (Ok tt)))) (early_when (not (table_fits w)) Table refl)
    (early_or d (or_else s (or_else f (Ok tt))) (early_when x ResultRoom refl)
    (early_or s (or_else f (Ok tt)) (early_when (not (start_fits c)) StartRange refl)
    (early_or f (Ok tt) (early_faults 0 0 os) tt))))

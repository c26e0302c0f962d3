-- What the judgement of the input of two parties says to the call: the room decides last, an input that is not refused has these sizes, and no
-- refusal of the input is "no room".
-- Assumes nothing.
use Rattle.std.specs.Prelude.{Ok}
use mathlib.Core.Bool.{true, cond, not, ◌&&◌}
use mathlib.Core.List.{List, [], ◌∷◌}
use mathlib.Core.Path.{◌≡◌, refl}
use Prim.Native.Nat.{ℕ, suc, ◌*◌, ◌%◌, ◌<◌, ◌≤◌, ◌^◌}
use native.Mathlib.Omega.{arith}
use borrow.Author.Tests.{eqb-true, ltb-false, leb-true, not-false}
use lib.Dec.{eqb, ltb, leb}
use lib.ListN.{length}
use Rattle.answer.specs.declared.Refusal.TheVariants.{TooMany, Table, ResultRoom, StartRange, UnknownParty}
use Rattle.answer.specs.Refusal.{or_else, when}
use Rattle.answer.specs.Limits.{most_input, most_pair_records, Near, start_fits}
use Rattle.grid.specs.declared.Corner.{Corner}
use Rattle.layout.specs.Marks.{mark_words}
use Rattle.steps.specs.Operations.{fault_of}
use Rattle.answer.proofs.RefusalLaws.{clear, first_of-last, when_good}
use Rattle.answer.proofs.StartLaws.{fits_near}
use Rattle.lists.proofs.GatherLaws.{and_left, and_right}
use Rattle.pair_steps.specs.Parties.{party_of, op_of, moves, after_by, byte_fault_of, bytes_judged}
use Rattle.pair_table.specs.Words.{pair_width, pair_records_in}
use Rattle.pair.specs.Call.{pair_fits, pair_roomy, pair_room_from, pair_judged}
use Rattle.walk_input.proofs.JudgeLaws.{Early, early_when, early_or, early_fault}
use Rattle.pair_input.specs.Judges.{pair_input_judgements, pair_input_judged}

module _ (c e : Corner) (os : List ℕ) (w m k l : ℕ) where
  -- the size of the table decides last
  pub pair_judged_split : pair_judged c e os w m k l ≡ or_else (pair_input_judged c e os w m k l) (pair_room_from (pair_records_in w) c e 0 [] [] os)
  pair_judged_split = first_of-last (pair_input_judgements c e os w m k l) (pair_room_from (pair_records_in w) c e 0 [] [] os)

fits_words : (w : ℕ) → pair_fits w ≡ true → (w % pair_width ≡ 0) × (pair_width ≤ w) × (w < 2 ^ 32)
fits_words w e =
    let a = eqb (w % pair_width) 0 in
    let b = leb 1 (pair_records_in w) in
    let d = leb (pair_records_in w) most_pair_records in
    let h : a && b ≡ true = and_left (a && b) d e in
    let l : 1 ≤ pair_records_in w = leb-true 1 (pair_records_in w) (and_right a b h) in
    let m : pair_records_in w ≤ most_pair_records = leb-true (pair_records_in w) most_pair_records (and_right (a && b) d e) in
    (eqb-true (w % pair_width) 0 (and_left a b h), omega arith, omega arith)

-- ---- an input with no fault
pub record PairSized (c e : Corner) (os : List ℕ) (w m k l : ℕ) : Type 0 where
  pub few : length os ≤ most_input
  pub whole : w % pair_width ≡ 0
  pub least : pair_width ≤ w
  pub most : w < 2 ^ 32
  pub marks : m ≡ mark_words * length os
  pub first : k ≡ length os
  pub second : l ≡ length os
  pub start : Near c
  pub other : Near e
  pub fine : bytes_judged 0 0 0 os ≡ Ok tt

pub pair_input_good : (c e : Corner) (os : List ℕ) (w m k l : ℕ) → pair_input_judged c e os w m k l ≡ Ok tt → PairSized c e os w m k l
pair_input_good c e os w m k l p =
    let h = clear (pair_input_judgements c e os w m k l) p in
    let x = eqb m (mark_words * length os) in
    let y = eqb k (length os) in
    let z = eqb l (length os) in
    let r : x && y && z ≡ true = not-false (x && y && z) (when_good (not (x && y && z)) ResultRoom h.1.1.0) in
    let s : x && y ≡ true = and_left (x && y) z r in
    let t = fits_words w (not-false (pair_fits w) (when_good (not (pair_fits w)) Table h.1.0)) in
    record {
      few = ltb-false most_input (length os) (when_good (ltb most_input (length os)) TooMany h.0);
      whole = t.0;
      least = t.1;
      most = t.2;
      marks = eqb-true m (mark_words * length os) (and_left x y s);
      first = eqb-true k (length os) (and_right x y s);
      second = eqb-true l (length os) (and_right (x && y) z r);
      start = fits_near c (not-false (start_fits c) (when_good (not (start_fits c)) StartRange h.1.1.1.0));
      other = fits_near e (not-false (start_fits e) (when_good (not (start_fits e)) StartRange h.1.1.1.1.0));
      fine = h.1.1.1.1.1.0;
    }

-- ---- no refusal of the input is "no room"
early_byte : (i m n o : ℕ) → Early (byte_fault_of i m n o)
early_byte i m n o =
    early_or (when (ltb 1 (party_of o)) (UnknownParty i)) (fault_of i (cond (moves 0 o) m n) (op_of o)) (early_when (ltb 1 (party_of o)) (UnknownParty i) refl) (early_fault i (cond (moves 0 o) m n) (op_of o))

early_bytes : (i m n : ℕ) (os : List ℕ) → Early (bytes_judged i m n os)
early_bytes i m n [] = tt
early_bytes i m n (o ∷ os) = early_or (byte_fault_of i m n o) (bytes_judged (suc i) (after_by 0 m o) (after_by 1 n o) os) (early_byte i m n o) (early_bytes (suc i) (after_by 0 m o) (after_by 1 n o) os)

pub early_pair : (c e : Corner) (os : List ℕ) (w m k l : ℕ) → Early (pair_input_judged c e os w m k l)
early_pair c e os w m k l =
    let a = when (ltb most_input (length os)) TooMany in
    let b = when (not (pair_fits w)) Table in
    let d = when (not (pair_roomy (length os) m k l)) ResultRoom in
    let s = when (not (start_fits c)) StartRange in
    let s' = when (not (start_fits e)) StartRange in
    let f = bytes_judged 0 0 0 os in
    early_or a (or_else b (or_else d (or_else s (or_else s' (or_else f (Ok tt)))))) (early_when (ltb most_input (length os)) TooMany refl)
    (early_or b (or_else d (or_else s (or_else s' (or_else f (Ok tt))))) (early_when (not (pair_fits w)) Table refl)
    (early_or d (or_else s (or_else s' (or_else f (Ok tt)))) (early_when (not (pair_roomy (length os) m k l)) ResultRoom refl)
    (early_or s (or_else s' (or_else f (Ok tt))) (early_when (not (start_fits c)) StartRange refl)
    (early_or s' (or_else f (Ok tt)) (early_when (not (start_fits e)) StartRange refl)
    (early_or f (Ok tt) (early_bytes 0 0 0 os) tt)))))

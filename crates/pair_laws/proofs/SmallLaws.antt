-- The numbers of an answer to two parties are small: a place is one of the input, and an accepted call has few nodes, steps and corners.
-- Assumes nothing.
use Rattle.std.specs.Prelude.{Ok}
use mathlib.Core.Bool.{Bool, true, false, cond, not, ◌&&◌}
use mathlib.Core.List.{List, [], ◌∷◌}
use mathlib.Core.Path.{◌≡◌, refl, subst}
use Prim.Native.Nat.{ℕ, zero, suc, ◌+◌, ◌%◌, ◌≤◌}
use native.Mathlib.Omega.{arith}
use borrow.Author.Tests.{ltb-false, leb-true, not-false}
use lib.Dec.{eqb, ltb, leb}
use lib.ListN.{length, take}
use lib.Seq.{take_all}
use Rattle.answer.specs.Answers.{Judged}
use Rattle.answer.specs.declared.Refusal.TheVariants.{Table, ResultRoom, NoRoom, StartRange, UnknownParty}
use Rattle.answer.specs.Refusal.{when, or_else}
use Rattle.answer.specs.Limits.{most_input, most_steps, most_pair_records, start_fits}
use Rattle.grid.specs.declared.Corner.{Corner}
use Rattle.steps.specs.Operations.{fault_of, operations_judged, Walkable}
use Rattle.answer.proofs.RefusalLaws.{clear, when_good}
use Rattle.lists.proofs.GatherLaws.{and_right}
use Rattle.steps.proofs.SurvivorLaws.{walkable_survivors}
use Rattle.walk.proofs.SmallLaws.{Placed, placed-when, placed_or, placed-more, placed_fault, FewSeen, seen_few}
use Rattle.pair_steps.specs.Parties.{party_of, op_of, moves, own_ops, steps_by, moved_by, after_by, bytes_judged}
use Rattle.pair_steps.proofs.PartyLaws.{pair_faults_own}
use Rattle.pair_table.specs.Slots.{needs_of}
use Rattle.pair_table.specs.Words.{pair_width, pair_records_in}
use Rattle.pair.specs.Call.{pair_fits, pair_roomy, pair_room_at, pair_room_from, pair_judgements, pair_judged}
use Rattle.pair_laws.proofs.RoomLaws.{room-all}

placed-bytes : (i m n : ℕ) (os : List ℕ) → Placed (i + length os) (bytes_judged i m n os)
placed-bytes i m n [] = tt
placed-bytes i m n (o ∷ os) =
    let b = i + suc (length os) in
    let p = when (ltb 1 (party_of o)) (UnknownParty i) in
    let f = fault_of i (cond (moves 0 o) m n) (op_of o) in
    let j = bytes_judged (suc i) (after_by 0 m o) (after_by 1 n o) os in
    placed_or b (or_else p f) j (placed_or b p f (placed-when b (ltb 1 (party_of o)) (UnknownParty i) (omega arith)) (placed-more i b f (omega arith) (placed_fault i (cond (moves 0 o) m n) (op_of o))))
    (placed-more (suc i + length os) b j (omega arith) (placed-bytes (suc i) (after_by 0 m o) (after_by 1 n o) os))

placed_at : (b r : ℕ) (c e : Corner) (k : ℕ) (ds es : List ℕ) → k ≤ b → Placed b (pair_room_at r c e k ds es)
placed_at b r c e zero ds es h = placed-when b (ltb r (length (needs_of c e ds es))) (NoRoom 0) (omega arith)
placed_at b r c e (suc k) ds es h = placed-when b (ltb r (length (needs_of c e ds es))) (NoRoom k) (omega arith)

placed-room : (r : ℕ) (c e : Corner) (k : ℕ) (ds es os : List ℕ) → Placed (k + length os) (pair_room_from r c e k ds es os)
placed-room r c e k ds es [] = placed_at (k + 0) r c e k ds es (omega arith)
placed-room r c e k ds es (o ∷ os) =
    let b = k + suc (length os) in
    let j = pair_room_from r c e (suc k) (moved_by 0 ds o) (moved_by 1 es o) os in
    placed_or b (pair_room_at r c e k ds es) j (placed_at b r c e k ds es (omega arith)) (placed-more (suc k + length os) b j (omega arith) (placed-room r c e (suc k) (moved_by 0 ds o) (moved_by 1 es o) os))

-- the place of a refusal
pub pair_placed : (c e : Corner) (os : List ℕ) (w m k l : ℕ) → Placed most_input (pair_judged c e os w m k l)
pair_placed c e os w m k l = go (ltb most_input (length os)) refl
  where
    b : Judged
    b = when (not (pair_fits w)) Table

    d : Judged
    d = when (not (pair_roomy (length os) m k l)) ResultRoom

    s : Judged
    s = when (not (start_fits c)) StartRange

    s' : Judged
    s' = when (not (start_fits e)) StartRange

    rest : length os ≤ most_input → Placed most_input (or_else b (or_else d (or_else s (or_else s' (or_else (bytes_judged 0 0 0 os) (or_else (pair_room_from (pair_records_in w) c e 0 [] [] os) (Ok tt)))))))
    rest h =
        let f = bytes_judged 0 0 0 os in
        let r = pair_room_from (pair_records_in w) c e 0 [] [] os in
        placed_or most_input b (or_else d (or_else s (or_else s' (or_else f (or_else r (Ok tt)))))) (placed-when most_input (not (pair_fits w)) Table (omega arith))
        (placed_or most_input d (or_else s (or_else s' (or_else f (or_else r (Ok tt))))) (placed-when most_input (not (pair_roomy (length os) m k l)) ResultRoom (omega arith))
        (placed_or most_input s (or_else s' (or_else f (or_else r (Ok tt)))) (placed-when most_input (not (start_fits c)) StartRange (omega arith))
        (placed_or most_input s' (or_else f (or_else r (Ok tt))) (placed-when most_input (not (start_fits e)) StartRange (omega arith))
        (placed_or most_input f (or_else r (Ok tt)) (placed-more (0 + length os) most_input f (omega arith) (placed-bytes 0 0 0 os))
        (placed_or most_input r (Ok tt) (placed-more (0 + length os) most_input r (omega arith) (placed-room (pair_records_in w) c e 0 [] [] os)) tt)))))

    go : (t : Bool) → ltb most_input (length os) ≡ t → Placed most_input (pair_judged c e os w m k l)
    go true e = rw e (omega arith)
    go false e = rw e (rest (ltb-false most_input (length os) e))

-- the facts of an accepted call
pub record PairFew (c e : Corner) (os : List ℕ) : Type 0 where
  pub nodes : length (needs_of c e (steps_by 0 os) (steps_by 1 os)) ≤ most_pair_records
  pub first : FewSeen c (steps_by 0 os)
  pub second : FewSeen e (steps_by 1 os)

fits_most : (w : ℕ) → pair_fits w ≡ true → pair_records_in w ≤ most_pair_records
fits_most w e = leb-true (pair_records_in w) most_pair_records (and_right (eqb (w % pair_width) 0 && leb 1 (pair_records_in w)) (leb (pair_records_in w) most_pair_records) e)

-- the surviving steps of a party are few
own_few : (q : ℕ) (os : List ℕ) → ((j : ℕ) → operations_judged j 0 (own_ops q os) ≡ Ok tt) → length (steps_by q os) ≤ most_steps
own_few q os h = let s : Walkable (steps_by q os) = walkable_survivors 0 [] (own_ops q os) (record { digits = tt; few = omega arith }) (h 0) in s.few

pub pair_few : (c e : Corner) (os : List ℕ) (w m k l : ℕ) → pair_judged c e os w m k l ≡ Ok tt → PairFew c e os
pair_few c e os w m k l g =
    let h = clear (pair_judgements c e os w m k l) g in
    let f = pair_faults_own 0 0 0 os h.1.1.1.1.1.0 in
    let r = room-all (pair_records_in w) c e 0 [] [] os h.1.1.1.1.1.1.0 (length os) (omega arith) in
    let t : take (length os) os ≡ os = take_all (length os) os (omega arith) in
    let n : length (needs_of c e (steps_by 0 os) (steps_by 1 os)) ≤ pair_records_in w = subst (λ (x : List ℕ). length (needs_of c e (steps_by 0 x) (steps_by 1 x)) ≤ pair_records_in w) t r in
    record {
      nodes = omega (arith, n, fits_most w (not-false (pair_fits w) (when_good (not (pair_fits w)) Table h.1.0)));
      first = seen_few c (steps_by 0 os) (own_few 0 os f.1);
      second = seen_few e (steps_by 1 os) (own_few 1 os f.2);
    }

-- The record of both parties' surviving steps alone gives the same; the nodes at every moment; and tables that are large enough.
-- Assumes nothing.
use Rattle.std.specs.Prelude.{Err, Ok}
use mathlib.Core.Bool.{false}
use mathlib.Core.List.{List, [], ◌∷◌}
use mathlib.Core.Path.{◌≡◌, refl, ap, ap₂, sym, ◌∙◌, subst, subst₂}
use Prim.Native.Nat.{ℕ, zero, suc, ◌+◌, ◌*◌, ◌<◌, ◌≤◌}
use native.Mathlib.Omega.{arith}
use borrow.Author.Tests.{ltb-false, le-ltb, eq-eqb}
use lib.Dec.{ltb}
use lib.ListN.{length, take}
use lib.Seq.{take_all}
use Rattle.answer.specs.Answers.{Judged, PairAnswer}
use Rattle.answer.specs.declared.PairFacts.{PairFacts}
use Rattle.answer.specs.declared.Refusal.TheVariants.{TooMany, NoRoom}
use Rattle.answer.specs.Refusal.{or_else}
use Rattle.lists.specs.Lists.{Below}
use Rattle.grid.specs.declared.Corner.{Corner}
use Rattle.answer.specs.Limits.{most_input, most_steps, Near}
use Rattle.trace.specs.Meeting.{visited_of}
use Rattle.tree.specs.Nodes.{nodes_of}
use Rattle.layout.specs.Marks.{mark_words}
use Rattle.tree_laws.proofs.CountLaws.{few_nodes_from}
use Rattle.demands.proofs.AloneLaws.{corners-within}
use Rattle.grid.specs.Grid.{corners_from}
use Rattle.steps.specs.Operations.{survivors, operations_judged, Walkable}
use Rattle.answer.proofs.RefusalLaws.{clear, clear_first, when_good, or_else_good}
use Rattle.steps.proofs.SurvivorLaws.{walkable_survivors, survivors-steps, steps_accepted, length-survivors}
use Rattle.pair_steps.specs.Parties.{by_party, own_ops, steps_by, after_by, byte_fault_of, bytes_judged}
use Rattle.pair_steps.proofs.PartyLaws.{pair_faults_own, own_faults_pair, own_lengths}
use Rattle.trace.proofs.VisitLaws.{length_visited_le}
use Rattle.grid.proofs.StepLaws.{length-corners_from}
use Rattle.pair_table.specs.Slots.{needs_of, slots_of}
use Rattle.pair_table.specs.Words.{pair_records_in}
use Rattle.pair.specs.Call.{pair_room_from, pair_judgements, pair_facts_of, pair_answer_by, PairLent, pair_judged_in, PairIs}
use Rattle.pair_laws.specs.Same.{SameButNumbers}
use Rattle.pair_laws.specs.Moments.{own_after, pair_nodes_after, pair_corners_after}
use Rattle.pair_laws.specs.Alone.{AloneOf, PairLentAlone, alone_in}
use Rattle.pair_laws.proofs.RoomLaws.{room-all, room-steps}
use Rattle.pair_laws.proofs.UnionLaws.{union_le}
use Rattle.pair_laws.proofs.MixLaws.{alone_mixed}
use Rattle.pair_demands.specs.Enough.{PairAtMostEight}
use Rattle.pair_demands.specs.Given.{PairFaultless}
use Rattle.pair_demands.proofs.GivenLaws.{no_faults}
use Rattle.pair_demands.proofs.PairLaws.{judged_good, its_facts, no_room-at}
use Rattle.pair_demands.proofs.EndLaws.{own-steps, same_table}

-- ---- what survives of bytes with no fault
-- no fault in the bytes, none in the first k of them
faults_take : (k i m n : ℕ) (os : List ℕ) → bytes_judged i m n os ≡ Ok tt → bytes_judged i m n (take k os) ≡ Ok tt
faults_take zero i m n os e = refl
faults_take (suc k) i m n [] e = e
faults_take (suc k) i m n (o ∷ os) e =
    let h = or_else_good (byte_fault_of i m n o) (bytes_judged (suc i) (after_by 0 m o) (after_by 1 n o) os) e in
    ap₂ or_else h.0 (faults_take k (suc i) (after_by 0 m o) (after_by 1 n o) os h.1)

-- the steps of both are directions, and few
sound_both : (os : List ℕ) → bytes_judged 0 0 0 os ≡ Ok tt → Walkable (steps_by 0 os) × Walkable (steps_by 1 os)
sound_both os e =
    let h = pair_faults_own 0 0 0 os e in
    let f : (j : ℕ) → operations_judged j 0 (own_ops 0 os) ≡ Ok tt = h.1 in
    let g : (j : ℕ) → operations_judged j 0 (own_ops 1 os) ≡ Ok tt = h.2 in
    (walkable_survivors 0 [] (own_ops 0 os) (record { digits = tt; few = omega arith }) (f 0), walkable_survivors 0 [] (own_ops 1 os) (record { digits = tt; few = omega arith }) (g 0))

module _ (c e : Corner) {os alone : List ℕ} {b b₁ : PairLent} (good : pair_judged_in c e os b ≡ Ok tt) (a : AloneOf os alone) (lent : PairLentAlone alone b b₁) where
  abbrev kept : List Judged
  kept = pair_judgements c e os (length b.table) (length b.marks) (length b.first) (length b.second)

  no_fault : bytes_judged 0 0 0 os ≡ Ok tt
  no_fault = (clear kept good).1.1.1.1.1.0

  -- each party's surviving steps survive
  steps_stay : (q : ℕ) → own_ops q alone ≡ steps_by q os → Walkable (steps_by q os) → steps_by q alone ≡ steps_by q os
  steps_stay q x s = ap survivors x ∙ survivors-steps [] (steps_by q os) s.digits

  shorter : length alone ≤ length os
  shorter =
      let h = pair_faults_own 0 0 0 os no_fault in
      omega (
        arith,
        own_lengths alone a.known,
        own_lengths os h.0,
        ap length a.first,
        ap length a.second,
        length-survivors [] (own_ops 0 os),
        length-survivors [] (own_ops 1 os),
      )

  no_fault_alone : bytes_judged 0 0 0 alone ≡ Ok tt
  no_fault_alone =
      let s = sound_both os no_fault in
      own_faults_pair 0 0 0 0 0 alone a.known
      (subst (λ (l : List ℕ). operations_judged 0 0 l ≡ Ok tt) (sym a.first) (steps_accepted 0 0 (steps_by 0 os) s.0.digits (omega (arith, s.0.few))))
      (subst (λ (l : List ℕ). operations_judged 0 0 l ≡ Ok tt) (sym a.second) (steps_accepted 0 0 (steps_by 1 os) s.1.digits (omega (arith, s.1.few))))

  room_alone : pair_room_from (pair_records_in (length b.table)) c e 0 [] [] alone ≡ Ok tt
  room_alone =
      let s = sound_both os no_fault in
      let r = pair_records_in (length b.table) in
      let last : length (needs_of c e (steps_by 0 (take (length os) os)) (steps_by 1 (take (length os) os))) ≤ r = room-all r c e 0 [] [] os (clear kept good).1.1.1.1.1.1.0 (length os) (omega arith) in
      let end : length (needs_of c e (steps_by 0 os) (steps_by 1 os)) ≤ r = subst (λ (l : List ℕ). length (needs_of c e (steps_by 0 l) (steps_by 1 l)) ≤ r) (take_all (length os) os (omega arith)) last in
      room-steps r c e 0 [] [] alone (subst (Below 4) (sym a.first) s.0.digits) (subst (Below 4) (sym a.second) s.1.digits)
      (subst₂ (λ (x y : List ℕ). length (needs_of c e x y) ≤ r) (sym a.first) (sym a.second) end)

  -- they are accepted alone, in a table of the same size
  good_alone : pair_judged_in c e alone b₁ ≡ Ok tt
  good_alone =
      let h = clear kept good in
      let l : length os ≤ most_input = ltb-false most_input (length os) (when_good (ltb most_input (length os)) TooMany h.0) in
      let m : ltb most_input (length alone) ≡ false = le-ltb most_input (length alone) (omega (arith, shorter)) in
      rw lent.table
      (clear_first (pair_judgements c e alone (length b.table) (length b₁.marks) (length b₁.first) (length b₁.second)) (
        rw m,
        (
          h.1.0,
          (
            rw (eq-eqb (length b₁.marks) (mark_words * length alone) lent.marks, eq-eqb (length b₁.first) (length alone) lent.first, eq-eqb (length b₁.second) (length alone) lent.second),
            (h.1.1.1.0, (h.1.1.1.1.0, (no_fault_alone, (room_alone, tt)))),
          ),
        ),
      ))

module _ {c e : Corner} {os alone : List ℕ} {b b' b₁ b₂ : PairLent} {f : PairFacts} {r : PairAnswer}
    (w : PairIs c e os b (Ok f) b') (a : AloneOf os alone) (v : PairIs c e alone b₁ r b₂) (lent : PairLentAlone alone b b₁) where
  firsts : steps_by 0 alone ≡ steps_by 0 os
  firsts = steps_stay c e (judged_good w) a lent 0 a.first (sound_both os (no_fault c e (judged_good w) a lent)).0

  seconds : steps_by 1 alone ≡ steps_by 1 os
  seconds = steps_stay c e (judged_good w) a lent 1 a.second (sound_both os (no_fault c e (judged_good w) a lent)).1

  pub alone_answer : r ≡ Ok f
  alone_answer =
      v.answer
      ∙ ap₂ pair_answer_by (good_alone c e (judged_good w) a lent) (ap₂ (pair_facts_of c e) firsts seconds)
      ∙ ap (λ (g : PairFacts). Ok g) (sym (its_facts w))

  accepted : PairIs c e alone b₁ (Ok f) b₂
  accepted = subst (λ (x : PairAnswer). PairIs c e alone b₁ x b₂) alone_answer v

  pub alone_table : SameButNumbers (slots_of c e os) (slots_of c e alone) b'.table b₂.table
  alone_table = same_table w accepted (sym firsts) (sym seconds)

  by-steps : (q : ℕ) → q < 2 → steps_by q alone ≡ steps_by q os
  by-steps zero h = firsts
  by-steps (suc zero) h = seconds
  by-steps (suc (suc q)) h = absurd (omega arith)

  pub alone_steps : (q : ℕ) → q < 2 → take (by_party q f.first f.second).steps (by_party q b₂.first b₂.second) ≡ take (by_party q f.first f.second).steps (by_party q b'.first b'.second)
  alone_steps q h = own-steps accepted q h ∙ by-steps q h ∙ sym (own-steps w q h)

-- the bytes whose steps survive, mixed as they came, are such a record
pub alone_some : {c e : Corner} {os : List ℕ} {b b' : PairLent} {f : PairFacts} → PairIs c e os b (Ok f) b' → AloneOf os (alone_in os)
alone_some {c} {e} {os} {b} w =
    let h = clear (pair_judgements c e os (length b.table) (length b.marks) (length b.first) (length b.second)) (judged_good w) in
    alone_mixed os (pair_faults_own 0 0 0 os h.1.1.1.1.1.0).0

-- ---- nodes and corners at every moment
module _ {c e : Corner} {os : List ℕ} {b : PairLent} (h : PairFaultless c e os b) where
  steps_few : (k : ℕ) → (length (own_after 0 os k) ≤ most_steps) × (length (own_after 1 os k) ≤ most_steps)
  steps_few k = let s = sound_both (take k os) (faults_take k 0 0 0 os (no_faults c e os b h)) in (s.0.few, s.1.few)

  few_own : (s : Corner) (ds : List ℕ) → Near s → length ds ≤ most_steps → length (nodes_of (corners_from s ds)) ≤ 4 * length (visited_of (corners_from s ds)) + 64
  few_own s ds n l = few_nodes_from 16 s ds (corners-within s ds n l)

  pub four_and_more : (k : ℕ) → pair_nodes_after c e os k ≤ 4 * pair_corners_after c e os k + 128
  four_and_more k =
      let ds = own_after 0 os k in
      let es = own_after 1 os k in
      let p = steps_few k in
      omega (arith, union_le (corners_from c ds) (corners_from e es), few_own c ds h.sized.first p.0, few_own e es h.sized.second p.1)

  pub at_most_eight : (k : ℕ) → PairAtMostEight (pair_nodes_after c e os k) (pair_corners_after c e os k)
  at_most_eight k = omega (arith, four_and_more k)

  few_corners : (k : ℕ) → pair_corners_after c e os k ≤ 32770
  few_corners k =
      let p = steps_few k in
      let ps = corners_from c (own_after 0 os k) in
      let qs = corners_from e (own_after 1 os k) in
      omega (arith, length_visited_le ps, length_visited_le qs, length-corners_from c (own_after 0 os k), length-corners_from e (own_after 1 os k), p.0, p.1)

module _ {c e : Corner} {os : List ℕ} {b b' : PairLent} {r : PairAnswer} (w : PairIs c e os b r b') where
  -- a table that has this many records at every moment
  enough_four : ((k : ℕ) → k ≤ length os → 4 * pair_corners_after c e os k + 128 ≤ pair_records_in (length b.table)) → (i : ℕ) → r ≡ Err (NoRoom i) → ⊥
  enough_four f i x =
      let n = (no_room-at w i).0 x in
      let y = n.1 in
      let l : y.0 ≤ length os = omega (arith, y.2.inside) in
      omega (arith, f y.0 l, y.2.here, four_and_more n.0 y.0)

  pub enough_eight : ((k : ℕ) → k ≤ length os → 8 * pair_corners_after c e os k + 136 ≤ pair_records_in (length b.table)) → (i : ℕ) → r ≡ Err (NoRoom i) → ⊥
  enough_eight f = enough_four (λ k h. omega (arith, f k h))

  -- 131,208 records are enough for any two walks
  pub enough_always : 131208 ≤ pair_records_in (length b.table) → (i : ℕ) → r ≡ Err (NoRoom i) → ⊥
  enough_always h i x =
      let n = (no_room-at w i).0 x in
      let y = n.1 in
      omega (arith, y.2.here, four_and_more n.0 y.0, few_corners n.0 y.0)

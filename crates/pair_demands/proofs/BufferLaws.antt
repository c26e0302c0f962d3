-- The words of the marks, and the lengths of the buffers of an accepted call of two parties.
-- Assumes nothing.
use Rattle.std.specs.Prelude.{Ok}
use mathlib.Core.Bool.{Bool, true, false, cond}
use mathlib.Core.List.{List, [], ◌∷◌}
use mathlib.Core.Logic.{⊎_elim}
use mathlib.Core.Path.{◌≡◌, refl, ap, ap₂, sym, ◌∙◌}
use Prim.Native.Nat.{ℕ, zero, suc, ◌+◌, ◌-◌, ◌*◌, ◌<◌, ◌≤◌}
use native.Mathlib.Omega.{arith}
use borrow.Author.Tests.{eqb-true}
use lib.ListN.{length, get_or, take, replicate, length-append, length-replicate, get_or-append}
use lib.Seq.{get_or-append-add}
use Rattle.answer.specs.declared.PairFacts.{PairFacts}
use Rattle.grid.specs.declared.Corner.{Corner}
use Rattle.grid.specs.Grid.{corners_from}
use Rattle.layout.specs.Marks.{mark_words, changes_by}
use Rattle.steps.specs.Operations.{survivors_from}
use Rattle.steps.proofs.SurvivorLaws.{length-survivors}
use Rattle.pair_steps.specs.Parties.{by_party, party_of, moves, own_ops, steps_by, moved_by}
use Rattle.pair_steps.proofs.PartyLaws.{own-next, by_party_lem}
use Rattle.pair_table.specs.Slots.{needs_of, Slot, settle, slots_from, slots_at_start, slots_of}
use Rattle.pair_table.specs.Words.{pair_width, pair_records_in, visits_of, pair_table_of, pair_mark_of, pair_marks_from, own_chain_of}
use Rattle.pair.specs.Call.{PairLent, PairIs}
use Rattle.pair_laws.specs.Moments.{own_after, pair_nodes_after, slots_after, pair_table_after}
use Rattle.pair_laws.proofs.ByteLaws.{moved-after}
use Rattle.pair_laws.proofs.MomentLaws.{slots_after-next, slots_of-length}
use Rattle.pair_laws.proofs.WordLaws.{length_pair_table}
use Rattle.pair_demands.specs.Given.{party_at}
use Rattle.pair_demands.proofs.PairLaws.{its_faultless, its_table, its_marks, its-first, its_second}

-- ---- marks
module _ (r : ℕ) (c e : Corner) where
  -- the mark at place k, by what was before it
  mark-at : (slots : List Slot) (ds es os : List ℕ) (k n : ℕ) → k < length os → n < 3
      → get_or (pair_marks_from r c e slots ds es os) (3 * k + n) 0
      ≡ get_or (pair_mark_of r c e (slots_from c e slots ds es (take k os)) (survivors_from ds (own_ops 0 (take k os))) (survivors_from es (own_ops 1 (take k os))) (get_or os k 0)) n 0
  mark-at slots ds es [] k n h l = absurd (omega arith)
  mark-at slots ds es (o ∷ os) zero n h l =
      let i : 3 * 0 + n ≡ n = omega arith in
      let s = settle slots (needs_of c e (moved_by 0 ds o) (moved_by 1 es o)) in
      ap (λ (m : ℕ). get_or (pair_marks_from r c e slots ds es (o ∷ os)) m 0) i
      ∙ get_or-append (pair_mark_of r c e slots ds es o) (pair_marks_from r c e s (moved_by 0 ds o) (moved_by 1 es o) os) 0 n l
  mark-at slots ds es (o ∷ os) (suc k) n h l =
      let i : 3 * suc k + n ≡ 3 + (3 * k + n) = omega arith in
      let s = settle slots (needs_of c e (moved_by 0 ds o) (moved_by 1 es o)) in
      ap (λ (m : ℕ). get_or (pair_marks_from r c e slots ds es (o ∷ os)) m 0) i
      ∙ get_or-append-add (pair_mark_of r c e slots ds es o) (pair_marks_from r c e s (moved_by 0 ds o) (moved_by 1 es o) os) (3 * k + n) 0
      ∙ mark-at s (moved_by 0 ds o) (moved_by 1 es o) os k n (omega arith) l
      ∙ ap₂ (λ (x y : List ℕ). get_or (pair_mark_of r c e (slots_from c e slots ds es (o ∷ take k os)) x y (get_or os k 0)) n 0) (sym (own-next 0 ds o (take k os))) (sym (own-next 1 es o (take k os)))

  length_marks : (slots : List Slot) (ds es os : List ℕ) → length (pair_marks_from r c e slots ds es os) ≡ 3 * length os
  length_marks slots ds es [] = refl
  length_marks slots ds es (o ∷ os) =
      let s = settle slots (needs_of c e (moved_by 0 ds o) (moved_by 1 es o)) in
      omega (arith, length-append (pair_mark_of r c e slots ds es o) (pair_marks_from r c e s (moved_by 0 ds o) (moved_by 1 es o) os), length_marks s (moved_by 0 ds o) (moved_by 1 es o) os)

-- by the party that moves
mover_by : {A : Type 0} (o : ℕ) (x y : A) → party_of o < 2 → cond (moves 0 o) x y ≡ by_party (party_of o) x y
mover_by o x y h =
    ⊎_elim
    (λ z. ap (λ (b : Bool). cond b x y) z.0 ∙ sym (ap (λ (q : ℕ). by_party q x y) (eqb-true (party_of o) 0 z.0)))
    (λ z. ap (λ (b : Bool). cond b x y) z.0 ∙ sym (ap (λ (q : ℕ). by_party q x y) (eqb-true (party_of o) 1 z.1)))
    (by_party_lem o (omega arith))

visits_by : (q : ℕ) (c e : Corner) (s : ℕ → List ℕ) → q < 2 → by_party q (visits_of c (s 0)) (visits_of e (s 1)) ≡ visits_of (by_party q c e) (s q)
visits_by zero c e s h = refl
visits_by (suc zero) c e s h = refl
visits_by (suc (suc q)) c e s h = absurd (omega arith)

module _ {c e : Corner} {os : List ℕ} {b b' : PairLent} {f : PairFacts} (w : PairIs c e os b (Ok f) b') where
  abbrev records : ℕ
  records = pair_records_in (length b.table)

  abbrev mark : ℕ → List ℕ
  mark k = pair_mark_of records c e (slots_after c e os k) (own_after 0 os k) (own_after 1 os k) (get_or os k 0)

  its-mark : (k n : ℕ) → k < length os → n < 3 → get_or b'.marks (3 * k + n) 0 ≡ get_or (mark k) n 0
  its-mark k n h l = ap (λ (m : List ℕ). get_or m (3 * k + n) 0) (its_marks w) ∙ mark-at records c e (slots_at_start c e) [] [] os k n h l

  -- the nodes in use by either
  pub mark_nodes : (k : ℕ) → k < length os → get_or b'.marks (mark_words * k) 0 ≡ pair_nodes_after c e os (suc k)
  mark_nodes k h =
      let i : 3 * k ≡ 3 * k + 0 = omega arith in
      ap (λ (m : ℕ). get_or b'.marks m 0) i ∙ its-mark k 0 h (omega arith) ∙ ap₂ (λ (x y : List ℕ). length (needs_of c e x y)) (moved-after 0 os k h) (moved-after 1 os k h)

  -- the visits at the corner of the party that moved
  pub mark_visits : (k : ℕ) → k < length os → get_or b'.marks (mark_words * k + 1) 0 ≡ visits_of (by_party (party_at os k) c e) (own_after (party_at os k) os (suc k))
  mark_visits k h =
      let known : party_at os k < 2 = ((its_faultless w).0.fine k h).0 in
      its-mark k 1 h (omega arith)
      ∙ ap₂ (λ (x y : List ℕ). cond (moves 0 (get_or os k 0)) (visits_of c x) (visits_of e y)) (moved-after 0 os k h) (moved-after 1 os k h)
      ∙ mover_by (get_or os k 0) (visits_of c (own_after 0 os (suc k))) (visits_of e (own_after 1 os (suc k))) known
      ∙ visits_by (party_at os k) c e (λ q. own_after q os (suc k)) known

  -- the records that differ before and after
  pub mark-changes : (k : ℕ) → k < length os → get_or b'.marks (mark_words * k + 2) 0 ≡ changes_by pair_width records (pair_table_after records c e os k) (pair_table_after records c e os (suc k))
  mark-changes k h =
      let s = slots_after c e os k in
      its-mark k 2 h (omega arith)
      ∙ ap₂ (λ (x y : List ℕ). changes_by pair_width records (pair_table_after records c e os k) (pair_table_of (records * pair_width) c e (settle s (needs_of c e x y)) x y)) (moved-after 0 os k h) (moved-after 1 os k h)
      ∙ ap (λ (z : List Slot). changes_by pair_width records (pair_table_after records c e os k) (pair_table_of (records * pair_width) c e z (own_after 0 os (suc k)) (own_after 1 os (suc k)))) (sym (slots_after-next c e os k h))

  -- ---- lengths
  -- no more records are touched than there are
  pub its-records : length (slots_of c e os) ≤ records
  its-records = slots_of-length c e records os (its_faultless w).1

  pub its_lengths : (length b'.table ≡ length b.table) × (length b'.marks ≡ length b.marks) × (length b'.first ≡ length b.first) × (length b'.second ≡ length b.second)
  its_lengths =
      let h = (its_faultless w).0.sized in
      let x = h.table in
      let r = x.0 in
      let t : length b.table ≡ r * pair_width = x.3 in
      let l : length (slots_of c e os) ≤ pair_records_in (length b.table) = its-records in
      let m = h.room in (
        ap length (its_table w) ∙ length_pair_table (slots_of c e os) (corners_from c (steps_by 0 os)) (corners_from e (steps_by 1 os)) (length b.table) (omega arith),
        ap length (its_marks w) ∙ length_marks records c e (slots_at_start c e) [] [] os ∙ sym m.0,
        ap length (its-first w) ∙ chain 0 ∙ sym m.1,
        ap length (its_second w) ∙ chain 1 ∙ sym m.2,
      )
    where
      own_few : (q : ℕ) (l : List ℕ) → length (own_ops q l) ≤ length l
      own_few q [] = omega arith
      own_few q (o ∷ l) = by (moves q o) refl (own_few q l)
        where
          by : (t : Bool) → moves q o ≡ t → length (own_ops q l) ≤ length l → length (own_ops q (o ∷ l)) ≤ suc (length l)
          by true p ih = rw (p, own_ops) (omega arith)
          by false p ih = rw (p, own_ops) (omega arith)

      chain : (q : ℕ) → length (own_chain_of q os) ≡ length os
      chain q =
          let s = steps_by q os in
          omega (arith, length-append s (replicate (length os - length s) 0), length-replicate {A = ℕ} (length os - length s) 0, length-survivors [] (own_ops q os), own_few q os)

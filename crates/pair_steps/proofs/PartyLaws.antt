-- Each party's steps follow from its own operations; neighbouring operations of different parties may be exchanged; and nothing is wrong
-- with the bytes of two parties exactly if each party is known and nothing is wrong with its own operations.
-- Assumes nothing.
use Rattle.std.specs.Prelude.{Ok}
use mathlib.Core.Bool.{Bool, true, false, cond}
use mathlib.Core.List.{List, [], ◌∷◌, ◌++◌}
use mathlib.Core.Logic.{◌⊎◌, inl, inr, ⊎_elim}
use mathlib.Core.Path.{◌≡◌, refl, ap, ap₂, sym, ◌∙◌, subst}
use Prim.Native.Nat.{ℕ, suc, ◌+◌, ◌/◌, ◌<◌}
use native.Mathlib.Omega.{arith}
use borrow.Author.Tests.{ltb-false, eqb-true, eqb-false, ne_eqb, eq-eqb, lt-ltb, le-ltb}
use lib.Dec.{ltb}
use lib.ListN.{length}
use Rattle.answer.specs.declared.Refusal.TheVariants.{UnknownParty}
use Rattle.answer.specs.Refusal.{when, or_else}
use Rattle.lists.specs.Lists.{Below}
use Rattle.steps.specs.Operations.{operate, survivors_from, fault_of, Fine, operations_judged, after}
use Rattle.answer.proofs.RefusalLaws.{or_else_good, when_good}
use Rattle.steps.proofs.SurvivorLaws.{fault_none, fault_step, after-length}
use Rattle.pair_steps.specs.Parties.{party_of, op_of, moves, own_ops, moved_by, after_by, byte_fault_of, bytes_judged}
use Rattle.pair_steps.proofs.PartyCases as cases

module _ (q o : ℕ) where
  pub own_mine : (os : List ℕ) → moves q o ≡ true → own_ops q (o ∷ os) ≡ op_of o ∷ own_ops q os
  own_mine os e = rw (e, own_ops)

  pub own_other : (os : List ℕ) → moves q o ≡ false → own_ops q (o ∷ os) ≡ own_ops q os
  own_other os e = rw (e, own_ops)

  pub moved_mine : (s : List ℕ) → moves q o ≡ true → moved_by q s o ≡ operate s (op_of o)
  moved_mine s e = rw (e, moved_by)

  pub moved_other : (s : List ℕ) → moves q o ≡ false → moved_by q s o ≡ s
  moved_other s e = rw (e, moved_by)

  after_mine : (n : ℕ) → moves q o ≡ true → after_by q n o ≡ after n (op_of o)
  after_mine n e = rw (e, after_by)

  after_other : (n : ℕ) → moves q o ≡ false → after_by q n o ≡ n
  after_other n e = rw (e, after_by)

-- one byte, then the others
pub own-next : (q : ℕ) (s : List ℕ) (o : ℕ) (os : List ℕ) → survivors_from s (own_ops q (o ∷ os)) ≡ survivors_from (moved_by q s o) (own_ops q os)
own-next q s o os = go (moves q o) refl
  where
    go : (b : Bool) → moves q o ≡ b → survivors_from s (own_ops q (o ∷ os)) ≡ survivors_from (moved_by q s o) (own_ops q os)
    go true e = ap (survivors_from s) (own_mine q o os e) ∙ ap (λ (t : List ℕ). survivors_from t (own_ops q os)) (sym (moved_mine q o s e))
    go false e = ap (survivors_from s) (own_other q o os e) ∙ ap (λ (t : List ℕ). survivors_from t (own_ops q os)) (sym (moved_other q o s e))

-- one byte more at the end
pub own_snoc : (q : ℕ) (s xs : List ℕ) (o : ℕ) → survivors_from s (own_ops q (xs ++ (o ∷ []))) ≡ moved_by q (survivors_from s (own_ops q xs)) o
own_snoc q s [] o = own-next q s o []
own_snoc q s (x ∷ xs) o =
    own-next q s x (xs ++ (o ∷ []))
    ∙ own_snoc q (moved_by q s x) xs o
    ∙ ap (λ (t : List ℕ). moved_by q t o) (sym (own-next q s x xs))

pub own-append : (q : ℕ) (xs ys : List ℕ) → own_ops q (xs ++ ys) ≡ own_ops q xs ++ own_ops q ys
own-append q [] ys = refl
own-append q (o ∷ xs) ys = go (moves q o) refl (own-append q xs ys)
  where
    go : (b : Bool) → moves q o ≡ b → own_ops q (xs ++ ys) ≡ own_ops q xs ++ own_ops q ys → own_ops q (o ∷ (xs ++ ys)) ≡ own_ops q (o ∷ xs) ++ own_ops q ys
    go true e ih = own_mine q o (xs ++ ys) e ∙ ap (λ (l : List ℕ). op_of o ∷ l) ih ∙ ap (λ (l : List ℕ). l ++ own_ops q ys) (sym (own_mine q o xs e))
    go false e ih = own_other q o (xs ++ ys) e ∙ ih ∙ ap (λ (l : List ℕ). l ++ own_ops q ys) (sym (own_other q o xs e))

-- two neighbouring operations of different parties, exchanged: each party has the same operations
pub own_exchanged : (q : ℕ) (xs : List ℕ) (o p : ℕ) (ys : List ℕ) → (party_of o ≡ party_of p → ⊥) → own_ops q (xs ++ (o ∷ p ∷ ys)) ≡ own_ops q (xs ++ (p ∷ o ∷ ys))
own_exchanged q xs o p ys f =
    own-append q xs (o ∷ p ∷ ys) ∙ ap (λ (l : List ℕ). own_ops q xs ++ l) (go (moves q o) refl (moves q p) refl) ∙ sym (own-append q xs (p ∷ o ∷ ys))
  where
    go : (a : Bool) → moves q o ≡ a → (b : Bool) → moves q p ≡ b → own_ops q (o ∷ p ∷ ys) ≡ own_ops q (p ∷ o ∷ ys)
    go true d true e = absurd (f (eqb-true (party_of o) q d ∙ sym (eqb-true (party_of p) q e)))
    go true d false e = own_mine q o (p ∷ ys) d ∙ ap (λ (l : List ℕ). op_of o ∷ l) (own_other q p ys e) ∙ sym (own_mine q o ys d) ∙ sym (own_other q p (o ∷ ys) e)
    go false d true e = own_other q o (p ∷ ys) d ∙ own_mine q p ys e ∙ ap (λ (l : List ℕ). op_of p ∷ l) (sym (own_other q o ys d)) ∙ sym (own_mine q p (o ∷ ys) e)
    go false d false e = own_other q o (p ∷ ys) d ∙ own_other q p ys e ∙ sym (own_other q o ys d) ∙ sym (own_other q p (o ∷ ys) e)

-- a known party is one of the two
pub by_party_lem : (o : ℕ) → o < 32 → ((moves 0 o ≡ true) × (moves 1 o ≡ false)) ⊎ ((moves 0 o ≡ false) × (moves 1 o ≡ true))
by_party_lem o h = go (moves 0 o) refl
  where
    go : (b : Bool) → moves 0 o ≡ b → ((moves 0 o ≡ true) × (moves 1 o ≡ false)) ⊎ ((moves 0 o ≡ false) × (moves 1 o ≡ true))
    go true e = inl (e, ne_eqb (o / 16) 1 (λ d. omega (arith, eqb-true (o / 16) 0 e)))
    go false e = inr (e, eq-eqb (o / 16) 1 (omega (arith, eqb-false (o / 16) 0 e)))

-- ---- faults
fine_fault : (i n o : ℕ) → Fine n o → fault_of i n o ≡ Ok tt
fine_fault i n o (inl k) = rw (k.0, ne_eqb n 0 (λ e. omega (arith, k.1)))
fine_fault i n o (inr k) = rw (le-ltb 4 o (omega (arith, k.0)), ne_eqb o 4 (λ e. omega (arith, k.0)), lt-ltb n 16384 k.1)

-- a byte that is fine: its party is known, and its operation is fine for that party
pub pair_fault_none : (i m n o : ℕ) → byte_fault_of i m n o ≡ Ok tt → (o < 32) × Fine (cond (moves 0 o) m n) (op_of o)
pair_fault_none i m n o e =
    let h = or_else_good (when (ltb 1 (party_of o)) (UnknownParty i)) (fault_of i (cond (moves 0 o) m n) (op_of o)) e in
    (omega (arith, ltb-false 1 (o / 16) (when_good (ltb 1 (party_of o)) (UnknownParty i) h.0)), fault_none i (cond (moves 0 o) m n) (op_of o) h.1)

pub pair_fine_fault : (i m n o : ℕ) → o < 32 → Fine (cond (moves 0 o) m n) (op_of o) → byte_fault_of i m n o ≡ Ok tt
pair_fine_fault i m n o h f =
    ap₂ or_else (ap (λ (b : Bool). when b (UnknownParty i)) (le-ltb 1 (o / 16) (omega arith))) (fine_fault i (cond (moves 0 o) m n) (op_of o) f)

-- the next operation of a party
faults_more : (j n o : ℕ) (os : List ℕ) → Fine n o → operations_judged (suc j) (after n o) os ≡ Ok tt → operations_judged j n (o ∷ os) ≡ Ok tt
faults_more j n o os f e = ap₂ or_else (fine_fault j n o f) e

abbrev Own : ℕ → ℕ → List ℕ → Type 0
Own q n os = (j : ℕ) → operations_judged j n (own_ops q os) ≡ Ok tt

own-more : (q n o : ℕ) (os : List ℕ) → moves q o ≡ true → Fine n (op_of o) → Own q (after_by q n o) os → Own q n (o ∷ os)
own-more q n o os e f h j =
    ap (operations_judged j n) (own_mine q o os e) ∙ faults_more j n (op_of o) (own_ops q os) f (subst (λ (k : ℕ). operations_judged (suc j) k (own_ops q os) ≡ Ok tt) (after_mine q o n e) (h (suc j)))

own-less : (q n o : ℕ) (os : List ℕ) → moves q o ≡ false → Own q (after_by q n o) os → Own q n (o ∷ os)
own-less q n o os e h j = ap (operations_judged j n) (own_other q o os e) ∙ subst (λ (k : ℕ). operations_judged j k (own_ops q os) ≡ Ok tt) (after_other q o n e) (h j)

-- nothing is wrong with the bytes: every party is known, and nothing is wrong with the operations of either
pub pair_faults_own : (i m n : ℕ) (os : List ℕ) → bytes_judged i m n os ≡ Ok tt
    → Below 32 os × ((j : ℕ) → operations_judged j m (own_ops 0 os) ≡ Ok tt) × ((j : ℕ) → operations_judged j n (own_ops 1 os) ≡ Ok tt)
pair_faults_own i m n [] e = (tt, λ j. refl, λ j. refl)
pair_faults_own i m n (o ∷ os) e =
    let h = or_else_good (byte_fault_of i m n o) (bytes_judged (suc i) (after_by 0 m o) (after_by 1 n o) os) e in
    let k = pair_fault_none i m n o h.0 in
    let ih = pair_faults_own (suc i) (after_by 0 m o) (after_by 1 n o) os h.1 in
    let y = ih.1 in
    ⊎_elim
    (λ x. ((k.0, ih.0), own-more 0 m o os x.0 (subst (λ (b : Bool). Fine (cond b m n) (op_of o)) x.0 k.1) (y), own-less 1 n o os x.1 ih.2))
    (λ x. ((k.0, ih.0), own-less 0 m o os x.0 (y), own-more 1 n o os x.1 (subst (λ (b : Bool). Fine (cond b m n) (op_of o)) x.0 k.1) ih.2))
    (by_party_lem o k.0)

-- and back
faults_head : (j n o : ℕ) (os : List ℕ) → operations_judged j n (o ∷ os) ≡ Ok tt → Fine n o × (operations_judged (suc j) (after n o) os ≡ Ok tt)
faults_head j n o os e = let h = fault_step j n o os e in (fault_none j n o h.0, h.1)

pub own_faults_pair : (i j k m n : ℕ) (os : List ℕ) → Below 32 os → operations_judged j m (own_ops 0 os) ≡ Ok tt → operations_judged k n (own_ops 1 os) ≡ Ok tt → bytes_judged i m n os ≡ Ok tt
own_faults_pair i j k m n [] b e f = refl
own_faults_pair i j k m n (o ∷ os) b e f =
    let rest : (j k : ℕ) → operations_judged j (after_by 0 m o) (own_ops 0 os) ≡ Ok tt → operations_judged k (after_by 1 n o) (own_ops 1 os) ≡ Ok tt → bytes_judged (suc i) (after_by 0 m o) (after_by 1 n o) os ≡ Ok tt =
    λ j k e f. own_faults_pair (suc i) j k (after_by 0 m o) (after_by 1 n o) os b.1 e f in
    ⊎_elim
    (λ x.
    let h = faults_head j m (op_of o) (own_ops 0 os) (ap (operations_judged j m) (sym (own_mine 0 o os x.0)) ∙ e) in
    let g : operations_judged k n (own_ops 1 os) ≡ Ok tt = ap (operations_judged k n) (sym (own_other 1 o os x.1)) ∙ f in
    ap₂ or_else (pair_fine_fault i m n o b.0 (subst (λ (t : Bool). Fine (cond t m n) (op_of o)) (sym x.0) h.0))
    (rest (suc j) k (subst (λ (z : ℕ). operations_judged (suc j) z (own_ops 0 os) ≡ Ok tt) (sym (after_mine 0 o m x.0)) h.1) (subst (λ (z : ℕ). operations_judged k z (own_ops 1 os) ≡ Ok tt) (sym (after_other 1 o n x.1)) g)))
    (λ x.
    let h = faults_head k n (op_of o) (own_ops 1 os) (ap (operations_judged k n) (sym (own_mine 1 o os x.1)) ∙ f) in
    let g : operations_judged j m (own_ops 0 os) ≡ Ok tt = ap (operations_judged j m) (sym (own_other 0 o os x.0)) ∙ e in
    ap₂ or_else (pair_fine_fault i m n o b.0 (subst (λ (t : Bool). Fine (cond t m n) (op_of o)) (sym x.0) h.0))
    (rest j (suc k) (subst (λ (z : ℕ). operations_judged j z (own_ops 0 os) ≡ Ok tt) (sym (after_other 0 o m x.0)) g) (subst (λ (z : ℕ). operations_judged (suc k) z (own_ops 1 os) ≡ Ok tt) (sym (after_mine 1 o n x.1)) h.1)))
    (by_party_lem o b.0)

-- the lengths of both parties' steps
pub after_by-length : (q : ℕ) (s : List ℕ) (o : ℕ) → after_by q (length s) o ≡ length (moved_by q s o)
after_by-length q s o = go (moves q o) refl
  where
    go : (b : Bool) → moves q o ≡ b → after_by q (length s) o ≡ length (moved_by q s o)
    go true e = after_mine q o (length s) e ∙ after-length s (op_of o) ∙ ap length (sym (moved_mine q o s e))
    go false e = after_other q o (length s) e ∙ ap length (sym (moved_other q o s e))

-- the operations of both parties are as many as the bytes, if every party is known
pub own_lengths : (os : List ℕ) → Below 32 os → length (own_ops 0 os) + length (own_ops 1 os) ≡ length os
own_lengths [] b = refl
own_lengths (o ∷ os) b =
    let ih = own_lengths os b.1 in
    ⊎_elim
    (λ x. omega (arith, ih, ap length (own_mine 0 o os x.0), ap length (own_other 1 o os x.1)))
    (λ x. omega (arith, ih, ap length (own_other 0 o os x.0), ap length (own_mine 1 o os x.1)))
    (by_party_lem o b.0)

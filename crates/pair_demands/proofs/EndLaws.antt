-- The ends of accepted calls of two parties: what each party has of its own, and what two calls with the same surviving steps have in common.
-- Assumes nothing.
use Rattle.std.specs.Prelude.{Ok}
use mathlib.Core.List.{List, ◌∷◌, ◌++◌}
use mathlib.Core.Path.{◌≡◌, refl, ap, ap₂, sym, ◌∙◌, subst, subst₂}
use Prim.Native.Nat.{ℕ, zero, suc, ◌+◌, ◌-◌, ◌*◌, ◌<◌}
use native.Mathlib.Omega.{arith}
use lib.ListN.{length, get_or, take, replicate, length-append}
use lib.Seq.{take_at}
use Rattle.answer.specs.declared.Facts.{Facts}
use Rattle.answer.specs.declared.PartyFacts.{PartyFacts}
use Rattle.answer.specs.declared.PairFacts.{PairFacts}
use Rattle.grid.specs.declared.Corner.{Corner}
use Rattle.grid.specs.Grid.{corners_from}
use Rattle.grid.proofs.StepLaws.{length-corners_from}
use Rattle.tree.specs.Nodes.{InUse}
use Rattle.tree.proofs.InUseLaws.{in_use_node}
use Rattle.steps.specs.Operations.{survivors}
use Rattle.walk.specs.Walk.{party_facts_of, WalkIs}
use Rattle.demands.proofs.WalkLaws as walk_laws
use Rattle.pair_steps.specs.Parties.{by_party, party_of, own_ops, steps_by}
use Rattle.pair_steps.proofs.PartyLaws.{own_exchanged}
use Rattle.pair_table.specs.Slots.{needs_of, slots_of}
use Rattle.pair_table.specs.Words.{pair_width, pair_word_at, own_word, own_of, pair_table_on, pair_table_of, own_chain_of}
use Rattle.pair.specs.Call.{pair_facts_of, PairLent, PairIs}
use Rattle.pair_laws.specs.Stand.{At, FreeAt, InPlace}
use Rattle.pair_laws.specs.Same.{SameButNumbers}
use Rattle.pair_laws.proofs.MomentLaws.{slots_of_in_place}
use Rattle.pair_laws.proofs.UnionLaws.{union_left, union_right}
use Rattle.pair_laws.proofs.WordLaws.{record_word, free_word, first_word_lem, second_word}
use Rattle.pair_laws.proofs.SameLaws.{same-but-numbers}
use Rattle.pair_demands.specs.Own.{own_in}
use Rattle.pair_demands.specs.Record.{PairRecordSays}
use Rattle.pair_demands.proofs.RecordLaws.{own-none, pair_says}
use Rattle.pair_demands.proofs.PairLaws.{its_facts, its_table, its-first, its_second}

-- ---- what a party has of its own
module _ {c e : Corner} {os : List ℕ} {b b' : PairLent} {f : PairFacts} (w : PairIs c e os b (Ok f) b') where
  pub own_facts : (q : ℕ) → q < 2 → by_party q f.first f.second ≡ party_facts_of (by_party q c e) (steps_by q os)
  own_facts zero h = ap (λ (g : PairFacts). g.first) (its_facts w)
  own_facts (suc zero) h = ap (λ (g : PairFacts). g.second) (its_facts w)
  own_facts (suc (suc q)) h = absurd (omega arith)

  pub own-chain : (q : ℕ) → q < 2 → by_party q b'.first b'.second ≡ own_chain_of q os
  own-chain zero h = its-first w
  own-chain (suc zero) h = its_second w
  own-chain (suc (suc q)) h = absurd (omega arith)

  pub own-words : (q : ℕ) → q < 2 → (a : Corner) (i n : ℕ) → At (slots_of c e os) i a → n < 11 → get_or b'.table (pair_word_at i (own_word q n)) 0 ≡ get_or (own_of (corners_from (by_party q c e) (steps_by q os)) a) n 0
  own-words zero h a i n x l =
      let s = slots_of c e os in
      let k : 14 + 11 * 0 + n ≡ 14 + n = omega arith in
      ap₂ (λ (t : List ℕ) (m : ℕ). get_or t (pair_word_at i m) 0) (its_table w) k ∙ first_word_lem s (corners_from c (steps_by 0 os)) (corners_from e (steps_by 1 os)) (length b.table) a i n x l
  own-words (suc zero) h a i n x l =
      let s = slots_of c e os in
      let k : 14 + 11 * 1 + n ≡ 25 + n = omega arith in
      ap₂ (λ (t : List ℕ) (m : ℕ). get_or t (pair_word_at i m) 0) (its_table w) k ∙ second_word s (corners_from c (steps_by 0 os)) (corners_from e (steps_by 1 os)) (length b.table) a i n x l
  own-words (suc (suc q)) h a i n x l = absurd (omega arith)

  -- the first bytes of its chain are its surviving steps
  pub own-steps : (q : ℕ) → q < 2 → take (by_party q f.first f.second).steps (by_party q b'.first b'.second) ≡ steps_by q os
  own-steps q h =
      ap₂ (λ (k : ℕ) (l : List ℕ). take k l) (ap (λ (g : PartyFacts). g.steps) (own_facts q h)) (own-chain q h)
      ∙ take_at (steps_by q os) (replicate (length os - length (steps_by q os)) 0) (length (steps_by q os)) refl

  -- what the party is answered is what it would be answered alone
  pub as_alone : (q : ℕ) → q < 2 → {t ms ch t' ms' ch' : List ℕ} {g : Facts} → WalkIs (by_party q c e) (own_ops q os) t ms ch (Ok g) t' ms' ch' → by_party q f.first f.second ≡ own_in g
  as_alone q h v = own_facts q h ∙ ap own_in (sym (walk_laws.its_facts v))

  -- what a party does not need has none of its words
  pub own_absent : (q : ℕ) → q < 2 → (a : Corner) (i n : ℕ) → At (slots_of c e os) i a → n < 11 → (InUse (corners_from (by_party q c e) (steps_by q os)) a → ⊥) → get_or b'.table (pair_word_at i (own_word q n)) 0 ≡ 0
  own_absent q h a i n x l g = own-words q h a i n x l ∙ own-none (corners_from (by_party q c e) (steps_by q os)) a g n

  -- what a party needs stands in a record
  own_stands : (q : ℕ) → q < 2 → (a : Corner) → InUse (corners_from (by_party q c e) (steps_by q os)) a → (i : ℕ) × At (slots_of c e os) i a
  own_stands zero h a u = (slots_of_in_place c e os).stands a (union_left (corners_from c (steps_by 0 os)) (corners_from e (steps_by 1 os)) (in_use_node (corners_from c (steps_by 0 os)) a u))
  own_stands (suc zero) h a u = (slots_of_in_place c e os).stands a (union_right (corners_from c (steps_by 0 os)) (corners_from e (steps_by 1 os)) (in_use_node (corners_from e (steps_by 1 os)) a u))
  own_stands (suc (suc q)) h a u = absurd (omega arith)

  -- ---- the record of each node, and of none
  pub its_record : (a : Corner) (i : ℕ) → At (slots_of c e os) i a → PairRecordSays (slots_of c e os) (corners_from c (steps_by 0 os)) (corners_from e (steps_by 1 os)) a (λ n. get_or b'.table (pair_word_at i n) 0)
  its_record a i x =
      let s = slots_of c e os in
      let ps = corners_from c (steps_by 0 os) in
      let qs = corners_from e (steps_by 1 os) in
      let h = slots_of_in_place c e os in
      let t : (n : ℕ) → get_or b'.table n 0 ≡ get_or (pair_table_on (length b.table) s ps qs) n 0 = λ n. ap (λ (l : List ℕ). get_or l n 0) (its_table w) in
      pair_says s ps qs h a (h.only a i x) (λ n. get_or b'.table (pair_word_at i n) 0)
      (omega (arith, length-corners_from c (steps_by 0 os)))
      (omega (arith, length-corners_from e (steps_by 1 os)))
      (λ n l. t (pair_word_at i n) ∙ record_word s ps qs (length b.table) a i n x l)
      (λ n l. t (pair_word_at i (own_word 0 n)) ∙ first_word_lem s ps qs (length b.table) a i n x l)
      (λ n l. t (pair_word_at i (own_word 1 n)) ∙ second_word s ps qs (length b.table) a i n x l)

  pub its_free : (i n : ℕ) → FreeAt (slots_of c e os) i → n < pair_width → get_or b'.table (pair_word_at i n) 0 ≡ 0
  its_free i n x l =
      ap (λ (t : List ℕ). get_or t (pair_word_at i n) 0) (its_table w) ∙ free_word (slots_of c e os) (corners_from c (steps_by 0 os)) (corners_from e (steps_by 1 os)) (length b.table) i n x l

-- ---- two accepted calls in which a party has the same start and the same operations
module _ {c e c₁ e₁ : Corner} {os os₁ : List ℕ} {b b' b₁ b₁' : PairLent} {f f₁ : PairFacts}
    (w : PairIs c e os b (Ok f) b') (v : PairIs c₁ e₁ os₁ b₁ (Ok f₁) b₁')
    (q : ℕ) (party : q < 2) (start : by_party q c e ≡ by_party q c₁ e₁) (operations : own_ops q os ≡ own_ops q os₁) where
  steps-same : steps_by q os ≡ steps_by q os₁
  steps-same = ap survivors operations

  pub alike_facts : by_party q f.first f.second ≡ by_party q f₁.first f₁.second
  alike_facts = own_facts w q party ∙ ap₂ party_facts_of start steps-same ∙ sym (own_facts v q party)

  pub alike_steps : take (by_party q f.first f.second).steps (by_party q b'.first b'.second) ≡ take (by_party q f₁.first f₁.second).steps (by_party q b₁'.first b₁'.second)
  alike_steps = own-steps w q party ∙ steps-same ∙ sym (own-steps v q party)

  pub alike_words : (a : Corner) (i j n : ℕ) → At (slots_of c e os) i a → At (slots_of c₁ e₁ os₁) j a → n < 11 → get_or b'.table (pair_word_at i (own_word q n)) 0 ≡ get_or b₁'.table (pair_word_at j (own_word q n)) 0
  alike_words a i j n x y l =
      own-words w q party a i n x l
      ∙ ap₂ (λ (s : Corner) (ds : List ℕ). get_or (own_of (corners_from s ds) a) n 0) start steps-same
      ∙ sym (own-words v q party a j n y l)

  -- a node that has a record in one call only has none of this party's words there
  pub alike_absent : (a : Corner) (i n : ℕ) → At (slots_of c e os) i a → ((j : ℕ) → At (slots_of c₁ e₁ os₁) j a → ⊥) → n < 11 → get_or b'.table (pair_word_at i (own_word q n)) 0 ≡ 0
  alike_absent a i n x f l =
      own_absent w q party a i n x l
      (λ u. let y = own_stands v q party a (subst (λ (ps : List Corner). InUse ps a) (ap₂ corners_from start steps-same) u) in f y.0 y.1)

-- ---- two accepted calls with the same surviving steps of both
module _ {c e : Corner} {os os₁ : List ℕ} {b b' b₁ b₁' : PairLent} {f f₁ : PairFacts}
    (w : PairIs c e os b (Ok f) b') (v : PairIs c e os₁ b₁ (Ok f₁) b₁')
    (first : steps_by 0 os ≡ steps_by 0 os₁) (second : steps_by 1 os ≡ steps_by 1 os₁) where
  same_facts : f ≡ f₁
  same_facts = its_facts w ∙ ap₂ (pair_facts_of c e) first second ∙ sym (its_facts v)

  pub same_table : SameButNumbers (slots_of c e os) (slots_of c e os₁) b'.table b₁'.table
  same_table =
      let s = slots_of c e os in
      let s₁ = slots_of c e os₁ in
      let ps = corners_from c (steps_by 0 os) in
      let qs = corners_from e (steps_by 1 os) in
      let h₁ : InPlace s₁ (needs_of c e (steps_by 0 os) (steps_by 1 os)) = subst (InPlace s₁) (sym (ap₂ (needs_of c e) first second)) (slots_of_in_place c e os₁) in
      let t₁ : pair_table_on (length b₁.table) s₁ ps qs ≡ b₁'.table = ap₂ (pair_table_of (length b₁.table) c e s₁) first second ∙ sym (its_table v) in
      subst₂ (SameButNumbers s s₁) (sym (its_table w)) t₁ (same-but-numbers (slots_of_in_place c e os) h₁ (length b.table) (length b₁.table) ps qs)

-- ---- two neighbouring operations of different parties, exchanged
length_exchanged : (xs : List ℕ) (o p : ℕ) (ys : List ℕ) → length (xs ++ (o ∷ p ∷ ys)) ≡ length (xs ++ (p ∷ o ∷ ys))
length_exchanged xs o p ys = omega (arith, length-append xs (o ∷ p ∷ ys), length-append xs (p ∷ o ∷ ys))

module _ {c e : Corner} (xs : List ℕ) (o p : ℕ) (ys : List ℕ) {b b' b₁ b₁' : PairLent} {f f₁ : PairFacts}
    (w : PairIs c e (xs ++ (o ∷ p ∷ ys)) b (Ok f) b') (v : PairIs c e (xs ++ (p ∷ o ∷ ys)) b₁ (Ok f₁) b₁') (different : party_of o ≡ party_of p → ⊥) where
  steps : (q : ℕ) → steps_by q (xs ++ (o ∷ p ∷ ys)) ≡ steps_by q (xs ++ (p ∷ o ∷ ys))
  steps q = ap survivors (own_exchanged q xs o p ys different)

  pub exchanged_facts : f ≡ f₁
  exchanged_facts = same_facts w v (steps 0) (steps 1)

  pub exchanged_table : SameButNumbers (slots_of c e (xs ++ (o ∷ p ∷ ys))) (slots_of c e (xs ++ (p ∷ o ∷ ys))) b'.table b₁'.table
  exchanged_table = same_table w v (steps 0) (steps 1)

  pub exchanged_chain : (q : ℕ) → q < 2 → by_party q b'.first b'.second ≡ by_party q b₁'.first b₁'.second
  exchanged_chain q h =
      own-chain w q h
      ∙ ap₂ (λ (s : List ℕ) (n : ℕ). s ++ replicate (n - length s) 0) (steps q) (length_exchanged xs o p ys)
      ∙ sym (own-chain v q h)

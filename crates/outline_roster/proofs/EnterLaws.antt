-- A key put at the end of the keys, with its node at the child where the way down to it ended: the tree finds it, and all keys before it.
-- Assumes nothing.
use Rattle.std.specs.Prelude.{Err, Ok, Result}
use mathlib.Core.Bool.{true, false, false≢true}
use mathlib.Core.List.{List, [], ◌∷◌}
use mathlib.Core.Path.{◌≡◌, refl, ap, sym, ◌∙◌, subst}
use Prim.Native.Nat.{ℕ, zero, suc, ◌+◌, ◌*◌, ◌/◌, ◌%◌, ◌<◌, ◌≤◌}
use native.Mathlib.Decide.{ℕ_discrete}
use native.Mathlib.Omega.{arith}
use borrow.Author.Tests.{eqb-true, eq-eqb}
use lib.Dec.{eqb}
use lib.ListN.{length, get_or, set, take, length-set}
use lib.Seq.{get_or-set_same, get_or-set_other, take-suc-set, get_or-take, length-take-le}
use Rattle.lists.specs.Lists.{any, find}
use Rattle.lists.proofs.DistinctLaws.{get_d_mem}
use Rattle.lists.proofs.FindLaws.{bool_agree, find-right, find_pos, find_get}
use Rattle.lists.proofs.GatherLaws.{any→mem}
use Rattle.lists.proofs.ZipLaws.{at-any}
use Rattle.outline_roster.specs.Tree.{seek_from, Tree, Seated}
use Rattle.outline_roster.proofs.TreeLaws.{Step, here, none, down, step, node_key, free_child, free_new}

module _ (keys kids : List ℕ) (used : ℕ) (t : Tree keys kids used) (k l : ℕ) (e : seek_from used keys kids k 0 k ≡ Err l) (room : used < length keys) where
  abbrev keys' : List ℕ
  keys' = set keys used k

  abbrev kids' : List ℕ
  kids' = set kids l used

  free : (l < 2 * used) × (get_or kids l 0 ≡ 0)
  free = free_child keys kids used t k l e

  old_key : (i : ℕ) → i < used → get_or keys' i 0 ≡ get_or keys i 0
  old_key i h = get_or-set_other keys used i k 0 (λ z. omega arith)

  new_key : get_or keys' used 0 ≡ k
  new_key = get_or-set_same keys used k 0 room

  old_child : (m : ℕ) → 0 < get_or kids m 0 → get_or kids' m 0 ≡ get_or kids m 0
  old_child m h = get_or-set_other kids l m used 0 (λ z. omega (arith, ap (λ (x : ℕ). get_or kids x 0) z, free.1))

  new_child : get_or kids' l 0 ≡ used
  new_child = get_or-set_same kids l used 0 (omega (arith, free.0, t.pairs))

  -- a step of the way down, with what comes after it as a parameter
  same_node : (f q i r : ℕ) → i < used → get_or keys i 0 ≡ q → seek_from (suc f) keys' kids' q i r ≡ Ok i
  same_node f q i r h p = by (step f keys' kids' q i r)
    where
      by : Step f keys' kids' q i r → seek_from (suc f) keys' kids' q i r ≡ Ok i
      by (here a b) = b
      by (none a b c) = absurd (a (old_key i h ∙ p))
      by (down a b c) = absurd (a (old_key i h ∙ p))

  same_down : (f q i r : ℕ) → i < used → (get_or keys i 0 ≡ q → ⊥) → 0 < get_or kids (2 * i + r % 2) 0 → seek_from (suc f) keys' kids' q i r ≡ seek_from f keys' kids' q (get_or kids (2 * i + r % 2) 0) (r / 2)
  same_down f q i r h n p = by (step f keys' kids' q i r)
    where
      by : Step f keys' kids' q i r → seek_from (suc f) keys' kids' q i r ≡ seek_from f keys' kids' q (get_or kids (2 * i + r % 2) 0) (r / 2)
      by (here a b) = absurd (n (sym (old_key i h) ∙ a))
      by (none a b c) = absurd (omega (arith, b, p, old_child (2 * i + r % 2) p))
      by (down a b c) = c ∙ ap (λ (x : ℕ). seek_from f keys' kids' q x (r / 2)) (old_child (2 * i + r % 2) p)

  -- a way that ended at a node ends there still
  keeps : (f q i r j : ℕ) → i < used → seek_from f keys kids q i r ≡ Ok j → seek_from (suc f) keys' kids' q i r ≡ Ok j
  keeps zero q i r j h v = let z : ◌≡◌ {A = ℕ} 0 1 = cc in absurd (omega arith)
  keeps (suc f) q i r j h v = by (step f keys kids q i r) (λ d. keeps f q (get_or kids (2 * i + r % 2) 0) (r / 2) j d)
    where
      by : Step f keys kids q i r → (get_or kids (2 * i + r % 2) 0 < used → seek_from f keys kids q (get_or kids (2 * i + r % 2) 0) (r / 2) ≡ Ok j → seek_from (suc f) keys' kids' q (get_or kids (2 * i + r % 2) 0) (r / 2) ≡ Ok j)
          → seek_from (suc (suc f)) keys' kids' q i r ≡ Ok j
      by (here a b) rec = same_node (suc f) q i r h a ∙ sym b ∙ v
      by (none a b c) rec = let z : ◌≡◌ {A = ℕ} 0 1 = cc in absurd (omega arith)
      by (down a b c) rec = same_down (suc f) q i r h a b ∙ rec (t.deeper (2 * i + r % 2) b).1 (sym c ∙ v)

  -- the way down to the new key ends at the new node
  arrives : (f i r : ℕ) → used ≤ i + f → i < used → seek_from f keys kids k i r ≡ Err l → seek_from (suc f) keys' kids' k i r ≡ Ok used
  arrives zero i r g h v = absurd (omega arith)
  arrives (suc f) i r g h v = by (step f keys kids k i r) (λ d. arrives f (get_or kids (2 * i + r % 2) 0) (r / 2) (omega (arith, d.0)) d.1)
    where
      last : (get_or keys i 0 ≡ k → ⊥) → 2 * i + r % 2 ≡ l → seek_from (suc (suc f)) keys' kids' k i r ≡ Ok used
      last n z = to (step (suc f) keys' kids' k i r) (step f keys' kids' k used (r / 2))
        where
          child : get_or kids' (2 * i + r % 2) 0 ≡ used
          child = ap (λ (x : ℕ). get_or kids' x 0) z ∙ new_child

          to : Step (suc f) keys' kids' k i r → Step f keys' kids' k used (r / 2) → seek_from (suc (suc f)) keys' kids' k i r ≡ Ok used
          to (here a b) w = absurd (n (sym (old_key i h) ∙ a))
          to (none a b c) w = absurd (omega (arith, b, child, t.some))
          to (down a b c) (here a' b') = c ∙ ap (λ (x : ℕ). seek_from (suc f) keys' kids' k x (r / 2)) child ∙ b'
          to (down a b c) (none a' b' c') = absurd (a' new_key)
          to (down a b c) (down a' b' c') = absurd (a' new_key)

      by : Step f keys kids k i r → ((2 * i + r % 2 < 2 * get_or kids (2 * i + r % 2) 0) × (get_or kids (2 * i + r % 2) 0 < used) → seek_from f keys kids k (get_or kids (2 * i + r % 2) 0) (r / 2) ≡ Err l → seek_from (suc f) keys' kids' k (get_or kids (2 * i + r % 2) 0) (r / 2) ≡ Ok used)
          → seek_from (suc (suc f)) keys' kids' k i r ≡ Ok used
      by (here a b) rec = let z : ◌≡◌ {A = ℕ} 0 1 = cc in absurd (omega arith)
      by (none a b c) rec = let z : 2 * i + r % 2 ≡ l = cc in last a z
      by (down a b c) rec = same_down (suc f) k i r h a b ∙ rec (t.deeper (2 * i + r % 2) b) (sym c ∙ v)

  grown : Tree keys' kids' (suc used)
  grown = record {
    some = omega arith;
    room = omega (arith, length-set keys used k);
    pairs = omega (arith, length-set keys used k, length-set kids l used, t.pairs);
    deeper = deep;
    found = seen;
  }
    where
      deep : (m : ℕ) → 0 < get_or kids' m 0 → (m < 2 * get_or kids' m 0) × (get_or kids' m 0 < suc used)
      deep m p =
          elim (ℕ_discrete m l) [
            | yes z ↦ let q : get_or kids' m 0 ≡ used = ap (λ (x : ℕ). get_or kids' x 0) z ∙ new_child in (omega (arith, q, z, free.0), omega (arith, q))
            | no z ↦
                let q : get_or kids' m 0 ≡ get_or kids m 0 = get_or-set_other kids l m used 0 z in
                let d = t.deeper m (omega (arith, p, q)) in
                (omega (arith, q, d.0), omega (arith, q, d.1))
          ]

      seen : (j : ℕ) → j < suc used → seek_from (suc used) keys' kids' (get_or keys' j 0) 0 (get_or keys' j 0) ≡ Ok j
      seen j h =
          elim (ℕ_discrete j used) [
            | yes z ↦ subst (λ (q : ℕ). seek_from (suc used) keys' kids' q 0 q ≡ Ok j) (sym (ap (λ (x : ℕ). get_or keys' x 0) z ∙ new_key)) (arrives used 0 k (omega arith) t.some e ∙ ap Ok (sym z))
            | no z ↦ subst (λ (q : ℕ). seek_from (suc used) keys' kids' q 0 q ≡ Ok j) (sym (old_key j (omega arith))) (keeps used (get_or keys j 0) 0 (get_or keys j 0) j t.some (t.found j (omega arith)))
          ]

module _ (keys kids : List ℕ) (used : ℕ) (t : Tree keys kids used) (k : ℕ) where
  long : length (take used keys) ≡ used
  long = length-take-le used keys t.room

  at : (j : ℕ) → j < used → get_or (take used keys) j 0 ≡ get_or keys j 0
  at j h = get_or-take used keys j 0 h

  there : (j : ℕ) → j < used → get_or keys j 0 ≡ k → any (eqb k) (take used keys) ≡ true
  there j h p = at-any (eqb k) (take used keys) j 0 (omega (arith, long)) (eq-eqb k (get_or (take used keys) j 0) (sym (at j h ∙ p)))

  -- the node of a key is its place
  the_place : (j : ℕ) → j < used → get_or keys j 0 ≡ k → find (eqb k) (take used keys) ≡ suc j
  the_place j h p = by (find (eqb k) (take used keys)) refl
    where
      by : (n : ℕ) → find (eqb k) (take used keys) ≡ n → find (eqb k) (take used keys) ≡ suc j
      by zero v = absurd (omega (arith, v, find_pos (eqb k) (take used keys) (there j h p)))
      by (suc m) v =
          let g = find_get (eqb k) (take used keys) m 0 v in
          let i : m < used = omega (arith, g.0, long) in
          let q : get_or keys m 0 ≡ get_or keys j 0 = sym (at m i) ∙ sym (eqb-true k (get_or (take used keys) m 0) g.1) ∙ sym p in
          let a : seek_from used keys kids (get_or keys j 0) 0 (get_or keys j 0) ≡ Ok m = subst (λ (x : ℕ). seek_from used keys kids x 0 x ≡ Ok m) q (t.found m i) in
          let b : seek_from used keys kids (get_or keys j 0) 0 (get_or keys j 0) ≡ Ok j = t.found j h in
          let z : m ≡ j = same_node_number a b in
          v ∙ ap suc z
        where
          same_node_number : {x : Result ℕ ℕ} {a b : ℕ} → x ≡ Ok a → x ≡ Ok b → a ≡ b
          same_node_number p q = cc

  absent : (l : ℕ) → seek_from used keys kids k 0 k ≡ Err l → any (eqb k) (take used keys) ≡ false
  absent l e = bool_agree (any (eqb k) (take used keys)) false (λ v. absurd (none_of (get_d_mem (take used keys) 0 (any→mem eqb eqb-true (λ x. eq-eqb x x refl) k (take used keys) v)))) (λ v. absurd (false≢true v))
    where
      none_of : (i : ℕ) × (i < length (take used keys)) × (get_or (take used keys) i 0 ≡ k) → ⊥
      none_of g = let i : g.0 < used = omega (arith, g.1, long) in free_new keys kids used t k l e g.0 i (sym (at g.0 i) ∙ g.2)

  pub seated_there : (j : ℕ) → seek_from used keys kids k 0 k ≡ Ok j → Seated keys used k keys kids j used
  seated_there j e =
      let n = node_key keys kids used t k j e in
      record { tree = t; joined = rw (there j n.0 n.1); place = the_place j n.0 n.1; same = refl }

  pub seated_new : (l : ℕ) → seek_from used keys kids k 0 k ≡ Err l → used < length keys → Seated keys used k (set keys used k) (set kids l used) used (suc used)
  seated_new l e room = record {
    tree = grown keys kids used t k l e room;
    joined = take-suc-set keys used k room ∙ sym (rw (absent l e));
    place = next_place;
    same = length-set keys used k;
  }
    where
      next_place : find (eqb k) (take (suc used) (set keys used k)) ≡ suc used
      next_place = rw (take-suc-set keys used k room, find-right (eqb k) (take used keys) (k ∷ []) (absent l e) (rw (eq-eqb k k refl) (omega arith)), eq-eqb k k refl) (omega (arith, long))

-- a seat is one of the nodes
pub seated_small : {keys keys' kids' : List ℕ} {used k node used' : ℕ} → Seated keys used k keys' kids' node used' → (node < used') × (used' ≤ length keys)
seated_small {keys} {keys'} {kids'} {used} {k} {node} {used'} s =
    let g = find_get (eqb k) (take used' keys') node 0 s.place in
    (omega (arith, g.0, length-take-le used' keys' s.tree.room), omega (arith, s.tree.room, s.same))

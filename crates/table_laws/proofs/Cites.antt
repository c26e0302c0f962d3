-- The laws of the lookup in the shape that a proof of code cites.
-- Assumes nothing.
use mathlib.Core.Bool.{Bool, true, false, true≢false}
use mathlib.Core.List.{List, [], ◌∷◌, Memᴰ}
use mathlib.Core.Path.{◌≡◌, refl, ap, ap₂, sym, ◌∙◌, subst}
use Prim.Native.Nat.{ℕ, zero, suc, ◌+◌, ◌-◌, ◌*◌, ◌<◌, ◌≤◌}
use native.Mathlib.Omega.{arith}
use borrow.Author.Tests.{lt-ltb, le-ltb, ltb-true, ltb-false}
use lib.Dec.{ltb}
use lib.ListN.{length, length-append, get_or, set}
use Rattle.grid.specs.declared.Corner.{Corner}
use Rattle.grid.specs.Grid.{same, stepped}
use Rattle.grid.specs.Tree.{parent_of, is_root, size_of, child_word}
use Rattle.tree.specs.Nodes.{ref_of}
use Rattle.layout.specs.Table.{width, records_in, word_at, HasRecord, parent_word, neighbour_word, need_word}
use Rattle.tree_laws.specs.State.{State, Sound, table_by, grown, raised, reached, Made, Holds, Stood}
use Rattle.lists.proofs.FindLaws.{find_le}
use Rattle.tree_laws.proofs.AddLaws.{ref_pos}
use Rattle.table_laws.specs.Model.{Out, out, child_in, link_in, above_in, neighbour_in}
use Rattle.table_laws.proofs.ChildLaws.{child_made, mem_of_ref, join-none, finish_none, length_table, grown_nodes}
use Rattle.table_laws.proofs.LookupLaws.{neighbour_made, above_made, finish_made, join_made, Raised, raised_is, root_parent}
use Rattle.table_laws.proofs.StateLaws.{room-old}
use Rattle.table_laws.proofs.CellLaws.{far, read_neighbour, read_parent}

module _ (t : List ℕ) (n u w s : ℕ) where
  -- the child is there
  pub child_is : (k : ℕ) → k ≡ get_or t (word_at u w) 0 → (k ≡ 0 → ⊥) → child_in t n u w s ≡ out t k n
  child_is zero e f = absurd (f refl)
  child_is (suc k) e f = rw (sym e, child_in)

  -- the table is full
  pub child_full : 0 ≡ get_or t (word_at u w) 0 → records_in (length t) ≤ n → child_in t n u w s ≡ out t 0 n
  child_full e h = rw (sym e, child_in) (rw (le-ltb n (records_in (length t)) h))

  -- it is made
  pub child_makes : 0 ≡ get_or t (word_at u w) 0 → n < records_in (length t) → child_in t n u w s ≡ out (set (set (set t (word_at u w) (n + 1)) (word_at n parent_word) (u + 1)) (word_at n need_word) s) (n + 1) (n + 1)
  child_makes e h = rw (sym e, child_in) (rw (lt-ltb n (records_in (length t)) h))

  -- what that means
  pub child_holds : (S : State) (e : Corner) → Holds t n S → is_root e ≡ false → ref_of S.nodes (parent_of e) ≡ suc u → w ≡ child_word e
      → (o : Out) → child_in t n u w s ≡ o → Made (length t) (grown S e s) e o.table o.at o.nodes
  child_holds S e h deep r p o q =
      child_made (length t) S h.sound e s u deep (mem_of_ref S.nodes (parent_of e) u r) r (omega (arith, h.count, h.room)) o
      (ap (λ (x : List ℕ). child_in x (length S.nodes) u (child_word e) s) (sym h.table) ∙ ap₂ (λ (m v : ℕ). child_in t m u v s) (sym h.count) (sym p) ∙ q)

-- a node's number is below the number of nodes
pub ref_below : (ns : List Corner) (c : Corner) (u : ℕ) → ref_of ns c ≡ suc u → u < length ns
ref_below ns c u h = omega (arith, find_le (same c) ns)

-- an answer that is not 0: the table holds the state, and the answer is the node
pub made_holds : (words : ℕ) (T : State) → Sound T → (e : Corner) (t : List ℕ) (a n : ℕ) → Made words T e t a n → (a ≡ 0 → ⊥) → Holds t n T × (ref_of T.nodes e ≡ suc (a - 1)) × (length t ≡ words)
made_holds words T sound e t a n made f = go (ltb words (width * length T.nodes)) refl
  where
    go : (b : Bool) → ltb words (width * length T.nodes) ≡ b → Holds t n T × (ref_of T.nodes e ≡ suc (a - 1)) × (length t ≡ words)
    go true p = absurd (f (made.full (ltb-true words (width * length T.nodes) p)))
    go false p =
        let l = ltb-false words (width * length T.nodes) p in
        let g = made.fits l in
        let k : length t ≡ words = ap length g.0 ∙ length_table words T l in (
          record { sound = sound; table = g.0 ∙ ap (λ (w : ℕ). table_by w T) (sym k); count = g.2; room = omega (arith, g.2) },
          (let z : a ≡ 0 → ⊥ = f in omega (arith, g.1)),
          k,
        )

module _ (t : List ℕ) (n u : ℕ) (c : Corner) (d s : ℕ) (S : State) (h : Holds t n S) (r : ref_of S.nodes c ≡ suc u) (small : d < 4) (pos : 0 < s) where
  room : width * length S.nodes ≤ length t
  room = omega (arith, h.count, h.room)

  abbrev pub Reaches : List ℕ → ℕ → ℕ → Type 0
  Reaches t' a m = Made (length t) (reached S s c (stepped d c)) (stepped d c) t' a m

  abbrev pub Raises : List ℕ → ℕ → ℕ → Type 0
  Raises t' a m = Made (length t) (raised S s c (stepped d c)) (parent_of (stepped d c)) t' a m

  side : get_or t (word_at u (neighbour_word d)) 0 ≡ far (S.step c (stepped d c)) (ref_of S.nodes (stepped d c))
  side = ap (λ (x : List ℕ). get_or x (word_at u (neighbour_word d)) 0) h.table ∙ read_neighbour (length t) S c u r d small

  -- no neighbour's ref, no link
  pub not_linked : 0 ≡ get_or t (word_at u (neighbour_word d)) 0 → S.step c (stepped d c) ≡ 0
  not_linked e = go (S.step c (stepped d c)) refl
    where
      go : (k : ℕ) → S.step c (stepped d c) ≡ k → S.step c (stepped d c) ≡ 0
      go zero p = p
      go (suc k) p =
          let q : 0 ≡ ref_of S.nodes (stepped d c) = e ∙ side ∙ ap (λ (m : ℕ). far m (ref_of S.nodes (stepped d c))) p in
          absurd (omega (arith, ref_pos S.nodes (stepped d c) (h.sound.good.ends c (stepped d c) (omega arith)).1))

  near_holds : (f : ℕ) → size_of c < f → (o : Out) → neighbour_in f t n u c d s ≡ o → Reaches o.table o.at o.nodes
  near_holds f k o q =
      subst (λ y. Reaches y.table y.at y.nodes)
      (ap₂ (λ (x : List ℕ) (m : ℕ). neighbour_in f x m u c d s) (sym h.table) (sym h.count) ∙ q)
      (neighbour_made (length t) S h.sound s d pos small room f c u k r)

  -- the neighbour is linked already
  pub near_known : (k : ℕ) → k ≡ get_or t (word_at u (neighbour_word d)) 0 → (k ≡ 0 → ⊥) → Reaches t k n
  near_known zero e f = absurd (f refl)
  near_known (suc k) e f = near_holds (suc (size_of c)) (omega arith) (out t (suc k) n) (rw (sym e, neighbour_in))

  -- the neighbour is the root
  pub near-root : 0 ≡ get_or t (word_at u (neighbour_word d)) 0 → is_root (stepped d c) ≡ true → Reaches (link_in t u 0 d s) 1 n
  near-root e g = near_holds (suc (size_of c)) (omega arith) (out (link_in t u 0 d s) 1 n) (rw (sym e, neighbour_in) (rw g))

  -- the table is too small for the parents, or for the child
  pub near_no_parent : 0 ≡ get_or t (word_at u (neighbour_word d)) 0 → is_root (stepped d c) ≡ false → (t₁ : List ℕ) (a₁ n₁ : ℕ) → Raises t₁ a₁ n₁ → a₁ ≡ 0 → Reaches t₁ a₁ n₁
  near_no_parent e g t₁ a₁ n₁ m z =
      subst (λ y. Reaches y.table y.at y.nodes) (finish_none (out t₁ a₁ n₁) u (stepped d c) d s z) (finish_made (length t) S h.sound s d pos small room c u r g (not_linked e) (out t₁ a₁ n₁) m)

  pub near_no_child : 0 ≡ get_or t (word_at u (neighbour_word d)) 0 → is_root (stepped d c) ≡ false → (t₂ : List ℕ) (a₂ n₂ : ℕ) → Made (length t) (grown (raised S s c (stepped d c)) (stepped d c) s) (stepped d c) t₂ a₂ n₂ → a₂ ≡ 0 → Reaches t₂ a₂ n₂
  near_no_child e g t₂ a₂ n₂ m z =
      subst (λ y. Reaches y.table y.at y.nodes) (join-none (out t₂ a₂ n₂) u d s z) (join_made (length t) S h.sound s d pos small room c u r g (not_linked e) (out t₂ a₂ n₂) m)

  -- the child found or made, and linked
  pub near-linked : 0 ≡ get_or t (word_at u (neighbour_word d)) 0 → is_root (stepped d c) ≡ false → (t₂ : List ℕ) (a₂ n₂ : ℕ) → Made (length t) (grown (raised S s c (stepped d c)) (stepped d c) s) (stepped d c) t₂ a₂ n₂ → (a₂ ≡ 0 → ⊥)
      → Reaches (link_in t₂ u (a₂ - 1) d s) a₂ n₂
  near-linked e g t₂ zero n₂ m z = absurd (z refl)
  near-linked e g t₂ (suc k) n₂ m z =
      let w : suc k - 1 ≡ k = omega arith in
      rw w (join_made (length t) S h.sound s d pos small room c u r g (not_linked e) (out t₂ (suc k) n₂) m)

  -- the parent of the neighbour
  raise : (call : ℕ → Corner → Out) → is_root (stepped d c) ≡ false
      → ((v : ℕ) → is_root c ≡ false → ref_of S.nodes (parent_of c) ≡ suc v → Made (length t) (reached S s (parent_of c) (stepped d (parent_of c))) (stepped d (parent_of c)) (call v (parent_of c)).table (call v (parent_of c)).at (call v (parent_of c)).nodes)
      → (o : Out) → above_in call t n u c (stepped d c) ≡ o → Raises o.table o.at o.nodes
  raise call g ih o q =
      above_made (length t) S h.sound s d pos small room call c u r g ih o (ap₂ (λ (x : List ℕ) (m : ℕ). above_in call x m u c (stepped d c)) (sym h.table) (sym h.count) ∙ q)

  looked : ℕ → Corner → Out
  looked v p = neighbour_in (suc (size_of p)) (table_by (length t) S) (length S.nodes) v p d s

  -- c is the root; one parent; or the lookup one level up
  pub above_root : is_root (stepped d c) ≡ false → is_root c ≡ true → Raises t (u + 1) n
  above_root g i = raise (λ v p. out t 0 n) g (λ v k q. absurd (true≢false (sym i ∙ k))) (out t (u + 1) n) (rw (i, above_in))

  pub above_same : is_root (stepped d c) ≡ false → is_root c ≡ false → same (parent_of c) (parent_of (stepped d c)) ≡ true → (k : ℕ) → k ≡ get_or t (word_at u parent_word) 0 → Raises t k n
  unfolding looked
  above_same g i j k e = raise looked g (λ v l q. neighbour_made (length t) S h.sound s d pos small room (suc (size_of (parent_of c))) (parent_of c) v (omega arith) q) (out t k n) (rw (e, i, above_in) (rw j))

  pub above_call : is_root (stepped d c) ≡ false → is_root c ≡ false → same (parent_of c) (parent_of (stepped d c)) ≡ false → (t₁ : List ℕ) (a₁ n₁ : ℕ)
      → Made (length t) (reached S s (parent_of c) (stepped d (parent_of c))) (stepped d (parent_of c)) t₁ a₁ n₁ → Raises t₁ a₁ n₁
  above_call g i j t₁ a₁ n₁ m = raise (λ v p. out t₁ a₁ n₁) g (λ v k q. m) (out t₁ a₁ n₁) (rw (i, above_in) (rw j))

  -- the state of the parents, and the parent of the neighbour in it
  pub over_holds : is_root (stepped d c) ≡ false → (t₁ : List ℕ) (a₁ n₁ : ℕ) → Raises t₁ a₁ n₁ → (a₁ ≡ 0 → ⊥)
      → Holds t₁ n₁ (raised S s c (stepped d c)) × (ref_of (raised S s c (stepped d c)).nodes (parent_of (stepped d c)) ≡ suc (a₁ - 1)) × (length t₁ ≡ length t)
  over_holds g t₁ a₁ n₁ m f =
      let k = mem_of_ref S.nodes c u r in
      made_holds (length t) (raised S s c (stepped d c)) (raised_is S h.sound s c (stepped d c) k (root_parent (length t) S h.sound s d pos small room c k)).sound (parent_of (stepped d c)) t₁ a₁ n₁ m f

  -- after `child`: both nodes of the link are in range
  pub link_bounds : (t₂ : List ℕ) (a₂ n₂ : ℕ) → Made (length t) (grown (raised S s c (stepped d c)) (stepped d c) s) (stepped d c) t₂ a₂ n₂ → (a₂ ≡ 0 → ⊥)
      → HasRecord t₂ u × HasRecord t₂ (a₂ - 1) × (length t₂ ≡ length t)
  link_bounds t₂ a₂ n₂ m f = go (ltb (length t) (width * length G.nodes)) refl
    where
      T : State
      T = raised S s c (stepped d c)

      G : State
      G = grown T (stepped d c) s

      k : Memᴰ c S.nodes
      k = mem_of_ref S.nodes c u r

      up' : Raised S T (stepped d c)
      up' = raised_is S h.sound s c (stepped d c) k (root_parent (length t) S h.sound s d pos small room c k)

      more : length S.nodes ≤ length G.nodes
      more =
          omega (
            arith,
            ap length (grown_nodes T (stepped d c) s),
            room-old T.nodes (stepped d c ∷ []),
            ap length up'.more,
            length-append S.nodes up'.rest,
          )

      go : (b : Bool) → ltb (length t) (width * length G.nodes) ≡ b → HasRecord t₂ u × HasRecord t₂ (a₂ - 1) × (length t₂ ≡ length t)
      go true p = absurd (f (m.full (ltb-true (length t) (width * length G.nodes) p)))
      go false p =
          let l = ltb-false (length t) (width * length G.nodes) p in
          let q = m.fits l in
          let w : length t₂ ≡ length t = ap length q.0 ∙ length_table (length t) G l in
          let x = ref_below S.nodes c u r in
          let y : a₂ - 1 < length G.nodes = let z : a₂ ≡ 0 → ⊥ = f in omega (arith, q.1, find_le (same (stepped d c)) G.nodes) in
          (omega (arith, more), omega arith, w)

pub stood : (t : List ℕ) (n u : ℕ) (c : Corner) (S : State) → Holds t n S → ref_of S.nodes c ≡ suc u → Stood t n u c
stood t n u c S h r = record { state = S; holds = h; here = r; below = omega (arith, ref_below S.nodes c u r, h.count) }

-- word 0 of a node that is not the root
pub parent_word_lem : (t : List ℕ) (n u : ℕ) (c : Corner) (S : State) → Holds t n S → ref_of S.nodes c ≡ suc u → is_root c ≡ false → get_or t (word_at u parent_word) 0 ≡ ref_of S.nodes (parent_of c)
parent_word_lem t n u c S h r g = ap (λ (x : List ℕ). get_or x (word_at u parent_word) 0) h.table ∙ read_parent (length t) S c u r ∙ rw g

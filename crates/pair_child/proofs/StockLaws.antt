-- The child of a node that stands, by the nodes and what is in use: the scan finds the lowest free record, and what is in use is
-- passed on. Assumes nothing.
use mathlib.Core.Bool.{Bool, true, false, not, ◌&&◌}
use mathlib.Core.List.Memᴰ
use mathlib.Core.List.{List, [], ◌∷◌, Memᴰ}
use mathlib.Core.Logic.{⊎_elim}
use mathlib.Core.Path.{◌≡◌, refl, ap, sym, ◌∙◌, subst}
use Prim.Native.Nat.{ℕ, zero, suc, ◌+◌, ◌*◌, ◌<◌, ◌≤◌}
use native.Mathlib.Decide.{dec_lt}
use native.Mathlib.Omega.{arith}
use borrow.Author.Tests.{eqb-true, eqb-false, leb-true, leb-false}
use lib.Dec.{eqb}
use lib.ListN.{length}
use Rattle.grid.specs.declared.Corner.{Corner}
use Rattle.grid.specs.Tree.{root, parent_of, is_root, path_of, child_word}
use Rattle.layout.specs.Table.{parent_word, need_word}
use Rattle.tree_laws.specs.State.{State, grown}
use Rattle.grid.proofs.PathLaws.{path_of_snoc}
use Rattle.tree.proofs.NodeLaws.{mem_path}
use Rattle.pair_table.specs.Slots.{Slot, free, held, placed, placed_all, put_lowest}
use Rattle.pair_table.specs.Words.{pair_width, pair_records_in}
use Rattle.pair_laws.specs.Stand.{At, HeldOnce, HeldBelow, held_in, lowest}
use Rattle.pair_laws.proofs.CountLaws.{put_held}
use Rattle.pair_laws.proofs.LowLaws.{low_made}
use Rattle.pair_laws.proofs.SlotLaws.{free_not_held, lowest_free, placed_cases, placed_known, all-at}
use Rattle.pair_table_laws.specs.Hold.{Both, with_party, of_party, words_in, SettledIn, PairTable}
use Rattle.pair_table_laws.specs.Stores.{pair_node_in}
use Rattle.pair_table_laws.specs.Look.{Child, NoRoomFor}
use Rattle.pair_table_laws.proofs.FrameLaws.{at_below}
use Rattle.pair_table_laws.proofs.ChildLaws.{child_stands, child_nowhere, child_known, child_need, child_made}
use Rattle.pair_table_laws.proofs.ScanLaws.{scan_held, scan_done, low_full}
use Rattle.std.specs.Prelude.{None, Option, Some}
use Rattle.pair_child.specs.declared.Stock.{Stock}
use Rattle.pair_child.specs.declared.Located.{Located}
use Rattle.pair_child.specs.Finds.{in_table, taken_at, ScannedTo, found, stocked, claim_in, Childed, StockIs, ChildFound, Finds}
use Rattle.pair_child.proofs.FindLaws.{claim_new, claim_known}

-- ---- what is in use is in the table
held_few : (slots : List Slot) → held_in slots ≤ length slots
held_few [] = omega arith
held_few (free ∷ slots) = omega (arith, held_few slots)
held_few (held b ∷ slots) = omega (arith, held_few slots)

below_few : (slots : List Slot) (j : ℕ) → HeldBelow slots j → j ≤ length slots
below_few slots zero f = omega arith
below_few slots (suc j) f = let y = f j (omega arith) in omega (arith, at_below slots j y.0 y.1)

pub in_use_small : (s : Stock) (slots : List Slot) (t : List ℕ) → StockIs s slots → length slots * pair_width ≤ length t → (s.low ≤ length t) × (s.nodes ≤ length t)
in_use_small s slots t k room = (omega (arith, below_few slots s.low k.low), omega (arith, k.nodes, held_few slots))

-- all records before this one are held, so it is not above the lowest free one
low-above : (slots : List Slot) (j : ℕ) → HeldBelow slots j → j ≤ lowest slots
low-above slots j f =
    elim (dec_lt (lowest slots) j) [ yes h ↦ absurd (let y = f (lowest slots) h in free_not_held y.0 (sym (lowest_free slots) ∙ y.1)) | no h ↦ omega arith ]

-- ---- records that the scan passes, and where it stops
not_both : (a b : Bool) → (a && b) ≡ true → b ≡ true
not_both true b e = e
not_both false b e = absurd (clash e)
  where
    clash : false ≡ true → ⊥
    clash e = let z : ◌≡◌ {A = ℕ} 0 1 = cc in omega arith

first_true : (a b : Bool) → a ≡ true → (a && not b) ≡ false → b ≡ true
first_true a true e f = refl
first_true true false e f = absurd (let z : ◌≡◌ {A = ℕ} 0 1 = cc in omega arith)
first_true false false e f = absurd (let z : ◌≡◌ {A = ℕ} 0 1 = cc in omega arith)

not-false : (b : Bool) → not b ≡ true → b ≡ false
not-false false e = refl
not-false true e = absurd (let z : ◌≡◌ {A = ℕ} 0 1 = cc in omega arith)

taken_word : (t : List ℕ) (r : ℕ) → taken_at t r ≡ true → 0 < words_in t r parent_word
taken_word t r e = omega (arith, eqb-false (words_in t r parent_word) 0 (not-false (eqb (words_in t r parent_word) 0) (not_both (in_table t r) (not (eqb (words_in t r parent_word) 0)) e)))

free_word : (t : List ℕ) (r : ℕ) → in_table t r ≡ true → taken_at t r ≡ false → words_in t r parent_word ≡ 0
free_word t r e f = eqb-true (words_in t r parent_word) 0 (first_true (in_table t r) (eqb (words_in t r parent_word) 0) e f)

module _ (slots : List Slot) (C : Both) (q : ℕ) (known : q < 2) (T : State) (settled : SettledIn slots (with_party C q T)) (t : List ℕ) (h : PairTable t slots (with_party C q T))
    (e : Corner) (deep : is_root e ≡ false) (p : ℕ) (has : At slots p (parent_of e)) (s : ℕ) where
  -- ---- what is asked of the record that its word names
  pub child_in_lem : (v : ℕ) → words_in t p (child_word e) ≡ suc v → suc v * pair_width ≤ length t
  child_in_lem v w = omega (arith, at_below slots v e (child_stands slots C q known T settled t h e deep p has s v w), h.room)

  module _ (stock : Stock) (used : StockIs stock slots) (top : At slots 0 root) where
    -- ---- the scan
    scanned_held : (k : ℕ) → ScannedTo t stock.low k → HeldBelow slots k
    scanned_held k z i l =
        elim (dec_lt i stock.low) [
          | yes g ↦ used.low i g
          | no g ↦ scan_held t slots (with_party C q T) settled h top i (omega (arith, used.above)) (taken_word t i (z.passed i (omega arith) l))
        ]

    -- ---- it stands already
    known_found : (v : ℕ) → words_in t p (child_word e) ≡ suc v → (t' : List ℕ) → t' ≡ claim_in q t v s → ChildFound C slots q T e s t t' (Some (found v stock))
    known_found v w t' i = (
      by (words_in t v (of_party q need_word)) refl,
      subst (StockIs stock) (sym (placed_known slots e v (child_stands slots C q known T settled t h e deep p has s v w))) used,
    )
      where
        by : (n : ℕ) → words_in t v (of_party q need_word) ≡ n → Child C slots q (grown T e s) e t' (suc v)
        by zero n = subst (λ (l : List ℕ). Child C slots q (grown T e s) e l (suc v)) (claim_new q t v s (words_in t v (of_party q need_word)) refl n refl ∙ sym i) (child_need slots C q known T settled t h e deep p has s v w n)
        by (suc m) n = subst (λ (l : List ℕ). Child C slots q (grown T e s) e l (suc v)) (claim_known q t v s (words_in t v (of_party q need_word)) refl (λ z. omega arith) ∙ sym i) (child_known slots C q known T settled t h e deep p has s v w (omega arith))

    -- ---- it is made, in the lowest free record
    made_found : words_in t p (child_word e) ≡ 0 → (k : ℕ) → ScannedTo t stock.low k → in_table t k ≡ true → (t' : List ℕ) → t' ≡ pair_node_in q t k p (child_word e) s → ChildFound C slots q T e s t t' (Some (found k (stocked stock k)))
    made_found w k z b t' i =
        let n : lowest slots ≡ k = scan_done t slots (with_party C q T) settled h top k (omega (arith, used.above, z.from)) (scanned_held k z) (free_word t k b z.stops) in
        let fresh = child_nowhere slots C q known T settled t h e deep p has s w in
        let g : placed slots e ≡ put_lowest e slots = ⊎_elim (λ x. let y = x.0 in absurd (fresh y.0 y.1)) (λ x. x.1) (placed_cases slots e) in
        let room : suc (lowest slots) * pair_width ≤ length t = omega (arith, n, leb-true (suc k * pair_width) (length t) b) in
        let l : t' ≡ pair_node_in q t (lowest slots) p (child_word e) s = i ∙ ap (λ (x : ℕ). pair_node_in q t x p (child_word e) s) (sym n) in (
          subst (λ (x : ℕ). Child C slots q (grown T e s) e t' (suc x)) n (subst (λ (x : List ℕ). Child C slots q (grown T e s) e x (suc (lowest slots))) (sym l) (child_made slots C q known T settled t h e deep p has s w room)),
          subst (StockIs (stocked stock k)) (sym g) record {
            nodes = omega (arith, used.nodes, put_held e slots);
            above = omega arith;
            low = let x : suc (lowest slots) ≡ k + 1 = omega (arith, n) in subst (HeldBelow (put_lowest e slots)) x (low_made e slots);
          },
        )

    -- ---- or there is no record
    none_found : words_in t p (child_word e) ≡ 0 → (k : ℕ) → ScannedTo t stock.low k → in_table t k ≡ false → (t' : List ℕ) → ChildFound C slots q T e s t t' None
    none_found w k z b t' = (child_nowhere slots C q known T settled t h e deep p has s w, omega (arith, low-above slots k (scanned_held k z), leb-false (suc k * pair_width) (length t) b))

    pub child_found : (t' : List ℕ) (r : Option Located) → Childed q t stock p (child_word e) s t' r → ChildFound C slots q T e s t t' r
    child_found t' r ch = go (words_in t p (child_word e)) refl
      where
        go : (w : ℕ) → words_in t p (child_word e) ≡ w → ChildFound C slots q T e s t t' r
        go (suc v) w = let k = ch.1 v w in subst (ChildFound C slots q T e s t t') (sym k.1) (known_found v w t' k.0)
        go zero w = by (in_table t (ch.0 w).number) refl
          where
            by : (b : Bool) → in_table t (ch.0 w).number ≡ b → ChildFound C slots q T e s t t' r
            by true b = let k = (ch.0 w).made.0 b in subst (ChildFound C slots q T e s t t') (sym k.1) (made_found w (ch.0 w).number (ch.0 w).scanned b t' k.0)
            by false b = subst (ChildFound C slots q T e s t t') (sym ((ch.0 w).made.1 b)) (none_found w (ch.0 w).number (ch.0 w).scanned b t')

-- ---- the table is full
-- a table that is too small for the child of a path is too small for its path
pub no_room_child : (slots : List Slot) (e : Corner) (t : List ℕ) → is_root e ≡ false → HeldOnce (placed_all slots (path_of (parent_of e))) → ((i : ℕ) → At (placed_all slots (path_of (parent_of e))) i e → ⊥)
    → pair_records_in (length t) ≤ lowest (placed_all slots (path_of (parent_of e))) → NoRoomFor slots e t
no_room_child slots e t deep once fresh full ns all path =
    low_full t (placed_all slots (path_of (parent_of e))) ns e once
    (λ b i y. ⊎_elim (λ k. all b i k) (λ k. path b (subst (Memᴰ b) (sym (path_of_snoc e deep)) (Memᴰ.append_left (e ∷ []) k))) (all-at slots (path_of (parent_of e)) i b y))
    (path e (mem_path e)) fresh full

-- for a parent is none for the child
pub no_room_down : (slots : List Slot) (e : Corner) (t : List ℕ) → is_root e ≡ false → NoRoomFor slots (parent_of e) t → NoRoomFor slots e t
no_room_down slots e t deep f ns all path = f ns all (λ x m. path x (subst (Memᴰ x) (sym (path_of_snoc e deep)) (Memᴰ.append_left (e ∷ []) m)))

-- in a table as long
pub no_room-long : (slots : List Slot) (e : Corner) (t t' : List ℕ) → length t ≡ length t' → NoRoomFor slots e t → NoRoomFor slots e t'
no_room-long slots e t t' l f ns all path = omega (arith, l, f ns all path)

pub finds_long : (B : Both) (slots : List Slot) (q : ℕ) (S : State) (e : Corner) (t t₀ t' : List ℕ) (r : Option Located) → length t ≡ length t₀ → Finds B slots q S e t t' r → Finds B slots q S e t₀ t' r
finds_long B slots q S e t t₀ t' None l f = no_room-long slots e t t₀ l f
finds_long B slots q S e t t₀ t' (Some v) l f = f

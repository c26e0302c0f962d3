-- What the stores for two neighbours make of the table of a state: a link set or cleared, an edge walked once more or once less.
-- Assumes nothing.
use mathlib.Core.Bool.{Bool, true, false}
use mathlib.Core.List.{List}
use mathlib.Core.Logic.{⊎_elim}
use mathlib.Core.Path.{◌≡◌, refl, ap, ap₂, sym, ◌∙◌}
use Prim.Native.Nat.{ℕ, suc, ◌+◌, ◌%◌, ◌<◌}
use native.Mathlib.Omega.{arith}
use borrow.Author.Tests.{eqb-true, eqb-false}
use lib.Dec.{eqb}
use lib.ListN.{set}
use Rattle.grid.specs.declared.Corner.{Corner}
use Rattle.grid.specs.Grid.{stepped, joins, back}
use Rattle.layout.specs.Table.{word_at, neighbour_word, link_word, edge_word}
use Rattle.lists.specs.Lists.{tally, Distinct}
use Rattle.tree.specs.Nodes.{ref_of}
use Rattle.tree_laws.specs.State.{link_put, State, with_link, walked_by, neighbour_by, fields_by, record_by, filled, table_by}
use Rattle.grid.proofs.StepLaws.{back-mod, back_small, stepped-back, stepped_ne}
use Rattle.layout.proofs.WordLaws.{bump, words_cong, with_side, words-side, with_edge, words_edge}
use Rattle.lists.proofs.BoolLaws.{is_false}
use Rattle.grid.proofs.JoinLaws.{joins_cases, joins_here, joins-there, joins-stepped}
use Rattle.table_laws.proofs.RowLaws.{once, corners, upd, rows_cong, two-rows, one_each, upd-is}
use Rattle.table_laws.proofs.CellLaws.{wide, far, far_pos}

-- a neighbour's ref stands where its step does
far-bump : (H r : ℕ → ℕ) (d s k : ℕ) → far (bump H d s k) (r k) ≡ bump (λ i. far (H i) (r i)) d (far s (r d)) k
far-bump H r d s k = go (eqb k d) refl
  where
    go : (b : Bool) → eqb k d ≡ b → far (bump H d s k) (r k) ≡ bump (λ i. far (H i) (r i)) d (far s (r d)) k
    go true p = rw p (ap (λ (i : ℕ). far s (r i)) (eqb-true k d p))
    go false p = rw p

-- ---- what is set for a pair of neighbours, in the four words of each of them
module _ (F G : Corner → Corner → ℕ) (a : Corner) (d s : ℕ) (small : d < 4)
    (yes : (x y : Corner) → joins x y (a, stepped d a) ≡ true → G x y ≡ s) (no : (x y : Corner) → (joins x y (a, stepped d a) ≡ true → ⊥) → G x y ≡ F x y) where
  at_a : (k : ℕ) → k < 4 → G a (stepped k a) ≡ bump (λ i. F a (stepped i a)) d s k
  at_a k h = go (eqb k d) refl
    where
      go : (b : Bool) → eqb k d ≡ b → G a (stepped k a) ≡ bump (λ i. F a (stepped i a)) d s k
      go true p = yes a (stepped k a) (ap (λ (i : ℕ). joins a (stepped i a) (a, stepped d a)) (eqb-true k d p) ∙ joins_here a (stepped d a)) ∙ sym (rw p)
      go false p = no a (stepped k a) (λ j. ⊎_elim (λ z. eqb-false k d p z.1) (λ z. stepped_ne d a (sym z.0)) (joins-stepped k d a a h small j)) ∙ sym (rw p)

  at-e : (k : ℕ) → k < 4 → G (stepped d a) (stepped k (stepped d a)) ≡ bump (λ i. F (stepped d a) (stepped i (stepped d a))) (back d) s k
  at-e k h = go (eqb k (back d)) refl
    where
      go : (b : Bool) → eqb k (back d) ≡ b → G (stepped d a) (stepped k (stepped d a)) ≡ bump (λ i. F (stepped d a) (stepped i (stepped d a))) (back d) s k
      go true p = yes (stepped d a) (stepped k (stepped d a)) (ap (λ (y : Corner). joins (stepped d a) y (a, stepped d a)) (ap (λ (i : ℕ). stepped i (stepped d a)) (eqb-true k (back d) p) ∙ stepped-back d a) ∙ joins-there a (stepped d a)) ∙ sym (rw p)
      go false p = no (stepped d a) (stepped k (stepped d a)) (λ j. ⊎_elim (λ z. stepped_ne d a z.0) (λ z. eqb-false k (back d) p z.1) (joins-stepped k d (stepped d a) a h small j)) ∙ sym (rw p)

  at_x : (x : Corner) → (x ≡ a → ⊥) → (x ≡ stepped d a → ⊥) → (k : ℕ) → k < 4 → G x (stepped k x) ≡ F x (stepped k x)
  at_x x f g k h = no x (stepped k x) (λ j. ⊎_elim (λ z. f z.0) (λ z. g z.0) (joins-stepped k d x a h small j))

-- ---- a link set both ways (s above 0), or cleared (s = 0)
module _ (S : State) (a : Corner) (d s : ℕ) (small : d < 4) where
  abbrev steps : Corner → Corner → ℕ
  steps = link_put S.step s a (stepped d a)

  abbrev linked : Corner → List ℕ
  linked = record_by (with_link S a (stepped d a) s)

  -- the row of x with a link in direction k to the node with the ref r
  abbrev sided : Corner → ℕ → ℕ → List ℕ
  sided x k r = set (set (record_by S x) (neighbour_word k) (far s r)) (link_word k) s

  link_put_yes : (x y : Corner) → joins x y (a, stepped d a) ≡ true → steps x y ≡ s
  link_put_yes x y e = rw e

  link_put_no : (x y : Corner) → (joins x y (a, stepped d a) ≡ true → ⊥) → steps x y ≡ S.step x y
  link_put_no x y f = rw (is_false (joins x y (a, stepped d a)) f)

  link_a : (k : ℕ) → k < 4 → steps a (stepped k a) ≡ bump (λ i. S.step a (stepped i a)) d s k
  link_a = at_a S.step steps a d s small link_put_yes link_put_no

  link_e : (k : ℕ) → k < 4 → steps (stepped d a) (stepped k (stepped d a)) ≡ bump (λ i. S.step (stepped d a) (stepped i (stepped d a))) (back d) s k
  link_e = at-e S.step steps a d s small link_put_yes link_put_no

  link_x : (x : Corner) → (x ≡ a → ⊥) → (x ≡ stepped d a → ⊥) → (k : ℕ) → k < 4 → steps x (stepped k x) ≡ S.step x (stepped k x)
  link_x = at_x S.step steps a d s small link_put_yes link_put_no

  link_row-a : linked a ≡ sided a d (ref_of S.nodes (stepped d a))
  link_row-a =
      words_cong (fields_by (with_link S a (stepped d a) s) a) (with_side (fields_by S a) d (far s (ref d)) s) refl (λ k i j. refl)
      (λ k h. ap (λ (n : ℕ). far n (ref k)) (link_a k h) ∙ far-bump (λ i. S.step a (stepped i a)) ref d s k)
      link_a refl refl refl (λ k h. refl)
      ∙ sym (words-side (fields_by S a) d (far s (ref d)) s small)
    where
      ref : ℕ → ℕ
      ref k = ref_of S.nodes (stepped k a)

  link_row-e : linked (stepped d a) ≡ sided (stepped d a) (back d) (ref_of S.nodes a)
  link_row-e =
      words_cong (fields_by (with_link S a (stepped d a) s) (stepped d a)) (with_side (fields_by S (stepped d a)) (back d) (far s (ref_of S.nodes a)) s) refl (λ k i j. refl)
      (λ k h. ap (λ (n : ℕ). far n (ref k)) (link_e k h) ∙ far-bump (λ i. S.step (stepped d a) (stepped i (stepped d a))) ref (back d) s k ∙ ap (bumped k) (stepped-back d a))
      link_e refl refl refl (λ k h. refl)
      ∙ sym (words-side (fields_by S (stepped d a)) (back d) (far s (ref_of S.nodes a)) s (back_small d))
    where
      ref : ℕ → ℕ
      ref k = ref_of S.nodes (stepped k (stepped d a))

      bumped : ℕ → Corner → ℕ
      bumped k y = bump (neighbour_by S.nodes S.step (stepped d a)) (back d) (far s (ref_of S.nodes y)) k

  pub link_row_x : (x : Corner) → (x ≡ a → ⊥) → (x ≡ stepped d a → ⊥) → record_by (with_link S a (stepped d a) s) x ≡ record_by S x
  link_row_x x f g =
      words_cong (fields_by (with_link S a (stepped d a) s) x) (fields_by S x) refl (λ k i j. refl)
      (λ k h. ap (λ (n : ℕ). far n (ref_of S.nodes (stepped k x))) (link_x x f g k h)) (link_x x f g) refl refl refl (λ k h. refl)

  -- the four stores of a link
  link_stores : (words u v : ℕ) → Distinct S.nodes → ref_of S.nodes a ≡ suc u → ref_of S.nodes (stepped d a) ≡ suc v
      → set (set (set (set (table_by words S) (word_at u (neighbour_word d)) (far s (suc v))) (word_at u (link_word d)) s) (word_at v (neighbour_word (back d))) (far s (suc u))) (word_at v (link_word (back d))) s
      ≡ table_by words (with_link S a (stepped d a) s)
  link_stores words u v dis h k =
      let b = back_small d in
      two-rows corners (record_by S) (wide S) words S.nodes a (stepped d a) u v (neighbour_word d) (far s (suc v)) (link_word d) s
      (neighbour_word (back d)) (far s (suc u)) (link_word (back d)) s (once S.nodes dis a) (once S.nodes dis (stepped d a)) h k
      (stepped_ne d a) (omega arith) (omega arith) (omega arith) (omega arith)
      ∙ ap (filled words) (rows_cong (upd corners from (stepped d a) (sided (stepped d a) (back d) (suc u))) linked S.nodes (λ x m. row x))
    where
      from : Corner → List ℕ
      from = upd corners (record_by S) a (sided a d (suc v))

      row : (x : Corner) → upd corners from (stepped d a) (sided (stepped d a) (back d) (suc u)) x ≡ linked x
      row x =
          upd-is corners from linked (stepped d a) (sided (stepped d a) (back d) (suc u)) (ap (sided (stepped d a) (back d)) (sym h) ∙ sym link_row-e) x
          (λ f. upd-is corners (record_by S) linked a (sided a d (suc v)) (ap (sided a d) (sym k) ∙ sym link_row-a) x (λ g. sym (link_row_x x g f)))

-- the same as the code has it
pub link_table : (S : State) (a : Corner) (d s words u v : ℕ) → d < 4 → 0 < s → Distinct S.nodes → ref_of S.nodes a ≡ suc u → ref_of S.nodes (stepped d a) ≡ suc v
    → set (set (set (set (table_by words S) (word_at u (neighbour_word d)) (v + 1)) (word_at u (link_word d)) s) (word_at v (neighbour_word ((d + 2) % 4))) (u + 1)) (word_at v (link_word ((d + 2) % 4))) s ≡ table_by words (with_link S a (stepped d a) s)
link_table S a d s words u v small pos dis h k =
    let x : v + 1 ≡ far s (suc v) = sym (far_pos s (suc v) pos ∙ (omega arith)) in
    let y : u + 1 ≡ far s (suc u) = sym (far_pos s (suc u) pos ∙ (omega arith)) in
    rw (← (back-mod d small), x, y) (link_stores S a d s small words u v dis h k)

pub unlink_table : (S : State) (a : Corner) (d words u v : ℕ) → d < 4 → Distinct S.nodes → ref_of S.nodes a ≡ suc u → ref_of S.nodes (stepped d a) ≡ suc v
    → set (set (set (set (table_by words S) (word_at u (neighbour_word d)) 0) (word_at u (link_word d)) 0) (word_at v (neighbour_word ((d + 2) % 4))) 0) (word_at v (link_word ((d + 2) % 4))) 0 ≡ table_by words (with_link S a (stepped d a) 0)
unlink_table S a d words u v small dis h k = rw (← (back-mod d small)) (link_stores S a d 0 small words u v dis h k)

-- ---- an edge's count set at both its ends, everything else as it was
module _ (S : State) (E : Corner → Corner → ℕ) (a : Corner) (d x : ℕ) (small : d < 4)
    (yes : (p q : Corner) → joins p q (a, stepped d a) ≡ true → E p q ≡ x) (no : (p q : Corner) → (joins p q (a, stepped d a) ≡ true → ⊥) → E p q ≡ S.edges p q) where
  abbrev T : State
  T = record { nodes = S.nodes; step = S.step; visits = S.visits; need = S.need; first = S.first; edges = E }

  edge_row-a : record_by T a ≡ set (record_by S a) (edge_word d) x
  edge_row-a =
      words_cong (fields_by T a) (with_edge (fields_by S a) d x) refl (λ k i j. refl) (λ k i. refl) (λ k i. refl) refl refl refl (at_a S.edges E a d x small yes no)
      ∙ sym (words_edge (fields_by S a) d x small)

  edge_row-e : record_by T (stepped d a) ≡ set (record_by S (stepped d a)) (edge_word (back d)) x
  edge_row-e =
      words_cong (fields_by T (stepped d a)) (with_edge (fields_by S (stepped d a)) (back d) x) refl (λ k i j. refl) (λ k i. refl) (λ k i. refl) refl refl refl (at-e S.edges E a d x small yes no)
      ∙ sym (words_edge (fields_by S (stepped d a)) (back d) x (back_small d))

  edge_row_x : (z : Corner) → (z ≡ a → ⊥) → (z ≡ stepped d a → ⊥) → record_by T z ≡ record_by S z
  edge_row_x z f g = words_cong (fields_by T z) (fields_by S z) refl (λ k i j. refl) (λ k i. refl) (λ k i. refl) refl refl refl (at_x S.edges E a d x small yes no z f g)

  edge_stores : (words u v : ℕ) → Distinct S.nodes → ref_of S.nodes a ≡ suc u → ref_of S.nodes (stepped d a) ≡ suc v
      → set (set (table_by words S) (word_at u (edge_word d)) x) (word_at v (edge_word (back d))) x ≡ table_by words T
  edge_stores words u v dis h k =
      let b = back_small d in
      one_each corners (record_by S) (wide S) words S.nodes a (stepped d a) u v (edge_word d) x (edge_word (back d)) x (once S.nodes dis a) (once S.nodes dis (stepped d a)) h k (stepped_ne d a) (omega arith) (omega arith)
      ∙ ap (filled words) (rows_cong (upd corners from (stepped d a) row-e) (record_by T) S.nodes (λ z m. row z))
    where
      from : Corner → List ℕ
      from = upd corners (record_by S) a (set (record_by S a) (edge_word d) x)

      row-e : List ℕ
      row-e = set (record_by S (stepped d a)) (edge_word (back d)) x

      row : (z : Corner) → upd corners from (stepped d a) row-e z ≡ record_by T z
      row z =
          upd-is corners from (record_by T) (stepped d a) row-e (sym edge_row-e) z
          (λ f. upd-is corners (record_by S) (record_by T) a (set (record_by S a) (edge_word d) x) (sym edge_row-a) z (λ g. sym (edge_row_x z g f)))

-- the edge from a in direction d walked once more, and once less
module _ (S : State) (dis : Distinct S.nodes) (paired : (x y : Corner) → S.edges x y ≡ S.edges y x) (a : Corner) (d : ℕ) (small : d < 4) (words u v : ℕ)
    (h : ref_of S.nodes a ≡ suc u) (k : ref_of S.nodes (stepped d a) ≡ suc v) where
  -- one count for the pair
  pair : (p q : Corner) → joins p q (a, stepped d a) ≡ true → S.edges p q ≡ S.edges a (stepped d a)
  pair p q j = ⊎_elim (λ z. ap₂ S.edges (sym z.0) (sym z.1)) (λ z. ap₂ S.edges (sym z.1) (sym z.0) ∙ paired (stepped d a) a) (joins_cases p q a (stepped d a) j)

  more : (p q : Corner) → joins p q (a, stepped d a) ≡ true → S.edges p q + tally (joins p q (a, stepped d a)) ≡ S.edges a (stepped d a) + 1
  more p q j = rw j (ap (λ (n : ℕ). n + 1) (pair p q j))

  as_before : (p q : Corner) → (joins p q (a, stepped d a) ≡ true → ⊥) → S.edges p q + tally (joins p q (a, stepped d a)) ≡ S.edges p q
  as_before p q f = rw (is_false (joins p q (a, stepped d a)) f) (omega arith)

  -- the count that is read on the way back
  pub walked_more : (walked_by S a (stepped d a)).edges a (stepped d a) ≡ S.edges a (stepped d a) + 1
  walked_more = more a (stepped d a) (joins_here a (stepped d a))

  pub tread_table : set (set (table_by words S) (word_at u (edge_word d)) (S.edges a (stepped d a) + 1)) (word_at v (edge_word ((d + 2) % 4))) (S.edges a (stepped d a) + 1) ≡ table_by words (walked_by S a (stepped d a))
  tread_table =
      rw (← (back-mod d small))
      (edge_stores S (λ p q. S.edges p q + tally (joins p q (a, stepped d a))) a d (S.edges a (stepped d a) + 1) small more as_before words u v dis h k)

  pub untread_table : set (set (table_by words (walked_by S a (stepped d a))) (word_at u (edge_word d)) (S.edges a (stepped d a))) (word_at v (edge_word ((d + 2) % 4))) (S.edges a (stepped d a)) ≡ table_by words S
  untread_table =
      rw (← (back-mod d small))
      (edge_stores (walked_by S a (stepped d a)) S.edges a d (S.edges a (stepped d a)) small pair (λ p q f. sym (as_before p q f)) words u v dis h k)

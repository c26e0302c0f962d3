-- The words of the table of a state: one row for each node, and what is read there.
-- Assumes nothing.
use mathlib.Core.Bool.{cond, true, false≢true}
use mathlib.Core.List.{List, [], ◌∷◌}
use mathlib.Core.Path.{◌≡◌, refl, ap, ap₂, sym, ◌∙◌}
use Prim.Native.Nat.{ℕ, zero, suc, ◌<◌}
use native.Mathlib.Omega.{arith}
use borrow.Author.Tests.{eqb-true, eq-eqb}
use lib.Dec.{eqb}
use lib.ListN.{length, get_or}
use Rattle.grid.specs.declared.Corner.{Corner}
use Rattle.grid.specs.Grid.{stepped}
use Rattle.grid.specs.Tree.{parent_of, is_root}
use Rattle.layout.specs.Marks.{same_words}
use Rattle.layout.specs.Table.{width, word_at, parent_word, neighbour_word, link_word, visits_word, need_word, first_word, edge_word, child_ref_of}
use Rattle.tree.specs.Nodes.{ref_of}
use Rattle.tree_laws.specs.State.{State, Alike, neighbour_by, fields_by, record_by, rows_by, filled, table_by}
use Rattle.grid.proofs.StepLaws.{stepped_ne}
use Rattle.lists.proofs.GatherLaws.{and_left, and_right}
use Rattle.layout.proofs.WordLaws.{words_cong, child_of, neighbour_of, link_of_lem, edge_of}
use Rattle.table_laws.proofs.RowLaws.{corners, rows_cong, row_read}

-- rows that are the same word by word are one row
pub same-words : (l m : List ℕ) → same_words l m ≡ true → l ≡ m
same-words [] [] e = refl
same-words [] (y ∷ m) e = absurd (false≢true e)
same-words (x ∷ l) [] e = absurd (false≢true e)
same-words (x ∷ l) (y ∷ m) e = ap₂ (λ (z : ℕ) (r : List ℕ). z ∷ r) (eqb-true x y (and_left (eqb x y) (same_words l m) e)) (same-words l m (and_right (eqb x y) (same_words l m) e))

pub same_self : (l : List ℕ) → same_words l l ≡ true
same_self [] = refl
same_self (x ∷ l) = rw (eq-eqb x x refl, same_self l)

pub wide : (S : State) (a : Corner) → length (record_by S a) ≡ width
wide S a = refl

abbrev pub far : ℕ → ℕ → ℕ
far n r = elim n [ zero ↦ 0 | suc j ↦ r ]

pub far_pos : (n r : ℕ) → 0 < n → far n r ≡ r
far_pos zero r h = absurd (omega arith)
far_pos (suc n) r h = refl

-- states that are alike have one row for each node, and one table
pub alike_row : (S T : State) → Alike S T → (x : Corner) → record_by S x ≡ record_by T x
alike_row S T h x =
    words_cong (fields_by S x) (fields_by T x)
    (ap (λ (l : List Corner). cond (is_root x) 0 (ref_of l (parent_of x))) h.nodes)
    (λ k a b. ap (λ (l : List Corner). child_ref_of l x k) h.nodes)
    (λ k b. ap₂ far (h.step x (stepped k x) (away k x)) (ap (λ (l : List Corner). ref_of l (stepped k x)) h.nodes))
    (λ k b. h.step x (stepped k x) (away k x))
    (h.visits x)
    (h.need x)
    (h.first x)
    (λ k b. h.edges x (stepped k x))
  where
    away : (k : ℕ) (x : Corner) → x ≡ stepped k x → ⊥
    away k x e = stepped_ne k x (sym e)

pub alike_table : (words : ℕ) (S T : State) → Alike S T → table_by words S ≡ table_by words T
alike_table words S T h = ap (filled words) (rows_cong (record_by S) (record_by T) S.nodes (λ x m. alike_row S T h x) ∙ ap (rows_by (record_by T)) h.nodes)

-- reading: the words of the node a with ref 1 + u
module _ (words : ℕ) (S : State) (a : Corner) (u : ℕ) (e : ref_of S.nodes a ≡ suc u) where
  pub read_parent : get_or (table_by words S) (word_at u parent_word) 0 ≡ cond (is_root a) 0 (ref_of S.nodes (parent_of a))
  read_parent = row_read corners (record_by S) (wide S) words S.nodes a u parent_word e (omega arith)

  pub read_child : (w : ℕ) → 0 < w → w < 10 → get_or (table_by words S) (word_at u w) 0 ≡ child_ref_of S.nodes a w
  read_child w h k =
      row_read corners (record_by S) (wide S) words S.nodes a u w e (omega arith)
      ∙ child_of (fields_by S a) w h k

  pub read_neighbour : (d : ℕ) → d < 4 → get_or (table_by words S) (word_at u (neighbour_word d)) 0 ≡ neighbour_by S.nodes S.step a d
  read_neighbour d k =
      row_read corners (record_by S) (wide S) words S.nodes a u (neighbour_word d) e (omega arith)
      ∙ neighbour_of (fields_by S a) d k

  pub read_step : (d : ℕ) → d < 4 → get_or (table_by words S) (word_at u (link_word d)) 0 ≡ S.step a (stepped d a)
  read_step d k =
      row_read corners (record_by S) (wide S) words S.nodes a u (link_word d) e (omega arith)
      ∙ link_of_lem (fields_by S a) d k

  pub read_visits : get_or (table_by words S) (word_at u visits_word) 0 ≡ S.visits a
  read_visits = row_read corners (record_by S) (wide S) words S.nodes a u visits_word e (omega arith)

  pub read-need : get_or (table_by words S) (word_at u need_word) 0 ≡ S.need a
  read-need = row_read corners (record_by S) (wide S) words S.nodes a u need_word e (omega arith)

  pub read_first : get_or (table_by words S) (word_at u first_word) 0 ≡ S.first a
  read_first = row_read corners (record_by S) (wide S) words S.nodes a u first_word e (omega arith)

  pub read_edge : (d : ℕ) → d < 4 → get_or (table_by words S) (word_at u (edge_word d)) 0 ≡ S.edges a (stepped d a)
  read_edge d k =
      row_read corners (record_by S) (wide S) words S.nodes a u (edge_word d) e (omega arith)
      ∙ edge_of (fields_by S a) d k

-- A step and a take-back on lists, end to end.
-- Assumes nothing.
use mathlib.Core.Bool.{Bool, true, false}
use mathlib.Core.List.{List, [], ◌∷◌, ◌++◌}
use mathlib.Core.Path.{◌≡◌, refl, ap, ap₂, sym, ◌∙◌}
use Prim.Native.Nat.{ℕ, suc, ◌+◌, ◌-◌, ◌*◌, ◌<◌, ◌≤◌}
use native.Mathlib.Omega.{arith}
use borrow.Author.Tests.{eqb-true, eqb-false}
use lib.Dec.{eqb}
use lib.ListN.{length, get_or}
use Rattle.grid.specs.declared.Corner.{Corner}
use Rattle.grid.specs.Grid.{same, stepped, corners_from, end_from, back}
use Rattle.grid.specs.Tree.{path_of}
use Rattle.layout.specs.Table.{width, word_at, neighbour_word, visits_word, table_of}
use Rattle.lists.specs.Lists.{gather, Distinct}
use Rattle.tree.specs.Nodes.{nodes_of, ref_of}
use Rattle.tree_laws.specs.State.{linked, State, state_of, reached, visited_by, walked_by, Sound, table_by}
use Rattle.grid.proofs.StepLaws.{stepped-back, back_small, end_from_snoc}
use Rattle.lists.proofs.GatherLaws.{gather-more}
use Rattle.tree_laws.proofs.AddLaws.{ref_append}
use Rattle.tree_laws.proofs.PushLaws.{push_nodes, finish_node}
use Rattle.table_laws.specs.Model.{edge_in, visit_in, unvisit_in, tread_in, untread_in}
use Rattle.table_laws.proofs.StateLaws.{step_table, step_back}
use Rattle.table_laws.proofs.CellLaws.{far, far_pos, read_neighbour, read_visits, read_edge}
use Rattle.table_laws.proofs.LinkLaws.{walked_more, tread_table, untread_table}
use Rattle.table_laws.proofs.StoreLaws.{visit_table_first, visit_table_again, unvisit_table_last, unvisit_table_more}

module _ (words : ℕ) (S : State) (sound : Sound S) (e : Corner) (k r : ℕ) (h : ref_of S.nodes e ≡ suc r) where
  pub visit_made : visit_in (table_by words S) r k ≡ table_by words (visited_by S e k)
  visit_made = go (eqb (S.visits e) 0) refl
    where
      w : get_or (table_by words S) (word_at r visits_word) 0 ≡ S.visits e
      w = read_visits words S e r h

      go : (b : Bool) → eqb (S.visits e) 0 ≡ b → visit_in (table_by words S) r k ≡ table_by words (visited_by S e k)
      go true p = rw (ap (λ (n : ℕ). eqb n 0) w ∙ p, visit_in) (rw w (visit_table_first S sound e k words r h (eqb-true (S.visits e) 0 p)))
      go false p = rw (ap (λ (n : ℕ). eqb n 0) w ∙ p, visit_in) (rw w (visit_table_again S sound e k words r h (eqb-false (S.visits e) 0 p)))

  pub unvisit_made : unvisit_in (table_by words (visited_by S e k)) r ≡ table_by words S
  unvisit_made = go (eqb ((visited_by S e k).visits e) 1) refl
    where
      w : get_or (table_by words (visited_by S e k)) (word_at r visits_word) 0 ≡ (visited_by S e k).visits e
      w = read_visits words (visited_by S e k) e r h

      go : (b : Bool) → eqb ((visited_by S e k).visits e) 1 ≡ b → unvisit_in (table_by words (visited_by S e k)) r ≡ table_by words S
      go true p = rw (ap (λ (n : ℕ). eqb n 1) w ∙ p, unvisit_in) (rw w (unvisit_table_last S sound e k words r h (eqb-true ((visited_by S e k).visits e) 1 p)))
      go false p = rw (ap (λ (n : ℕ). eqb n 1) w ∙ p, unvisit_in) (rw w (unvisit_table_more S sound e k words r h (eqb-false ((visited_by S e k).visits e) 1 p)))

module _ (words : ℕ) (S : State) (dis : Distinct S.nodes) (paired : (x y : Corner) → S.edges x y ≡ S.edges y x) (a : Corner) (d : ℕ) (small : d < 4) (u v : ℕ)
    (h : ref_of S.nodes a ≡ suc u) (k : ref_of S.nodes (stepped d a) ≡ suc v) where
  pub tread_made : tread_in (table_by words S) u v d ≡ table_by words (walked_by S a (stepped d a))
  tread_made = ap (λ (n : ℕ). edge_in (table_by words S) u v d (n + 1)) (read_edge words S a u h d small) ∙ tread_table S dis paired a d small words u v h k

  pub untread_made : untread_in (table_by words (walked_by S a (stepped d a))) u v d ≡ table_by words S
  untread_made =
      let W : State = walked_by S a (stepped d a) in
      let m : (n : ℕ) → n + 1 - 1 ≡ n = λ n. omega arith in
      ap (λ (n : ℕ). edge_in (table_by words W) u v d (n - 1)) (read_edge words W a u h d small ∙ walked_more S dis paired a d small words u v h k)
      ∙ ap (edge_in (table_by words W) u v d) (m (S.edges a (stepped d a)))
      ∙ untread_table S dis paired a d small words u v h k

-- `take_back`: from the table of ds ++ (d ∷ []), at the node of its last corner, to that of ds, at the node of its last corner
module _ (words : ℕ) (c : Corner) (ds : List ℕ) (d : ℕ) (dir : d < 4) (room : width * length (nodes_of (corners_from c (ds ++ (d ∷ [])))) ≤ words) where
  abbrev S : State
  S = state_of (corners_from c ds)

  abbrev s : ℕ
  s = suc (length ds)

  abbrev a : Corner
  a = end_from c ds

  abbrev e : Corner
  e = stepped d a

  abbrev W : State
  W = walked_by (visited_by (reached S s a e) e s) a e

  abbrev all : List Corner
  all = gather same S.nodes (path_of e)

  -- the node from which the step came
  pub back_from : (r : ℕ) → ref_of (nodes_of (corners_from c (ds ++ (d ∷ [])))) (end_from c (ds ++ (d ∷ []))) ≡ suc r
      → ref_of (nodes_of (corners_from c ds)) (end_from c ds) ≡ get_or (table_of words c (ds ++ (d ∷ []))) (word_at r (neighbour_word (back d))) 0
  back_from r h = sym (
      ap (λ (t : List ℕ). get_or t (word_at r (neighbour_word (back d))) 0) (sym (step_table words c ds d))
      ∙ read_neighbour words W e r (sym (ap₂ ref_of (push_nodes c ds d) (end_from_snoc c ds d)) ∙ h) (back d) (back_small d)
      ∙ ap (λ (x : Corner). far (linked S.step s a e e x) (ref_of all x)) (stepped-back d a)
      ∙ far_pos (linked S.step s a e e a) (ref_of all a) (step_back words c ds d)
      ∙ kept
      )
    where
      kept : ref_of all a ≡ ref_of (nodes_of (corners_from c ds)) a
      kept = let g = gather-more same S.nodes (path_of e) in ap (λ (l : List Corner). ref_of l a) g.1 ∙ ref_append S.nodes g.0 a (finish_node c ds)

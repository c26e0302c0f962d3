-- A step and a take-back of a walk, in the shape that a proof of code cites.
-- Assumes nothing.
use mathlib.Core.Bool.{Bool, true, false}
use mathlib.Core.List.{List, [], ◌∷◌, ◌++◌, Memᴰ}
use mathlib.Core.Path.{◌≡◌, refl, ap, ap₂, sym, ◌∙◌, subst}
use Prim.Native.Nat.{ℕ, suc, ◌-◌, ◌*◌, ◌<◌, ◌≤◌}
use native.Mathlib.Omega.{arith}
use borrow.Author.Tests.{ltb-true, ltb-false}
use lib.Dec.{ltb}
use lib.ListN.{length, get_or}
use Rattle.grid.specs.declared.Corner.{Corner}
use Rattle.grid.specs.Grid.{same, stepped, corners_from, end_from}
use Rattle.grid.specs.Tree.{path_of}
use Rattle.layout.specs.Table.{width, word_at, edge_word, table_of}
use Rattle.lists.specs.Lists.{gather}
use Rattle.tree.specs.Nodes.{nodes_of, ref_of}
use Rattle.tree_laws.specs.State.{State, state_of, linked, reached, visited_by, unlinking, table_by, Made, Holds, UnlinkAt, DropAt}
use Rattle.grid.proofs.StepLaws.{end_from_snoc}
use Rattle.lists.proofs.GatherLaws.{gather-more}
use Rattle.tree_laws.proofs.AddLaws.{ref_pos, ref_append}
use Rattle.tree_laws.proofs.PopLaws.{unlink_start}
use Rattle.tree_laws.proofs.PushLaws.{push_nodes, sound_walk, finish_node}
use Rattle.table_laws.specs.Model.{visit_in, unvisit_in, tread_in, untread_in}
use Rattle.table_laws.proofs.Cites.{made_holds}
use Rattle.table_laws.proofs.ChildLaws.{length_table}
use Rattle.table_laws.proofs.RowLaws.{table_state}
use Rattle.table_laws.proofs.StateLaws.{step_table, sound_step, links_small}
use Rattle.table_laws.proofs.CellLaws.{read_edge}
use Rattle.table_laws.proofs.TakeLaws.{visit_made, unvisit_made, tread_made, untread_made}

-- the table of a walk, if it is large enough for the nodes, holds the walk's state
pub walk_holds : (words : ℕ) (c : Corner) (ds : List ℕ) (t : List ℕ) (n : ℕ) → t ≡ table_of words c ds → n ≡ length (nodes_of (corners_from c ds)) → width * n ≤ words → Holds t n (state_of (corners_from c ds)) × (length t ≡ words)
walk_holds words c ds t n e p h =
    let q : t ≡ table_by words (state_of (corners_from c ds)) = e ∙ table_state words c ds in
    let l : length t ≡ words = ap length q ∙ length_table words (state_of (corners_from c ds)) (omega (arith, p)) in
    (record { sound = sound_walk c ds; table = q ∙ ap (λ (w : ℕ). table_by w (state_of (corners_from c ds))) (sym l); count = p; room = omega arith }, l)

-- the node from which a step comes keeps its number
pub from-kept : (c : Corner) (ds : List ℕ) (d : ℕ) → ref_of (gather same (nodes_of (corners_from c ds)) (path_of (stepped d (end_from c ds)))) (end_from c ds) ≡ ref_of (nodes_of (corners_from c ds)) (end_from c ds)
from-kept c ds d =
    let g = gather-more same (nodes_of (corners_from c ds)) (path_of (stepped d (end_from c ds))) in
    ap (λ (l : List Corner). ref_of l (end_from c ds)) g.1 ∙ ref_append (nodes_of (corners_from c ds)) g.0 (end_from c ds) (finish_node c ds)

-- a step from the table of ds, at the node u: what the lookup answered, the visit and the edge
module _ (words : ℕ) (c : Corner) (ds : List ℕ) (d : ℕ) (dir : d < 4) (t₁ : List ℕ) (a₁ n₁ : ℕ)
    (made : Made words (reached (state_of (corners_from c ds)) (suc (length ds)) (end_from c ds) (stepped d (end_from c ds))) (stepped d (end_from c ds)) t₁ a₁ n₁) where
  -- no node: the nodes of the walk with the step exceed the table
  pub go_full : a₁ ≡ 0 → words < width * length (nodes_of (corners_from c (ds ++ (d ∷ []))))
  go_full z = go (ltb words (width * length (nodes_of (corners_from c (ds ++ (d ∷ [])))))) refl
    where
      go : (b : Bool) → ltb words (width * length (nodes_of (corners_from c (ds ++ (d ∷ []))))) ≡ b → words < width * length (nodes_of (corners_from c (ds ++ (d ∷ []))))
      go true p = ltb-true words (width * length (nodes_of (corners_from c (ds ++ (d ∷ []))))) p
      go false p =
          let l = ltb-false words (width * length (nodes_of (corners_from c (ds ++ (d ∷ []))))) p in
          let g = made.fits (rw (push_nodes c ds d) at l) in
          absurd (omega (arith, g.1, ref_pos (gather same (nodes_of (corners_from c ds)) (path_of (stepped d (end_from c ds)))) (stepped d (end_from c ds)) there))
        where
          there : Memᴰ (stepped d (end_from c ds)) (gather same (nodes_of (corners_from c ds)) (path_of (stepped d (end_from c ds))))
          there = subst (λ l. Memᴰ (stepped d (end_from c ds)) l) (push_nodes c ds d) (subst (λ x. Memᴰ x (nodes_of (corners_from c (ds ++ (d ∷ []))))) (end_from_snoc c ds d) (finish_node c (ds ++ (d ∷ []))))

  -- a node: the table after the visit, and the count that the edge then has
  visited : (a₁ ≡ 0 → ⊥) → (t₂ : List ℕ) → t₂ ≡ visit_in t₁ (a₁ - 1) (suc (length ds))
      → t₂ ≡ table_by words (visited_by (reached (state_of (corners_from c ds)) (suc (length ds)) (end_from c ds) (stepped d (end_from c ds))) (stepped d (end_from c ds)) (suc (length ds)))
  visited f t₂ e =
      let T : State = reached (state_of (corners_from c ds)) (suc (length ds)) (end_from c ds) (stepped d (end_from c ds)) in
      let k = made_holds words T (sound_step words c ds d) (stepped d (end_from c ds)) t₁ a₁ n₁ made f in
      e
      ∙ ap (λ (t : List ℕ). visit_in t (a₁ - 1) (suc (length ds))) (k.0.table ∙ ap (λ (w : ℕ). table_by w T) k.2)
      ∙ visit_made words T (sound_step words c ds d) (stepped d (end_from c ds)) (suc (length ds)) (a₁ - 1) k.1

  pub go_edge : (a₁ ≡ 0 → ⊥) → (u : ℕ) → ref_of (nodes_of (corners_from c ds)) (end_from c ds) ≡ suc u → (t₂ : List ℕ) → t₂ ≡ visit_in t₁ (a₁ - 1) (suc (length ds))
      → get_or t₂ (word_at u (edge_word d)) 0 ≡ (state_of (corners_from c ds)).edges (end_from c ds) (stepped d (end_from c ds))
  go_edge f u from t₂ e =
      ap (λ (t : List ℕ). get_or t (word_at u (edge_word d)) 0) (visited f t₂ e)
      ∙ read_edge words (visited_by (reached (state_of (corners_from c ds)) (suc (length ds)) (end_from c ds) (stepped d (end_from c ds))) (stepped d (end_from c ds)) (suc (length ds))) (end_from c ds) u (from-kept c ds d ∙ from) d dir

  -- after the visit and the edge the table is that of the walk with the step, and the walk stands on that node
  pub go_fits : (a₁ ≡ 0 → ⊥) → (u : ℕ) → ref_of (nodes_of (corners_from c ds)) (end_from c ds) ≡ suc u → (t₂ t₃ : List ℕ) → t₂ ≡ visit_in t₁ (a₁ - 1) (suc (length ds)) → t₃ ≡ tread_in t₂ u (a₁ - 1) d
      → (t₃ ≡ table_of words c (ds ++ (d ∷ []))) × (n₁ ≡ length (nodes_of (corners_from c (ds ++ (d ∷ []))))) × (width * n₁ ≤ words) × (ref_of (nodes_of (corners_from c (ds ++ (d ∷ [])))) (end_from c (ds ++ (d ∷ []))) ≡ suc (a₁ - 1))
  go_fits f u from t₂ t₃ e i =
      let T : State = reached (state_of (corners_from c ds)) (suc (length ds)) (end_from c ds) (stepped d (end_from c ds)) in
      let k = made_holds words T (sound_step words c ds d) (stepped d (end_from c ds)) t₁ a₁ n₁ made f in (
        i
            ∙ ap (λ (t : List ℕ). tread_in t u (a₁ - 1) d) (visited f t₂ e)
            ∙ tread_made words (visited_by T (stepped d (end_from c ds)) (suc (length ds))) (sound_step words c ds d).good.distinct (sound_step words c ds d).paired (end_from c ds) d dir u (a₁ - 1) (from-kept c ds d ∙ from) k.1
            ∙ step_table words c ds d,
        k.0.count ∙ ap length (sym (push_nodes c ds d)),
        omega (arith, k.0.room, k.2),
        ap₂ ref_of (push_nodes c ds d) (end_from_snoc c ds d) ∙ k.1,
      )

-- a take-back from the table of ds ++ (d ∷ []), at the node r
module _ (words : ℕ) (c : Corner) (ds : List ℕ) (d : ℕ) (dir : d < 4) (room : width * length (nodes_of (corners_from c (ds ++ (d ∷ [])))) ≤ words)
    (t : List ℕ) (whole : t ≡ table_of words c (ds ++ (d ∷ []))) (r : ℕ) (stands : ref_of (nodes_of (corners_from c (ds ++ (d ∷ [])))) (end_from c (ds ++ (d ∷ []))) ≡ suc r) where
  at_end : ref_of (gather same (nodes_of (corners_from c ds)) (path_of (stepped d (end_from c ds)))) (stepped d (end_from c ds)) ≡ suc r
  at_end = sym (ap₂ ref_of (push_nodes c ds d) (end_from_snoc c ds d)) ∙ stands

  -- the edge and the visit taken back, the first loop begins
  pub take_unlinks : (t₁ t₂ : List ℕ) (u : ℕ) → ref_of (nodes_of (corners_from c ds)) (end_from c ds) ≡ suc u → t₁ ≡ untread_in t u r d → t₂ ≡ unvisit_in t₁ r
      → UnlinkAt words (state_of (corners_from c ds)) (suc (length ds)) (stepped d (end_from c ds)) d t₂ u
  take_unlinks t₁ t₂ u h i e =
      let S : State = state_of (corners_from c ds) in
      let T : State = reached S (suc (length ds)) (end_from c ds) (stepped d (end_from c ds)) in
      let sound = sound_step words c ds d in
      record {
        at = end_from c ds;
        links = linked S.step (suc (length ds)) (end_from c ds) (stepped d (end_from c ds));
        table =
            e
            ∙ ap (λ (x : List ℕ). unvisit_in x r) (i ∙ ap (λ (x : List ℕ). untread_in x u r d) (whole ∙ sym (step_table words c ds d))
            ∙ untread_made words (visited_by T (stepped d (end_from c ds)) (suc (length ds))) sound.good.distinct sound.paired (end_from c ds) d dir u r (from-kept c ds d ∙ h) at_end)
            ∙ unvisit_made words T sound (stepped d (end_from c ds)) (suc (length ds)) r at_end;
        here = from-kept c ds d ∙ h;
        inv = unlink_start S.nodes S.step (sound_walk c ds).good (suc (length ds)) (links_small words c ds d) d (end_from c ds);
      }

  -- the first loop done, the second begins
  pub take_drops : (t₂ : List ℕ) → t₂ ≡ table_by words (unlinking (state_of (corners_from c ds)) (suc (length ds)) (stepped d (end_from c ds)) (state_of (corners_from c ds)).step) → (n : ℕ) → n ≡ length (nodes_of (corners_from c (ds ++ (d ∷ []))))
      → DropAt words (state_of (corners_from c ds)) (suc (length ds)) t₂ n r (stepped d (end_from c ds))
  take_drops t₂ e n p = record { table = e; count = p ∙ ap length (push_nodes c ds d); here = at_end; room = subst (λ m. width * m ≤ words) (sym p) room }

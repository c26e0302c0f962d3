-- The laws of a step and of a take-back, as the proofs of the code cite them.
-- Assumes nothing.
use mathlib.Core.List.{List, [], ◌∷◌, ◌++◌}
use mathlib.Core.Path.{◌≡◌, ap, ap₂, sym, ◌∙◌, subst}
use Prim.Native.Nat.{ℕ, suc, ◌+◌, ◌-◌, ◌*◌, ◌%◌, ◌<◌, ◌≤◌}
use native.Mathlib.Omega.{arith}
use lib.ListN.{length, length-append, get_or, set}
use lib.Seq.{get_or-set_other}
use Rattle.grid.specs.declared.Corner.{Corner}
use Rattle.grid.specs.Grid.{same, stepped, corners_from, end_from, joins, back}
use Rattle.grid.specs.Tree.{path_of}
use Rattle.layout.specs.Table.{width, word_at, HasRecord, neighbour_word, visits_word, edge_word, table_of}
use Rattle.lists.specs.Lists.{count, tally, gather}
use Rattle.walk_back.specs.Takes.{Unlinks, Drops}
use Rattle.table_laws.specs.Model.{visit_in, unvisit_in, tread_in, untread_in}
use Rattle.tree.specs.Nodes.{nodes_of, ref_of}
use Rattle.tree_laws.specs.State.{State, state_of, reached, unlinking, table_by, Made, Holds, Stood, UnlinkAt, DropAt}
use Rattle.grid.proofs.CornerLaws.{same_refl}
use Rattle.grid.proofs.JoinLaws.{joins_here}
use Rattle.grid.proofs.StepLaws.{back-mod, stepped-back, end_from_snoc}
use Rattle.table_laws.proofs.Cites.{stood, ref_below, made_holds}
use Rattle.table_laws.proofs.ChildLaws.{length_table}
use Rattle.table_laws.proofs.RowLaws.{table_state}
use Rattle.table_laws.proofs.StateLaws.{sound_step, links_small, needs_small, room-old}
use Rattle.table_laws.proofs.CellLaws.{read_visits, read_edge}
use Rattle.table_laws.proofs.TakeLaws.{back_from}
use Rattle.table_laws.proofs.WalkLaws.{walk_holds, from-kept, go_full, go_edge, go_fits, take_unlinks, take_drops}
use Rattle.tree_laws.proofs.AddLaws.{ref_pos}
use Rattle.tree_laws.proofs.PushLaws.{finish_node, push_nodes, push_visits, push_edges, visits_bound, edges_bound, sound_walk}
use Rattle.walk_step.specs.declared.Spot.{Spot}
use Rattle.walk_step.specs.Spots.{Walked}

length_snoc : (ds : List ℕ) (d : ℕ) → length (ds ++ (d ∷ [])) ≡ suc (length ds)
length_snoc ds d = omega (arith, length-append ds (d ∷ []))

-- ---- a step
module _ (t : List ℕ) (c : Corner) (ds : List ℕ) (w : Spot) (k : Walked t c ds w) where
  holds : Holds t w.nodes (state_of (corners_from c ds))
  holds = (walk_holds (length t) c ds t w.nodes k.whole k.count k.room).0

  at_here : ref_of (nodes_of (corners_from c ds)) w.at ≡ suc w.node
  at_here = ap (ref_of (nodes_of (corners_from c ds))) k.corner ∙ k.here

  pub step_stood : Stood t w.nodes w.node w.at
  step_stood = stood t w.nodes w.node w.at (state_of (corners_from c ds)) holds at_here

  module _ (d : ℕ) (dir : d < 4) (t₁ : List ℕ) (a₁ n₁ : ℕ)
      (f : (S : State) → Holds t w.nodes S → ref_of S.nodes w.at ≡ suc w.node → Made (length t) (reached S (w.steps + 1) w.at (stepped d w.at)) (stepped d w.at) t₁ a₁ n₁) where
    made : Made (length t) (reached (state_of (corners_from c ds)) (suc (length ds)) (end_from c ds) (stepped d (end_from c ds))) (stepped d (end_from c ds)) t₁ a₁ n₁
    made =
        let p : w.steps + 1 ≡ suc (length ds) = omega (arith, k.steps) in
        subst (λ (x : Corner). Made (length t) (reached (state_of (corners_from c ds)) (suc (length ds)) x (stepped d x)) (stepped d x) t₁ a₁ n₁) k.corner
        (subst (λ (s : ℕ). Made (length t) (reached (state_of (corners_from c ds)) s w.at (stepped d w.at)) (stepped d w.at) t₁ a₁ n₁) p (f (state_of (corners_from c ds)) holds at_here))

    pub step_full : a₁ ≡ 0 → length t < width * length (nodes_of (corners_from c (ds ++ (d ∷ []))))
    step_full z = go_full (length t) c ds d dir t₁ a₁ n₁ made z

    -- the node is found or made
    module _ (u : ℕ) (found : a₁ ≡ u + 1) where
      some : a₁ ≡ 0 → ⊥
      some z = omega arith

      number : a₁ - 1 ≡ u
      number = omega arith

      bound : (a n m l : ℕ) → a < n → m ≡ n → width * m ≤ l → suc a * width ≤ l
      bound a n m l p q r = omega arith

      -- what the visit needs
      pub step_visits : HasRecord t₁ u × (get_or t₁ (word_at u visits_word) 0 ≤ suc w.steps)
      step_visits =
          let T : State = reached (state_of (corners_from c ds)) (suc (length ds)) (end_from c ds) (stepped d (end_from c ds)) in
          let h = made_holds (length t) T (sound_step (length t) c ds d) (stepped d (end_from c ds)) t₁ a₁ n₁ made some in
          let r = h.1 ∙ ap suc number in
          let v : get_or t₁ (word_at u visits_word) 0 ≡ count (same (stepped d (end_from c ds))) (corners_from c ds) = ap (λ (x : List ℕ). get_or x (word_at u visits_word) 0) h.0.table ∙ read_visits (length t₁) T (stepped d (end_from c ds)) u r in
          let m : count (same (stepped d (end_from c ds))) (corners_from c ds) ≤ suc w.steps = omega (arith, k.steps, visits_bound c ds (stepped d (end_from c ds))) in
          let b = ref_below T.nodes (stepped d (end_from c ds)) u r in
          (bound u (length T.nodes) n₁ (length t₁) b h.0.count h.0.room, subst (λ (n : ℕ). n ≤ suc w.steps) (sym v) m)

      module _ (t₂ : List ℕ) (visited : t₂ ≡ visit_in t₁ u (w.steps + 1)) where
        n : w.steps + 1 ≡ suc (length ds)
        n = omega (arith, k.steps)

        visit : t₂ ≡ visit_in t₁ (a₁ - 1) (suc (length ds))
        visit = visited ∙ ap₂ (visit_in t₁) (sym number) n

        -- what the edge needs
        pub step_treads : length t₂ ≡ length t₁ → HasRecord t₂ w.node × HasRecord t₂ u × (get_or t₂ (word_at w.node (edge_word d)) 0 ≤ w.steps)
        step_treads l =
            let T : State = reached (state_of (corners_from c ds)) (suc (length ds)) (end_from c ds) (stepped d (end_from c ds)) in
            let h = made_holds (length t) T (sound_step (length t) c ds d) (stepped d (end_from c ds)) t₁ a₁ n₁ made some in
            let v = go_edge (length t) c ds d dir t₁ a₁ n₁ made some w.node k.here t₂ visit in
            let b = ref_below (nodes_of (corners_from c ds)) (end_from c ds) w.node k.here in (
              bound w.node (length (nodes_of (corners_from c ds))) w.nodes (length t₂) b k.count (subst (λ (x : ℕ). width * w.nodes ≤ x) (sym (l ∙ h.2)) k.room),
              subst (λ (x : ℕ). suc u * width ≤ x) (sym l) step_visits.0,
              omega (arith, v, k.steps, edges_bound c ds (end_from c ds) (stepped d (end_from c ds))),
            )

        pub step_to : (t₃ : List ℕ) → t₃ ≡ tread_in t₂ w.node u d → (v : Spot) → v.node ≡ u → v.at ≡ stepped d w.at → v.steps ≡ w.steps + 1 → v.nodes ≡ n₁
            → Walked t₃ c (ds ++ (d ∷ [])) v × (length t₃ ≡ length t)
        step_to t₃ i v p₁ p₂ p₃ p₄ =
            let tread = i ∙ ap (λ (x : ℕ). tread_in t₂ w.node x d) (sym number) in
            let h = go_fits (length t) c ds d dir t₁ a₁ n₁ made some w.node k.here t₂ t₃ visit tread in
            let l : length t₃ ≡ length t = (walk_holds (length t) c (ds ++ (d ∷ [])) t₃ n₁ h.0 h.1 h.2).1 in (
              record {
                whole = h.0 ∙ ap (λ (x : ℕ). table_of x c (ds ++ (d ∷ []))) (sym l);
                count = p₄ ∙ h.1;
                room = subst (λ (x : ℕ). width * v.nodes ≤ x) (sym l) (subst (λ (x : ℕ). width * x ≤ length t) (sym p₄) h.2);
                here = h.3 ∙ ap suc (number ∙ sym p₁);
                corner = p₂ ∙ ap (stepped d) k.corner ∙ sym (end_from_snoc c ds d);
                steps = p₃ ∙ n ∙ sym (length_snoc ds d);
              },
              l,
            )

-- ---- a take-back
module _ (t : List ℕ) (c : Corner) (ds : List ℕ) (d : ℕ) (w : Spot) (k : Walked t c (ds ++ (d ∷ [])) w) (dir : d < 4) where
  room : width * length (nodes_of (corners_from c (ds ++ (d ∷ [])))) ≤ length t
  room = subst (λ (n : ℕ). width * n ≤ length t) k.count k.room

  roomy : width * length (gather same (nodes_of (corners_from c ds)) (path_of (stepped d (end_from c ds)))) ≤ length t
  roomy = subst (λ (l : List Corner). width * length l ≤ length t) (push_nodes c ds d) room

  pub back-steps : w.steps ≡ suc (length ds)
  back-steps = k.steps ∙ length_snoc ds d

  pub back_bound : HasRecord t w.node
  back_bound = bound w.node (length (nodes_of (corners_from c (ds ++ (d ∷ []))))) (length t) (ref_below (nodes_of (corners_from c (ds ++ (d ∷ [])))) (end_from c (ds ++ (d ∷ []))) w.node k.here) room
    where
      bound : (a n l : ℕ) → a < n → width * n ≤ l → suc a * width ≤ l
      bound a n l p r = omega arith

  -- the way back is linked
  pub back-linked : (v : ℕ) → v ≡ get_or t (word_at w.node (neighbour_word ((d + 2) % 4))) 0 → (0 < v) × (ref_of (nodes_of (corners_from c ds)) (end_from c ds) ≡ suc (v - 1))
  back-linked v e =
      let q : ref_of (nodes_of (corners_from c ds)) (end_from c ds) ≡ v = back_from (length t) c ds d dir room w.node k.here ∙ ap (λ (x : List ℕ). get_or x (word_at w.node (neighbour_word (back d))) 0) (sym k.whole) ∙ ap (λ (b : ℕ). get_or t (word_at w.node (neighbour_word b)) 0) (back-mod d dir) ∙ sym e in
      up (ref_of (nodes_of (corners_from c ds)) (end_from c ds)) v q (ref_pos (nodes_of (corners_from c ds)) (end_from c ds) (finish_node c ds))
    where
      up : (r v : ℕ) → r ≡ v → 0 < r → (0 < v) × (r ≡ suc (v - 1))
      up r v p q = (omega arith, omega arith)

  -- the edge was walked
  pub back_treads : (u : ℕ) → ref_of (nodes_of (corners_from c ds)) (end_from c ds) ≡ suc u → HasRecord t u × (0 < get_or t (word_at u (edge_word d)) 0)
  back_treads u r =
      let ps = corners_from c (ds ++ (d ∷ [])) in
      let a = end_from c ds in
      let e = stepped d a in
      let here : ref_of (nodes_of ps) a ≡ suc u = ap (λ (l : List Corner). ref_of l a) (push_nodes c ds d) ∙ from-kept c ds d ∙ r in
      let q : get_or t (word_at u (edge_word d)) 0 ≡ (state_of ps).edges a e = ap (λ (x : List ℕ). get_or x (word_at u (edge_word d)) 0) (k.whole ∙ table_state (length t) c (ds ++ (d ∷ []))) ∙ read_edge (length t) (state_of ps) a u here d dir in
      let y : tally (joins a e (a, e)) ≡ 1 = ap tally (joins_here a e) in
      (bound u (length (nodes_of ps)) (length t) (ref_below (nodes_of ps) a u here) room, some (get_or t (word_at u (edge_word d)) 0) ((state_of (corners_from c ds)).edges a e) (tally (joins a e (a, e))) (q ∙ push_edges c ds d a e) y)
    where
      bound : (a n l : ℕ) → a < n → width * n ≤ l → suc a * width ≤ l
      bound a n l p r = omega arith

      some : (g a b : ℕ) → g ≡ a + b → b ≡ 1 → 0 < g
      some g a b p q = omega arith

  -- the corner was visited
  pub back_visits : (t₁ : List ℕ) (u : ℕ) → t₁ ≡ untread_in t u w.node d → 0 < get_or t₁ (word_at w.node visits_word) 0
  back_visits t₁ u o =
      let r = w.node in
      let b = (d + 2) % 4 in
      let x = get_or t (word_at u (edge_word d)) 0 - 1 in
      let z : get_or t₁ (word_at r visits_word) 0 ≡ get_or t (word_at r visits_word) 0
      = ap (λ (l : List ℕ). get_or l (word_at r visits_word) 0) o
      ∙ get_or-set_other (set t (word_at u (edge_word d)) x) (word_at r (edge_word b)) (word_at r visits_word) x 0 (omega arith)
      ∙ get_or-set_other t (word_at u (edge_word d)) (word_at r visits_word) x 0 (omega arith)
      in
      let ps = corners_from c (ds ++ (d ∷ [])) in
      let e = end_from c (ds ++ (d ∷ [])) in
      let q : get_or t (word_at w.node visits_word) 0 ≡ count (same e) ps = ap (λ (x : List ℕ). get_or x (word_at w.node visits_word) 0) (k.whole ∙ table_state (length t) c (ds ++ (d ∷ []))) ∙ read_visits (length t) (state_of ps) e w.node k.here in
      let y : tally (same e (stepped d (end_from c ds))) ≡ 1 = ap (λ (x : Corner). tally (same e x)) (sym (end_from_snoc c ds d)) ∙ ap tally (same_refl e) in
      some (get_or t₁ (word_at w.node visits_word) 0) (count (same e) (corners_from c ds)) (tally (same e (stepped d (end_from c ds)))) (z ∙ q ∙ push_visits c ds d e) y
    where
      some : (g a b : ℕ) → g ≡ a + b → b ≡ 1 → 0 < g
      some g a b p q = omega arith

  pub back_unlinks : (t₀ t₁ : List ℕ) (u : ℕ) → ref_of (nodes_of (corners_from c ds)) (end_from c ds) ≡ suc u → t₀ ≡ untread_in t u w.node d → t₁ ≡ unvisit_in t₀ w.node
      → Unlinks t₁ u d w.steps (state_of (corners_from c ds)) (stepped d (end_from c ds)) × (length t₁ ≡ length t)
  back_unlinks t₀ t₁ u h i e =
      let S : State = state_of (corners_from c ds) in
      let z = stepped d (end_from c ds) in
      let p : 0 < suc (length ds) = omega arith in
      let x = take_unlinks (length t) c ds d dir room t k.whole w.node k.here t₀ t₁ u h i e in
      let l : length t₁ ≡ length t = ap length x.table ∙ length_table (length t) (unlinking S (suc (length ds)) z x.links) roomy in
      let y : UnlinkAt (length t) S (suc (length ds)) z d t₁ u = record { at = x.at; links = x.links; table = x.table; here = x.here; inv = x.inv } in
      let v : Unlinks t₁ u d (suc (length ds)) S z = record {
        sound = sound_walk c ds;
        pos = p;
        dir = dir;
        small = links_small (length t) c ds d;
        held = subst (λ (n : ℕ). UnlinkAt n S (suc (length ds)) z d t₁ u) (sym l) y;
        room = subst (λ (n : ℕ). width * length (gather same (nodes_of (corners_from c ds)) (path_of (stepped d (end_from c ds)))) ≤ n) (sym l) roomy;
      } in
      (subst (λ (s : ℕ). Unlinks t₁ u d s S z) (sym back-steps) v, l)

  pub back_drops : (t₁ t₂ : List ℕ) → length t₁ ≡ length t → t₂ ≡ table_by (length t₁) (unlinking (state_of (corners_from c ds)) w.steps (stepped d (end_from c ds)) (state_of (corners_from c ds)).step) → Drops t₂ w.nodes w.node w.at w.steps (state_of (corners_from c ds)) × (length t₂ ≡ length t)
  back_drops t₁ t₂ l₁ e =
      let S : State = state_of (corners_from c ds) in
      let z = stepped d (end_from c ds) in
      let p : 0 < suc (length ds) = omega arith in
      let e' : t₂ ≡ table_by (length t) (unlinking S (suc (length ds)) z S.step) = e ∙ ap₂ (λ (n s : ℕ). table_by n (unlinking S s z S.step)) l₁ back-steps in
      let x = take_drops (length t) c ds d dir room t k.whole w.node k.here t₂ e' w.nodes k.count in
      let l : length t₂ ≡ length t = ap length e' ∙ length_table (length t) (unlinking S (suc (length ds)) z S.step) roomy in
      let y : DropAt (length t) S (suc (length ds)) t₂ w.nodes w.node z = record { table = x.table; count = x.count; here = x.here; room = x.room } in
      let v : Drops t₂ w.nodes w.node z (suc (length ds)) S = record {
        sound = sound_walk c ds;
        pos = p;
        small = needs_small (length t) c ds d;
        held = subst (λ (n : ℕ). DropAt n S (suc (length ds)) t₂ w.nodes w.node z) (sym l) y;
      } in
      (subst (λ (h : Corner). Drops t₂ w.nodes w.node h w.steps S) (sym (k.corner ∙ end_from_snoc c ds d)) (subst (λ (s : ℕ). Drops t₂ w.nodes w.node z s S) (sym back-steps) v), l)

  pub back_to : (t₂ t₃ : List ℕ) (left : ℕ) → length t₂ ≡ length t → (t₃ ≡ table_by (length t₂) (state_of (corners_from c ds))) × (left ≡ length (nodes_of (corners_from c ds)))
      → (v : Spot) (b u : ℕ) → b ≡ (d + 2) % 4 → ref_of (nodes_of (corners_from c ds)) (end_from c ds) ≡ suc u → v.node ≡ u → v.at ≡ stepped b w.at → v.steps ≡ w.steps - 1 → v.nodes ≡ left → Walked t₃ c ds v
  back_to t₂ t₃ left l₂ e v b u q r p₁ p₂ p₃ p₄ =
      let S : State = state_of (corners_from c ds) in
      let fits : width * length (nodes_of (corners_from c ds)) ≤ length t = less (length (nodes_of (corners_from c ds))) (length (gather same (nodes_of (corners_from c ds)) (path_of (stepped d (end_from c ds))))) (length t) (room-old (nodes_of (corners_from c ds)) (path_of (stepped d (end_from c ds)))) roomy in
      let x : t₃ ≡ table_by (length t) S = e.0 ∙ ap (λ (n : ℕ). table_by n S) l₂ in
      let l : length t₃ ≡ length t = ap length x ∙ length_table (length t) S fits in
      let n : w.steps - 1 ≡ length ds = ap (λ (s : ℕ). s - 1) back-steps ∙ last (length ds) in
      record {
        whole = x ∙ sym (table_state (length t) c ds) ∙ ap (λ (y : ℕ). table_of y c ds) (sym l);
        count = p₄ ∙ e.1;
        room = subst (λ (y : ℕ). width * v.nodes ≤ y) (sym l) (subst (λ (y : ℕ). width * y ≤ length t) (sym (p₄ ∙ e.1)) fits);
        here = r ∙ ap suc (sym p₁);
        corner = p₂ ∙ ap₂ stepped (q ∙ sym (back-mod d dir)) (k.corner ∙ end_from_snoc c ds d) ∙ stepped-back d (end_from c ds);
        steps = p₃ ∙ n;
      }
    where
      less : (a b l : ℕ) → a ≤ b → width * b ≤ l → width * a ≤ l
      less a b l p q = omega arith

      last : (n : ℕ) → suc n - 1 ≡ n
      last n = omega arith

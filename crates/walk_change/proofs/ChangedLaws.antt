-- The laws of the way up from a walk's last step, as the proof of the code cites them.
-- Assumes nothing.
use mathlib.Core.Bool.{true, false, not, ◌&&◌, true≢false}
use mathlib.Core.List.{List, [], ◌∷◌, ◌++◌}
use mathlib.Core.Path.{◌≡◌, refl, ap, ap₂, sym, ◌∙◌, subst}
use Prim.Native.Nat.{ℕ, zero, suc, ◌+◌, ◌-◌, ◌*◌, ◌%◌, ◌<◌, ◌≤◌}
use native.Mathlib.Omega.{arith}
use borrow.Author.Tests.{eqb-true, eqb-false, eq-eqb, ne_eqb}
use lib.Dec.{eqb}
use lib.ListN.{length, length-append, get_or}
use Rattle.grid.specs.declared.Corner.{Corner}
use Rattle.grid.specs.Grid.{same, stepped, corners_from, end_from}
use Rattle.grid.specs.Tree.{path_of, size_of}
use Rattle.layout.specs.Marks.{changes_of}
use Rattle.layout.specs.Table.{width, word_at, HasRecord, parent_word, neighbour_word, link_word, need_word}
use Rattle.lists.specs.Lists.{gather, tally}
use Rattle.tree.specs.Nodes.{nodes_of, ref_of}
use Rattle.tree_laws.specs.State.{State, state_of, table_by, links_up}
use Rattle.grid.proofs.StepLaws.{end_from_snoc}
use Rattle.lists.proofs.BoolLaws.{not-true}
use Rattle.lists.proofs.GatherLaws.{and_left, and_right}
use Rattle.tree_laws.proofs.PushLaws.{push_nodes, sound_walk, finish_node}
use Rattle.table_laws.proofs.ChangeLaws.{after}
use Rattle.table_laws.proofs.Cites.{ref_below}
use Rattle.table_laws.proofs.DiffLaws.{walk_changes, changes_few}
use Rattle.table_laws.proofs.ReadLaws.{Rising, rising_start, rising_next, rising_end, up_ref, near_pos, stops-root, stops_link}
use Rattle.table_laws.proofs.StateLaws.{step_table, links_small, needs_small, room-old}
use Rattle.table_laws.proofs.WalkLaws.{from-kept}
use Rattle.walk_step.proofs.SpotLaws.{back-linked}
use Rattle.walk_step.specs.declared.Spot.{Spot}
use Rattle.walk_step.specs.Spots.{Walked}
use Rattle.walk_change.specs.Above.{ParentHeld, LinkedAbove}

module _ (c : Corner) (ds : List ℕ) (d : ℕ) (small : d < 4) where
  abbrev S : State
  S = state_of (corners_from c ds)

  abbrev s : ℕ
  s = suc (length ds)

  pos : 0 < s
  pos = omega arith

  -- on the way up from the last step, at the nodes u and v
  pub Up : ℕ → ℕ → ℕ → Type 0
  Up u v sum = Rising S (sound_walk c ds) s d pos small (links_small 0 c ds d) (needs_small 0 c ds d) (end_from c ds) (finish_node c ds) (changes_of c ds (ds ++ (d ∷ []))) u v sum

  module _ (t : List ℕ) (w : Spot) (k : Walked t c (ds ++ (d ∷ [])) w) where
    is : t ≡ table_by (length t) (after S (sound_walk c ds) s d pos small (end_from c ds))
    is = k.whole ∙ sym (step_table (length t) c ds d)

    abbrev all : List Corner
    all = gather same (nodes_of (corners_from c ds)) (path_of (stepped d (end_from c ds)))

    room : width * length all ≤ length t
    room = subst (λ (n : ℕ). width * n ≤ length t) (k.count ∙ ap length (push_nodes c ds d)) k.room

    pub up_start : (v : ℕ) → v ≡ get_or t (word_at w.node (neighbour_word ((d + 2) % 4))) 0 → (0 < v) × Up (v - 1) w.node 2
    unfolding Up
    up_start v e =
        let b = back-linked t c ds d w k small v e in
        let a = end_from c ds in (
          b.0,
          subst (λ (n : ℕ). Rising S (sound_walk c ds) s d pos small (links_small 0 c ds d) (needs_small 0 c ds d) a (finish_node c ds) n (v - 1) w.node 2)
              (sym (walk_changes c ds d small (suc (size_of a)) (omega arith)))
              (rising_start S (sound_walk c ds) s d pos small (links_small 0 c ds d) (needs_small 0 c ds d) a (finish_node c ds) (v - 1) w.node (from-kept c ds d ∙ b.1) (sym (ap₂ ref_of (push_nodes c ds d) (end_from_snoc c ds d)) ∙ k.here)),
        )

    module _ (u v sum : ℕ) (r : Up u v sum) where
      inside : (x : Corner) (n : ℕ) → ref_of all x ≡ suc n → HasRecord t n
      inside x n h = let b = ref_below all x n h in bound n (length all) (length t) b room
        where
          bound : (a n l : ℕ) → a < n → width * n ≤ l → suc a * width ≤ l
          bound a n l p q = omega arith

      -- both nodes, and the parent of u, lie in the table
      pub up_held : HasRecord t u × HasRecord t v × ParentHeld t u
      unfolding Up
      up_held =
          let h = inside r.at u r.here in (
            h,
            inside (stepped d r.at) v r.there,
            λ z. let f = up_ref S (sound_walk c ds) s d pos small (links_small 0 c ds d) (needs_small 0 c ds d) (end_from c ds) (finish_node c ds) (length t) t is (changes_of c ds (ds ++ (d ∷ []))) u v sum r z in below u (get_or t (word_at u parent_word) 0) (length t) h f.1 z,
          )
        where
          below : (a n l : ℕ) → suc a * width ≤ l → n ≤ a → 0 < n → suc (n - 1) * width ≤ l
          below a n l p q z = omega arith

      -- what is counted so far, and in the end, is no more than there are nodes
      pub up_few : (sum ≤ changes_of c ds (ds ++ (d ∷ []))) × (changes_of c ds (ds ++ (d ∷ [])) ≤ length t)
      unfolding Up
      up_few = (omega (arith, r.adds), whole)
        where
          whole : changes_of c ds (ds ++ (d ∷ [])) ≤ length t
          whole = omega (arith, r.adds, changes_few c ds (ds ++ (d ∷ [])), ap length (push_nodes c ds d), room-old (nodes_of (corners_from c ds)) (path_of (stepped d (end_from c ds))), room)

      -- one level up
      module _ (h : (not (eqb (get_or t (word_at u parent_word) 0) 0) && eqb (get_or t (word_at (get_or t (word_at u parent_word) 0 - 1) (link_word d)) 0) w.steps) ≡ true) where
        parent : 0 < get_or t (word_at u parent_word) 0
        parent = some (get_or t (word_at u parent_word) 0) (not-true (eqb (get_or t (word_at u parent_word) 0) 0) (and_left (not (eqb (get_or t (word_at u parent_word) 0) 0)) (eqb (get_or t (word_at (get_or t (word_at u parent_word) 0 - 1) (link_word d)) 0) w.steps) h))
          where
            some : (x : ℕ) → eqb x 0 ≡ false → 0 < x
            some x q = omega (arith, eqb-false x 0 q)

        is_parent : get_or t (word_at u parent_word) 0 ≡ suc (get_or t (word_at u parent_word) 0 - 1)
        is_parent = omega (arith, parent)

        linked : get_or t (word_at (get_or t (word_at u parent_word) 0 - 1) (link_word d)) 0 ≡ s
        linked =
            eqb-true (get_or t (word_at (get_or t (word_at u parent_word) 0 - 1) (link_word d)) 0) w.steps (and_right (not (eqb (get_or t (word_at u parent_word) 0) 0)) (eqb (get_or t (word_at (get_or t (word_at u parent_word) 0 - 1) (link_word d)) 0) w.steps) h)
            ∙ k.steps
            ∙ omega (arith, length-append ds (d ∷ []))

        beside : 0 < get_or t (word_at (get_or t (word_at u parent_word) 0 - 1) (neighbour_word d)) 0
        unfolding Up
        beside = near_pos S (sound_walk c ds) s d pos small (links_small 0 c ds d) (needs_small 0 c ds d) (end_from c ds) (finish_node c ds) (length t) t is (changes_of c ds (ds ++ (d ∷ []))) u v sum r (get_or t (word_at u parent_word) 0 - 1) is_parent linked

        pub up-linked : LinkedAbove t u d
        up-linked = (parent, up_held.2 parent, beside)

        pub up_next : (u' v' n : ℕ) → u' ≡ get_or t (word_at u parent_word) 0 - 1 → v' ≡ get_or t (word_at (get_or t (word_at u parent_word) 0 - 1) (neighbour_word d)) 0 - 1 → n ≡ tally (not (eqb u' v)) + tally (not (eqb v' u)) → (u' < u) × Up u' v' (sum + n)
        unfolding Up
        up_next u' v' n e f g =
            let p : get_or t (word_at u parent_word) 0 ≡ suc u' = omega (arith, parent) in
            let q : get_or t (word_at u' (link_word d)) 0 ≡ s = ap (λ (m : ℕ). get_or t (word_at m (link_word d)) 0) e ∙ linked in
            let i : get_or t (word_at u' (neighbour_word d)) 0 ≡ suc v' = ap (λ (m : ℕ). get_or t (word_at m (neighbour_word d)) 0) e ∙ omega (arith, beside) in
            let k = rising_next S (sound_walk c ds) s d pos small (links_small 0 c ds d) (needs_small 0 c ds d) (end_from c ds) (finish_node c ds) (length t) t is (changes_of c ds (ds ++ (d ∷ []))) u v sum r u' v' p q i in
            (k.0, subst (λ (m : ℕ). Rising S (sound_walk c ds) s d pos small (links_small 0 c ds d) (needs_small 0 c ds d) (end_from c ds) (finish_node c ds) (changes_of c ds (ds ++ (d ∷ []))) u' v' (sum + m)) (sym g) k.1)

      -- at the top
      pub up_end : (not (eqb (get_or t (word_at u parent_word) 0) 0) && eqb (get_or t (word_at (get_or t (word_at u parent_word) 0 - 1) (link_word d)) 0) w.steps) ≡ false
          → sum + tally (eqb (get_or t (word_at v need_word) 0) w.steps && not (eqb (get_or t (word_at v parent_word) 0) (u + 1))) ≡ changes_of c ds (ds ++ (d ∷ []))
      unfolding Up
      up_end h = ap (λ (m : ℕ). sum + tally (eqb (get_or t (word_at v need_word) 0) m && not (eqb (get_or t (word_at v parent_word) 0) (u + 1)))) steps ∙ sym (rising_end S (sound_walk c ds) s d pos small (links_small 0 c ds d) (needs_small 0 c ds d) (end_from c ds) (finish_node c ds) (length t) t is (changes_of c ds (ds ++ (d ∷ []))) u v sum r (stops (get_or t (word_at u parent_word) 0) refl))
        where
          steps : w.steps ≡ s
          steps = k.steps ∙ omega (arith, length-append ds (d ∷ []))

          stops : (x : ℕ) → get_or t (word_at u parent_word) 0 ≡ x → links_up S.step r.at (stepped d r.at) ≡ false
          stops zero e = stops-root S (sound_walk c ds) s d pos small (links_small 0 c ds d) (needs_small 0 c ds d) (end_from c ds) (finish_node c ds) (length t) t is (changes_of c ds (ds ++ (d ∷ []))) u v sum r e
          stops (suc x) e =
              stops_link S (sound_walk c ds) s d pos small (links_small 0 c ds d) (needs_small 0 c ds d) (end_from c ds) (finish_node c ds) (length t) t is (changes_of c ds (ds ++ (d ∷ []))) u v sum r x e
              (λ q. true≢false (sym (both q) ∙ h))
            where
              one : suc x - 1 ≡ x
              one = omega arith

              both : get_or t (word_at x (link_word d)) 0 ≡ s → (not (eqb (get_or t (word_at u parent_word) 0) 0) && eqb (get_or t (word_at (get_or t (word_at u parent_word) 0 - 1) (link_word d)) 0) w.steps) ≡ true
              both q = rw (e, one) (rw (ne_eqb (suc x) 0 (λ z. omega arith), eq-eqb (get_or t (word_at x (link_word d)) 0) w.steps (q ∙ sym steps)))

-- The laws of the take-back in the shape that a proof of code cites.
-- Assumes nothing.
use mathlib.Core.Bool.{Bool, true, false, cond}
use mathlib.Core.List.{List, [], ◌∷◌, ◌++◌, Memᴰ}
use mathlib.Core.Logic.{⊎_elim}
use mathlib.Core.Path.{◌≡◌, refl, ap, sym, ◌∙◌}
use Prim.Native.Nat.{ℕ, suc, ◌-◌, ◌*◌, ◌<◌}
use native.Mathlib.Omega.{arith}
use lib.ListN.{length, length-append, get_or, set, replicate}
use lib.Seq.{sets}
use Rattle.grid.specs.declared.Corner.{Corner}
use Rattle.grid.specs.Grid.{same, stepped}
use Rattle.grid.specs.Tree.{root, parent_of, is_root, path_of, child_word}
use Rattle.lists.specs.Lists.{gather}
use Rattle.tree.specs.Nodes.{ref_of}
use Rattle.layout.specs.Table.{width, word_at, parent_word, neighbour_word, link_word, need_word}
use Rattle.tree_laws.specs.State.{link_put, State, needed, unlinking, Alike, Sound, table_by, UnlinkAt, DropAt}
use Rattle.grid.proofs.CornerLaws.{same_refl, same_sound}
use Rattle.grid.proofs.StepLaws.{stepped_ne}
use Rattle.lists.proofs.FindLaws.{find_le}
use Rattle.lists.proofs.GatherLaws.{distinct_gather, mem-gather-left, mem-gather-right}
use Rattle.tree.proofs.NodeLaws.{mem_path}
use Rattle.tree_laws.proofs.AddLaws.{ref_pos, ref_append, ref_snoc}
use Rattle.tree_laws.proofs.LevelLaws.{gather_closed, order_gather}
use Rattle.tree_laws.proofs.PopLaws.{unlink_stop, unlink_last, unlink_next, drop-root, drop-next, drop-fresh}
use Rattle.table_laws.specs.Model.{unset_in}
use Rattle.table_laws.proofs.ChildLaws.{mem_of_ref}
use Rattle.table_laws.proofs.StateLaws.{unlinked_all, dropping_stop, dropping_table}
use Rattle.table_laws.proofs.CellLaws.{far_pos, alike_table, read_parent, read_neighbour, read_step, read-need}
use Rattle.table_laws.proofs.LinkLaws.{unlink_table}

module _ (words : ℕ) (S : State) (sound : Sound S) (s : ℕ) (pos : 0 < s) where
  module _ (z : Corner) (d : ℕ) (dir : d < 4) (small : (x y : Corner) → S.step x y < s) where
    module _ (t : List ℕ) (u : ℕ) (k : UnlinkAt words S s z d t u) where
      unlink_reads : get_or t (word_at u (link_word d)) 0 ≡ k.links k.at (stepped d k.at)
      unlink_reads = ap (λ (x : List ℕ). get_or x (word_at u (link_word d)) 0) k.table ∙ read_step words (unlinking S s z k.links) k.at u k.here d dir

      -- the test fails: all is done
      pub unlink_done : (get_or t (word_at u (link_word d)) 0 ≡ s → ⊥) → t ≡ table_by words (unlinking S s z S.step)
      unlink_done f =
          k.table
          ∙ alike_table words (unlinking S s z k.links) (unlinking S s z S.step)
          (unlinked_all S sound s z k.links (unlink_stop S.nodes S.step sound.good s small z d k.links k.at k.inv (λ e. f (unlink_reads ∙ e))))

      -- linked: the neighbour is a node, and its ref stands in the record
      there : 0 < get_or t (word_at u (link_word d)) 0 → Memᴰ (stepped d k.at) (gather same S.nodes (path_of z))
      there p =
          ⊎_elim
          (λ h. mem-gather-left same same_sound same_refl S.nodes (path_of z) (sound.good.ends k.at (stepped d k.at) (omega (arith, unlink_reads, h k.at (stepped d k.at) (λ e. stepped_ne d k.at (sym e))))).1)
          (λ h. mem-gather-right same same_sound same_refl S.nodes (path_of z) h.1)
          k.inv

      pub unlink_to : 0 < get_or t (word_at u (link_word d)) 0 → (0 < get_or t (word_at u (neighbour_word d)) 0) × (ref_of (gather same S.nodes (path_of z)) (stepped d k.at) ≡ suc (get_or t (word_at u (neighbour_word d)) 0 - 1))
      unlink_to p =
          let w : get_or t (word_at u (neighbour_word d)) 0 ≡ ref_of (gather same S.nodes (path_of z)) (stepped d k.at) = ap (λ (x : List ℕ). get_or x (word_at u (neighbour_word d)) 0) k.table ∙ read_neighbour words (unlinking S s z k.links) k.at u k.here d dir ∙ far_pos (k.links k.at (stepped d k.at)) (ref_of (gather same S.nodes (path_of z)) (stepped d k.at)) (omega (arith, unlink_reads)) in
          let g = ref_pos (gather same S.nodes (path_of z)) (stepped d k.at) (there p) in
          (omega (arith, w, g), omega (arith, w, g))

      -- the link cleared
      unlink_clears : get_or t (word_at u (link_word d)) 0 ≡ s → unset_in t u (get_or t (word_at u (neighbour_word d)) 0 - 1) d ≡ table_by words (unlinking S s z (link_put k.links 0 k.at (stepped d k.at)))
      unlink_clears e =
          ap (λ (x : List ℕ). unset_in x u (get_or t (word_at u (neighbour_word d)) 0 - 1) d) k.table
          ∙ unlink_table (unlinking S s z k.links) k.at d words u (get_or t (word_at u (neighbour_word d)) 0 - 1) dir (distinct_gather same same_sound same_refl S.nodes (path_of z) sound.good.distinct) k.here (unlink_to (omega (arith, e, pos))).1

      -- no parent: all is done; a parent: the next round, at a node of a lower number
      module _ (t' : List ℕ) (e : get_or t (word_at u (link_word d)) 0 ≡ s) (q : t' ≡ unset_in t u (get_or t (word_at u (neighbour_word d)) 0 - 1) d) where
        up_reads : get_or t' (word_at u parent_word) 0 ≡ cond (is_root k.at) 0 (ref_of (gather same S.nodes (path_of z)) (parent_of k.at))
        up_reads = ap (λ (x : List ℕ). get_or x (word_at u parent_word) 0) (q ∙ unlink_clears e) ∙ read_parent words (unlinking S s z (link_put k.links 0 k.at (stepped d k.at))) k.at u k.here

        has_parent : is_root k.at ≡ false → Memᴰ (parent_of k.at) (gather same S.nodes (path_of z))
        has_parent r = gather_closed S.nodes sound.good.closed z k.at (mem_of_ref (gather same S.nodes (path_of z)) k.at u k.here) r

        pub unlink_top : get_or t' (word_at u parent_word) 0 ≡ 0 → t' ≡ table_by words (unlinking S s z S.step)
        unlink_top n = go (is_root k.at) refl
          where
            go : (b : Bool) → is_root k.at ≡ b → t' ≡ table_by words (unlinking S s z S.step)
            go true r =
                q ∙ unlink_clears e
                ∙ alike_table words (unlinking S s z (link_put k.links 0 k.at (stepped d k.at))) (unlinking S s z S.step)
                (unlinked_all S sound s z (link_put k.links 0 k.at (stepped d k.at)) (unlink_last S.nodes S.step sound.good s small z d k.links k.at k.inv (sym unlink_reads ∙ e) r))
            go false r =
                let w : 0 ≡ ref_of (gather same S.nodes (path_of z)) (parent_of k.at) = sym n ∙ up_reads ∙ rw r in
                absurd (omega (arith, ref_pos (gather same S.nodes (path_of z)) (parent_of k.at) (has_parent r)))

        pub unlink_up : (v : ℕ) → get_or t' (word_at u parent_word) 0 ≡ suc v → UnlinkAt words S s z d t' v × (v < u)
        unlink_up v n = go (is_root k.at) refl
          where
            go : (b : Bool) → is_root k.at ≡ b → UnlinkAt words S s z d t' v × (v < u)
            go true r = absurd (let w : suc v ≡ 0 = sym n ∙ up_reads ∙ rw r in omega arith)
            go false r =
                let w : ref_of (gather same S.nodes (path_of z)) (parent_of k.at) ≡ suc v = sym (up_reads ∙ rw r) ∙ n in (
                  record {
                    at = parent_of k.at;
                    links = link_put k.links 0 k.at (stepped d k.at);
                    table = q ∙ unlink_clears e;
                    here = w;
                    inv = unlink_next S.nodes S.step sound.good s small z d k.links k.at k.inv (sym unlink_reads ∙ e) r;
                  },
                  omega (arith, w, k.here, order_gather S.nodes sound.good.closed sound.good.order z k.at (mem_of_ref (gather same S.nodes (path_of z)) k.at u k.here) r),
                )

  module _ (small : (x : Corner) → S.need x < s) where
    module _ (t : List ℕ) (left u : ℕ) (h : Corner) (k : DropAt words S s t left u h) where
      pub drop_reads : get_or t (word_at u need_word) 0 ≡ needed S.nodes S.need s h h
      drop_reads = ap (λ (x : List ℕ). get_or x (word_at u need_word) 0) k.table ∙ read-need words (unlinking S s h S.step) h u k.here

      -- the test fails: the table holds S
      pub drop_done : (get_or t (word_at u need_word) 0 ≡ s → ⊥) → (t ≡ table_by words S) × (left ≡ length S.nodes)
      drop_done f =
          let a : Alike (unlinking S s h S.step) S = dropping_stop S sound s h small (λ e. f (drop_reads ∙ e)) in
          (k.table ∙ alike_table words (unlinking S s h S.step) S a, k.count ∙ ap length a.nodes)

      -- it passes: the node is the last, its parent is in use, and the next round is at the parent
      module _ (e : get_or t (word_at u need_word) 0 ≡ s) where
        new : needed S.nodes S.need s h h ≡ s
        new = sym drop_reads ∙ e

        top : Memᴰ root S.nodes
        top = rw sound.good.root.1 (Memᴰ.head refl)

        deep : is_root h ≡ false
        deep = drop-root S.nodes sound.good.closed top S.need s small h new

        grew : gather same S.nodes (path_of h) ≡ gather same S.nodes (path_of (parent_of h)) ++ (h ∷ [])
        grew = drop-next S.nodes sound.good.closed top S.need s small h new

        has : Memᴰ (parent_of h) (gather same S.nodes (path_of (parent_of h)))
        has = mem-gather-right same same_sound same_refl S.nodes (path_of (parent_of h)) (mem_path (parent_of h))

        drop-last : length (gather same S.nodes (path_of (parent_of h))) ≡ u
        drop-last =
            let w : suc (length (gather same S.nodes (path_of (parent_of h)))) ≡ suc u = sym (ref_snoc (gather same S.nodes (path_of (parent_of h))) h (drop-fresh S.nodes sound.good.closed top S.need s small h new)) ∙ ap (λ (l : List Corner). ref_of l h) (sym grew) ∙ k.here in
            omega arith

        pub drop-left : left ≡ suc u
        drop-left = omega (arith, k.count, ap length grew, length-append (gather same S.nodes (path_of (parent_of h))) (h ∷ []), drop-last)

        drop_parent : ref_of (gather same S.nodes (path_of (parent_of h))) (parent_of h) ≡ suc (get_or t (word_at u parent_word) 0 - 1)
        drop_parent =
            let w : get_or t (word_at u parent_word) 0 ≡ ref_of (gather same S.nodes (path_of (parent_of h))) (parent_of h) = ap (λ (x : List ℕ). get_or x (word_at u parent_word) 0) k.table ∙ read_parent words (unlinking S s h S.step) h u k.here ∙ rw deep (ap (λ (l : List Corner). ref_of l (parent_of h)) grew ∙ ref_append (gather same S.nodes (path_of (parent_of h))) (h ∷ []) (parent_of h) has) in
            omega (arith, ref_pos (gather same S.nodes (path_of (parent_of h))) (parent_of h) has)

        pub drop-up : DropAt words S s (sets (set t (word_at (get_or t (word_at u parent_word) 0 - 1) (child_word h)) 0) (u * width) (replicate width 0)) (left - 1) (get_or t (word_at u parent_word) 0 - 1) (parent_of h)
        drop-up =
            let z : List ℕ = replicate width 0 in
            record {
              table = ap (λ (x : List ℕ). sets (set x (word_at (get_or t (word_at u parent_word) 0 - 1) (child_word h)) 0) (u * width) z) k.table ∙ dropping_table S sound s h small new words (get_or t (word_at u parent_word) 0 - 1) u drop_parent drop-last (omega (arith, drop-left, k.room));
              count = omega (arith, drop-left, drop-last);
              here = drop_parent;
              room = omega (arith, k.room);
            }

        -- the parent's number is lower
        pub drop_falls : get_or t (word_at u parent_word) 0 - 1 < u
        drop_falls = omega (arith, drop_parent, drop-last, find_le (same (parent_of h)) (gather same S.nodes (path_of (parent_of h))))

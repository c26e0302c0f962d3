-- The states on the way of a lookup, as tables, and the records that they need.
-- Assumes nothing.
use mathlib.Core.Bool.{Bool, true, false, cond}
use mathlib.Core.List.{List, [], ◌∷◌, ◌++◌, Memᴰ}
use mathlib.Core.Logic.{⊎_elim}
use mathlib.Core.Path.{◌≡◌, refl, ap, sym, ◌∙◌}
use Prim.Native.Nat.{ℕ, zero, suc, ◌*◌, ◌<◌, ◌≤◌}
use native.Mathlib.Omega.{arith}
use lib.ListN.{length, length-append, set, replicate}
use lib.Seq.{sets}
use Rattle.grid.specs.declared.Corner.{Corner}
use Rattle.grid.specs.Grid.{same, stepped, corners_from, end_from}
use Rattle.grid.specs.Tree.{parent_of, is_root, path_of, child_word, root}
use Rattle.layout.specs.Table.{width, word_at, table_of}
use Rattle.lists.specs.Lists.{any, add, gather}
use Rattle.tree.specs.Nodes.{links, ref_of}
use Rattle.tree_laws.specs.State.{later, linked, link_put, WellLinked, State, state_of, needed, reached, visited_by, walked_by, with_node, with_link, grown, raised, unlinking, Alike, Sound, table_by, Agree}
use Rattle.grid.proofs.CornerLaws.{same_refl, same_sound}
use Rattle.lists.proofs.GatherLaws.{gather-more, add_cases, any→mem, mem→any, not_mem, distinct_gather, mem-gather-left, mem-gather-right, mem-gather_cases}
use Rattle.tree.proofs.NodeLaws.{mem_path}
use Rattle.tree.proofs.RefLaws.{not_any}
use Rattle.tree_laws.proofs.AddLaws.{needed_known, needed_step, needed_child, path_below}
use Rattle.tree_laws.proofs.LevelLaws.{add_known, order_gather, gather_closed, known_nodes, known_links, left-links, right_nodes, right-links, child_nodes, sibling_links, above-links, nodes_step, good_linked}
use Rattle.tree_laws.proofs.LineageLaws.{links-there}
use Rattle.tree_laws.proofs.PopLaws.{drop-stop, drop-root, drop-fresh, drop-next, drop-needs}
use Rattle.tree_laws.proofs.PushLaws.{push_state, sound_walk, finish_node, step_bound, need_bound}
use Rattle.table_laws.proofs.RowLaws.{table_state}
use Rattle.table_laws.proofs.CellLaws.{alike_table}
use Rattle.table_laws.proofs.StoreLaws.{drop_table}

pub add_new : (ns : List Corner) (e : Corner) → (Memᴰ e ns → ⊥) → add same ns e ≡ ns ++ (e ∷ [])
add_new ns e f = ⊎_elim (λ h. absurd (f (any→mem same same_sound same_refl e ns h.0))) (λ h. h.1) (add_cases same ns e)

-- a node made, or there
pub grown_known : (S : State) (e : Corner) (s : ℕ) → Memᴰ e S.nodes → grown S e s ≡ S
grown_known S e s m = rw (mem→any same same_sound same_refl m, grown)

pub grown_new : (S : State) (e : Corner) (s : ℕ) → (Memᴰ e S.nodes → ⊥) → grown S e s ≡ with_node S e s
grown_new S e s f = rw (not_any e S.nodes f, grown)

pub by-mem : (e : Corner) (ns : List Corner) (P : Type 0) → (Memᴰ e ns → P) → ((Memᴰ e ns → ⊥) → P) → P
by-mem e ns P f g = go (any (same e) ns) refl
  where
    go : (b : Bool) → any (same e) ns ≡ b → P
    go true p = f (any→mem same same_sound same_refl e ns p)
    go false p = g (not_mem same same_sound same_refl e ns p)

-- ---- the cases of the lookup, as states
module _ (S : State) (sound : Sound S) (s : ℕ) (a e : Corner) where
  good : WellLinked S.nodes S.step
  good = sound.good

  -- 1. linked already
  pub reach_known : 0 < S.step a e → Alike (reached S s a e) S
  reach_known h = record {
    nodes = known_nodes S.nodes S.step sound.good s a e h;
    step = known_links S.nodes S.step sound.good s a e h;
    visits = λ x. refl;
    need = needed_known S.nodes S.need s e sound.good.closed (sound.good.ends a e h).1;
    first = λ x. refl;
    edges = λ x y. refl;
  }

  -- 2. e is the root
  pub reach-root : S.step a e ≡ 0 → is_root e ≡ true → Alike (reached S s a e) (with_link S a e s)
  reach-root z h = record {
    nodes = right_nodes S.nodes S.step sound.good s a e h;
    step = λ x y f. right-links S.nodes S.step sound.good s a e z h x y;
    visits = λ x. refl;
    need = needed_known S.nodes S.need s e sound.good.closed (mathlib.Core.List.Memᴰ.cast (same_sound e root h) (rw sound.good.root.1 (mathlib.Core.List.Memᴰ.head refl)));
    first = λ x. refl;
    edges = λ x y. refl;
  }

  -- a lookup's last two stores, over the state T in which the parent of e is
  over : (T : State) → gather same S.nodes (path_of e) ≡ add same T.nodes e → Agree (linked S.step s a e) (link_put T.step s a e)
      → (Memᴰ e T.nodes → (x : Corner) → needed S.nodes S.need s e x ≡ T.need x)
      → ((Memᴰ e T.nodes → ⊥) → (x : Corner) → needed S.nodes S.need s e x ≡ cond (same x e) s (T.need x))
      → ((x : Corner) → S.visits x ≡ T.visits x) → ((x : Corner) → S.first x ≡ T.first x) → ((x y : Corner) → S.edges x y ≡ T.edges x y)
      → Alike (reached S s a e) (with_link (grown T e s) a e s)
  over T n l k f v q w =
      by-mem e T.nodes (Alike (reached S s a e) (with_link (grown T e s) a e s))
      (λ m. rw (grown_known T e s m) (record { nodes = n ∙ add_known T.nodes e m; step = l; visits = v; need = k m; first = q; edges = w }))
      (λ g. rw (grown_new T e s g) (record { nodes = n ∙ add_new T.nodes e g; step = l; visits = v; need = f g; first = q; edges = w }))

  -- 3. a is the root, and so the parent of e; 4. a and e have one parent
  reach-left : S.step a e ≡ 0 → is_root a ≡ true → is_root e ≡ false → Memᴰ (parent_of e) S.nodes → Alike (reached S s a e) (with_link (grown S e s) a e s)
  reach-left z h i m =
      over S (child_nodes S.nodes S.step sound.good s a e i m) (λ x y f. left-links S.nodes S.step sound.good s a e z h x y)
      (needed_known S.nodes S.need s e sound.good.closed) (needed_child S.nodes sound.good.closed S.need s e i m) (λ x. refl) (λ x. refl) (λ x y. refl)

  reach_sibling : S.step a e ≡ 0 → Memᴰ a S.nodes → is_root a ≡ false → is_root e ≡ false → parent_of a ≡ parent_of e → Alike (reached S s a e) (with_link (grown S e s) a e s)
  reach_sibling z n h i p =
      let m : Memᴰ (parent_of e) S.nodes = mathlib.Core.List.Memᴰ.cast (sym p) (sound.good.closed a n h) in
      over S (child_nodes S.nodes S.step sound.good s a e i m) (sibling_links S.nodes S.step sound.good s a e z h i p)
      (needed_known S.nodes S.need s e sound.good.closed) (needed_child S.nodes sound.good.closed S.need s e i m) (λ x. refl) (λ x. refl) (λ x y. refl)

  -- 5. first the parents
  reach-above : S.step a e ≡ 0 → is_root a ≡ false → is_root e ≡ false → Alike (reached S s a e) (with_link (grown (reached S s (parent_of a) (parent_of e)) e s) a e s)
  reach-above z h i =
      over (reached S s (parent_of a) (parent_of e)) (nodes_step S.nodes e i) (λ x y f. above-links S.nodes S.step sound.good s a e z h i x y)
      (λ m x. let k = old m in needed_known S.nodes S.need s e sound.good.closed k x ∙ sym (needed_known S.nodes S.need s (parent_of e) sound.good.closed (sound.good.closed e k i) x))
      (λ f x. needed_step S.nodes S.need s e i (λ m. f (mem-gather-left same same_sound same_refl S.nodes (path_of (parent_of e)) m)) x)
      (λ x. refl) (λ x. refl) (λ x y. refl)
    where
      old : Memᴰ e (gather same S.nodes (path_of (parent_of e))) → Memᴰ e S.nodes
      old m = ⊎_elim (λ k. k) (λ k. absurd (path_below e i k)) (mem-gather_cases same same_sound same_refl S.nodes (path_of (parent_of e)) m)

-- 3. to 5. as one: over the state of the parents
pub reach-over : (S : State) → Sound S → (s : ℕ) (a e : Corner) → S.step a e ≡ 0 → Memᴰ a S.nodes → is_root e ≡ false → (is_root a ≡ true → Memᴰ (parent_of e) S.nodes) → Alike (reached S s a e) (with_link (grown (raised S s a e) e s) a e s)
reach-over S sound s a e z m i r = go (is_root a) refl (same (parent_of a) (parent_of e)) refl
  where
    go : (b : Bool) → is_root a ≡ b → (q : Bool) → same (parent_of a) (parent_of e) ≡ q → Alike (reached S s a e) (with_link (grown (raised S s a e) e s) a e s)
    go true p q k = rw (p, raised) (reach-left S sound s a e z p i (r p))
    go false p true k = rw (p, k, raised) (reach_sibling S sound s a e z m p i (same_sound (parent_of a) (parent_of e) k))
    go false p false k = rw (p, k, raised) (reach-above S sound s a e z p i)

-- ---- the states on the way are sound
module _ (S : State) (sound : Sound S) (s : ℕ) (h : Corner) where
  sound_unlinking : (M : Corner → Corner → ℕ) → WellLinked (gather same S.nodes (path_of h)) M → Sound (unlinking S s h M)
  sound_unlinking M g = record {
    good = g;
    unvisited = λ x f. sound.unvisited x (outside x f);
    unneeded = λ x f. rw (not_any x S.nodes (outside x f), not_any x (path_of h) (λ m. f (mem-gather-right same same_sound same_refl S.nodes (path_of h) m))) (sound.unneeded x (outside x f));
    unseen = λ x f. sound.unseen x (outside x f);
    fewer = sound.fewer;
    more = sound.more;
    paired = sound.paired;
    unwalked = λ x y f. sound.unwalked x y (outside x f);
  }
    where
      outside : (x : Corner) → (Memᴰ x (gather same S.nodes (path_of h)) → ⊥) → Memᴰ x S.nodes → ⊥
      outside x f m = f (mem-gather-left same same_sound same_refl S.nodes (path_of h) m)

  pub sound_reached : (a : Corner) → Memᴰ a S.nodes → Sound (reached S s a h)
  sound_reached a m = sound_unlinking (linked S.step s a h) (good_linked S.nodes S.step sound.good s a h m)

  -- the old links among more nodes
  pub sound_dropping : Sound (unlinking S s h S.step)
  sound_dropping = sound_unlinking S.step (record {
    root = let g = gather-more same S.nodes (path_of h) in (sound.good.root.0 ++ g.0, g.1 ∙ ap (λ (l : List Corner). l ++ g.0) sound.good.root.1);
    closed = gather_closed S.nodes sound.good.closed h;
    distinct = distinct_gather same same_sound same_refl S.nodes (path_of h) sound.good.distinct;
    order = order_gather S.nodes sound.good.closed sound.good.order h;
    ends = λ x y k. let p = sound.good.ends x y k in (mem-gather-left same same_sound same_refl S.nodes (path_of h) p.0, mem-gather-left same same_sound same_refl S.nodes (path_of h) p.1);
    both = sound.good.both;
    up = sound.good.up;
  })

  -- the end of the loop that clears the links
  pub unlinked_all : (M : Corner → Corner → ℕ) → Agree M S.step → Alike (unlinking S s h M) (unlinking S s h S.step)
  unlinked_all M g = record { nodes = refl; step = g; visits = λ x. refl; need = λ x. refl; first = λ x. refl; edges = λ x y. refl }

  -- the loop that drops the nodes: one more, or all
  module _ (small : (x : Corner) → S.need x < s) where
    top : Memᴰ root S.nodes
    top = rw sound.good.root.1 (mathlib.Core.List.Memᴰ.head refl)

    pub dropping_stop : (needed S.nodes S.need s h h ≡ s → ⊥) → Alike (unlinking S s h S.step) S
    dropping_stop f =
        let k = drop-stop S.nodes sound.good.closed top S.need s small h f in
        record { nodes = k.0; step = λ x y g. refl; visits = λ x. refl; need = k.1; first = λ x. refl; edges = λ x y. refl }

    pub dropping_next : needed S.nodes S.need s h h ≡ s → Alike (unlinking S s h S.step) (with_node (unlinking S s (parent_of h) S.step) h s)
    dropping_next n = record {
      nodes = drop-next S.nodes sound.good.closed top S.need s small h n;
      step = λ x y g. refl;
      visits = λ x. refl;
      need = drop-needs S.nodes sound.good.closed top S.need s small h n;
      first = λ x. refl;
      edges = λ x y. refl;
    }

-- one round of that loop, on the table
pub dropping_table : (S : State) → Sound S → (s : ℕ) (h : Corner) → ((x : Corner) → S.need x < s) → needed S.nodes S.need s h h ≡ s
    → (words u n : ℕ) → ref_of (gather same S.nodes (path_of (parent_of h))) (parent_of h) ≡ suc u → length (gather same S.nodes (path_of (parent_of h))) ≡ n → width * suc n ≤ words
    → sets (set (table_by words (unlinking S s h S.step)) (word_at u (child_word h)) 0) (n * width) (replicate width 0) ≡ table_by words (unlinking S s (parent_of h) S.step)
dropping_table S sound s h small k words u n r l room =
    let T : State = unlinking S s (parent_of h) S.step in
    let z : List ℕ = replicate width 0 in
    let top : Memᴰ root S.nodes = rw sound.good.root.1 (mathlib.Core.List.Memᴰ.head refl) in
    ap (λ (t : List ℕ). sets (set t (word_at u (child_word h)) 0) (n * width) z) (alike_table words (unlinking S s h S.step) (with_node T h s) (dropping_next S sound s h small k))
    ∙ ap (λ (m : ℕ). sets (set (table_by words (with_node T h s)) (word_at u (child_word h)) 0) (m * width) z) (sym l)
    ∙ drop_table T (sound_dropping S sound s (parent_of h)) h s
    (drop-root S.nodes sound.good.closed top S.need s small h k)
    (mem-gather-right same same_sound same_refl S.nodes (path_of (parent_of h)) (mem_path (parent_of h)))
    (drop-fresh S.nodes sound.good.closed top S.need s small h k)
    words u r (omega arith)

-- ---- the tables of the walk
module _ (words : ℕ) (c : Corner) (ds : List ℕ) (d : ℕ) where
  -- after the lookup, the visit and the edge the table is that of the walk with the step
  pub step_table : table_by words (walked_by (visited_by (reached (state_of (corners_from c ds)) (suc (length ds)) (end_from c ds) (stepped d (end_from c ds))) (stepped d (end_from c ds)) (suc (length ds))) (end_from c ds) (stepped d (end_from c ds)))
      ≡ table_of words c (ds ++ (d ∷ []))
  step_table =
      sym (alike_table words (state_of (corners_from c (ds ++ (d ∷ []))))
      (walked_by (visited_by (reached (state_of (corners_from c ds)) (suc (length ds)) (end_from c ds) (stepped d (end_from c ds))) (stepped d (end_from c ds)) (suc (length ds))) (end_from c ds) (stepped d (end_from c ds))) (push_state c ds d))
      ∙ sym (table_state words c (ds ++ (d ∷ [])))

  pub sound_step : Sound (reached (state_of (corners_from c ds)) (suc (length ds)) (end_from c ds) (stepped d (end_from c ds)))
  sound_step = sound_reached (state_of (corners_from c ds)) (sound_walk c ds) (suc (length ds)) (stepped d (end_from c ds)) (end_from c ds) (finish_node c ds)

  -- the way back from the corner stood on is linked
  pub step_back : 0 < linked (state_of (corners_from c ds)).step (suc (length ds)) (end_from c ds) (stepped d (end_from c ds)) (stepped d (end_from c ds)) (end_from c ds)
  step_back = some ((state_of (corners_from c ds)).step (stepped d (end_from c ds)) (end_from c ds)) (links (stepped d (end_from c ds)) (end_from c ds) (end_from c ds, stepped d (end_from c ds))) (links-there (end_from c ds) (stepped d (end_from c ds)))
    where
      some : (n : ℕ) (b : Bool) → b ≡ true → 0 < later n b (suc (length ds))
      some zero b e = rw e (omega arith)
      some (suc n) b e = omega arith

  pub links_small : (x y : Corner) → (state_of (corners_from c ds)).step x y < suc (length ds)
  links_small x y = omega (arith, step_bound c ds x y)

  pub needs_small : (x : Corner) → (state_of (corners_from c ds)).need x < suc (length ds)
  needs_small x = omega (arith, need_bound c ds x)

-- ---- room
pub room-old : (ns xs : List Corner) → length ns ≤ length (gather same ns xs)
room-old ns xs = let g = gather-more same ns xs in omega (arith, ap length g.1, length-append ns g.0)

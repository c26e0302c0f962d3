-- One round of each loop of a take-back.
-- Assumes nothing.
use mathlib.Core.Bool.{false}
use mathlib.Core.List.Memᴰ
use mathlib.Core.List.{List}
use mathlib.Core.Path.{◌≡◌, refl, ap, sym, ◌∙◌, subst}
use Prim.Native.Nat.{ℕ, zero, suc, ◌+◌, ◌-◌, ◌*◌, ◌<◌, ◌≤◌}
use native.Mathlib.Decide.{ℕ_discrete}
use native.Mathlib.Omega.{arith}
use lib.ListN.{length, length-set, get_or, set, replicate}
use lib.Seq.{sets, length-sets}
use Rattle.grid.specs.declared.Corner.{Corner}
use Rattle.grid.specs.Grid.{same, stepped}
use Rattle.grid.specs.Tree.{parent_of, is_root, path_of, child_word}
use Rattle.layout.specs.Table.{width, word_at, HasRecord, parent_word, neighbour_word, link_word, need_word}
use Rattle.lists.specs.Lists.{gather}
use Rattle.table_laws.specs.Model.{unset_in}
use Rattle.tree.specs.Nodes.{ref_of}
use Rattle.tree_laws.specs.State.{State, needed, unlinking, table_by, UnlinkAt, DropAt}
use Rattle.walk_table.proofs.ErasureLaws.{length_unset}
use Rattle.table_laws.proofs.Cites.{ref_below}
use Rattle.table_laws.proofs.ChildLaws.{mem_of_ref}
use Rattle.table_laws.proofs.CellLaws.{read_parent}
use Rattle.table_laws.proofs.UndoLaws.{unlink_to, unlink_done, unlink_top, unlink_up, drop_reads, drop_done, drop-up, drop-left, drop_falls}
use Rattle.tree_laws.proofs.AddLaws.{ref_pos}
use Rattle.tree_laws.proofs.LevelLaws.{gather_closed}
use Rattle.tree_laws.proofs.PopLaws.{drop-root}
use Rattle.walk_back.specs.Takes.{Joined, Cleared, Unlinks, Unlinkable, Newest, Drops, Droppable}

-- ---- the links
module _ (t : List ℕ) (u d s : ℕ) (S : State) (z : Corner) (k : Unlinks t u d s S z) where
  unlinks_bound : (a : Corner) (v : ℕ) → ref_of (gather same S.nodes (path_of z)) a ≡ suc v → HasRecord t v
  unlinks_bound a v e = omega (arith, ref_below (gather same S.nodes (path_of z)) a v e, k.room)

  unlinks_joined : Joined t u d
  unlinks_joined = record {
    here = unlinks_bound k.held.at u k.held.here;
    way = k.dir;
    there = λ p.
        let h = unlink_to (length t) S k.sound s k.pos z d k.dir k.small t u k.held p in
        (h.0, unlinks_bound (stepped d k.held.at) (get_or t (word_at u (neighbour_word d)) 0 - 1) h.1);
  }

  -- after a level: another link, no parent, or the next level at a node of a lower number
  unlinks_other : (t' : List ℕ) → (get_or t (word_at u (link_word d)) 0 ≡ s → ⊥) → t' ≡ t → t' ≡ table_by (length t) (unlinking S s z S.step)
  unlinks_other t' f q = q ∙ unlink_done (length t) S k.sound s k.pos z d k.dir k.small t u k.held f

  module _ (t' : List ℕ) (e : get_or t (word_at u (link_word d)) 0 ≡ s) (q : t' ≡ unset_in t u (get_or t (word_at u (neighbour_word d)) 0 - 1) d) where
    unlinks_top : get_or t' (word_at u parent_word) 0 ≡ 0 → t' ≡ table_by (length t) (unlinking S s z S.step)
    unlinks_top = unlink_top (length t) S k.sound s k.pos z d k.dir k.small t u k.held t' e q

    unlinks_next : (v : ℕ) → get_or t' (word_at u parent_word) 0 ≡ suc v → Unlinks t' v d s S z × (v < u)
    unlinks_next v n =
        let x = unlink_up (length t) S k.sound s k.pos z d k.dir k.small t u k.held t' e q v n in
        let l : length t ≡ length t' = sym (ap length q ∙ length_unset t u (get_or t (word_at u (neighbour_word d)) 0 - 1) d) in
        (record { sound = k.sound; pos = k.pos; dir = k.dir; small = k.small; held = subst (λ (w : ℕ). UnlinkAt w S s z d t' v) l x.0; room = subst (λ (w : ℕ). width * length (gather same S.nodes (path_of z)) ≤ w) l k.room }, x.1)

  unlinks_level : (t' : List ℕ) (r : ℕ) → Cleared t u d s t' r → (r ≡ 0 → t' ≡ table_by (length t) (unlinking S s z S.step)) × ((v : ℕ) → r ≡ suc v → Unlinks t' v d s S z × (v < u))
  unlinks_level t' r h =
      elim (ℕ_discrete (get_or t (word_at u (link_word d)) 0) s) [
        | yes e ↦ let g = h.own e in ((λ p. unlinks_top t' e g.0 (sym g.1 ∙ p)), (λ v p. unlinks_next t' e g.0 v (sym g.1 ∙ p)))
        | no f ↦ let g = h.other f in ((λ p. unlinks_other t' f g.0), (λ v p. absurd (omega (arith, g.1))))
      ]

-- the next level is at the node of ref r, or all is done
abbrev pub Unlinked : List ℕ → ℕ → ℕ → ℕ → List ℕ → ℕ → Type 0
Unlinked t₀ u₀ d s t r = (S : State) (z : Corner) → Unlinks t₀ u₀ d s S z → (r ≡ 0 → t ≡ table_by (length t₀) (unlinking S s z S.step)) × ((v : ℕ) → r ≡ suc v → Unlinks t v d s S z)

module _ (t₀ : List ℕ) (u₀ d s : ℕ) (h : Unlinkable t₀ u₀ d s) (t : List ℕ) (r u : ℕ) (q : r ≡ u + 1) (f : Unlinked t₀ u₀ d s t r) where
  here : Unlinks t u d s h.state h.end
  here = (f h.state h.end h.holds).1 u (omega arith)

  pub unlinked_joined : Joined t u d × (0 < s)
  unlinked_joined = (unlinks_joined t u d s h.state h.end here, here.pos)

  module _ (t' : List ℕ) (r' : ℕ) (c : Cleared t u d s t' r') where
    pub unlinked_falls : r' < r
    unlinked_falls = go r' refl
      where
        go : (n : ℕ) → r' ≡ n → r' < r
        go zero e = omega arith
        go (suc v) e = omega (arith, ((unlinks_level t u d s h.state h.end here t' r' c).1 v e).1)

    pub unlinked_next : length t ≡ length t₀ → Unlinked t₀ u₀ d s t' r'
    unlinked_next l S z k =
        let g = unlinks_level t u d s S z ((f S z k).1 u (omega arith)) t' r' c in
        ((λ e. g.0 e ∙ ap (λ (w : ℕ). table_by w (unlinking S s z S.step)) l), (λ v e. (g.1 v e).0))

-- the words of the table stay as many
pub length_node : (t : List ℕ) (u : ℕ) (h : Corner) (v : ℕ) → length (sets (set t (word_at v (child_word h)) 0) (u * width) (replicate width 0)) ≡ length t
length_node t u h v = let z : List ℕ = replicate width 0 in length-sets (set t (word_at v (child_word h)) 0) (u * width) z ∙ length-set t (word_at v (child_word h)) 0

-- ---- the nodes
module _ (t : List ℕ) (left u : ℕ) (h : Corner) (s : ℕ) (S : State) (k : Drops t left u h s S) where
  drops_bound : HasRecord t u
  drops_bound = omega (arith, ref_below (gather same S.nodes (path_of h)) h u k.held.here, k.held.count, k.held.room)

  module _ (e : get_or t (word_at u need_word) 0 ≡ s) where
    drops_parent : 0 < get_or t (word_at u parent_word) 0
    drops_parent =
        let new : needed S.nodes S.need s h h ≡ s = sym (drop_reads (length t) S k.sound s k.pos k.small t left u h k.held) ∙ e in
        let deep : is_root h ≡ false = drop-root S.nodes k.sound.good.closed (rw k.sound.good.root.1 (Memᴰ.head refl)) S.need s k.small h new in
        let q : get_or t (word_at u parent_word) 0 ≡ ref_of (gather same S.nodes (path_of h)) (parent_of h) = ap (λ (x : List ℕ). get_or x (word_at u parent_word) 0) k.held.table ∙ read_parent (length t) (unlinking S s h S.step) h u k.held.here ∙ rw deep in
        omega (arith, q, ref_pos (gather same S.nodes (path_of h)) (parent_of h) (gather_closed S.nodes k.sound.good.closed h h (mem_of_ref (gather same S.nodes (path_of h)) h u k.held.here) deep))

    drops_falls : get_or t (word_at u parent_word) 0 - 1 < u
    drops_falls = drop_falls (length t) S k.sound s k.pos k.small t left u h k.held e

    drops_left : 0 < left
    drops_left = omega (arith, drop-left (length t) S k.sound s k.pos k.small t left u h k.held e)

    drops_next : (t' : List ℕ) (v : ℕ) → v ≡ get_or t (word_at u parent_word) 0 - 1 → t' ≡ sets (set t (word_at v (child_word h)) 0) (u * width) (replicate width 0) → Drops t' (left - 1) v (parent_of h) s S
    drops_next t' v p q =
        let l : length t ≡ length t' = sym (ap length q ∙ length_node t u h v) in
        let z : List ℕ = replicate width 0 in
        let d = drop-up (length t) S k.sound s k.pos k.small t left u h k.held e in
        let d' : DropAt (length t) S s t' (left - 1) v (parent_of h) = subst (λ (x : List ℕ). DropAt (length t) S s x (left - 1) v (parent_of h)) (sym q) (subst (λ (w : ℕ). DropAt (length t) S s (sets (set t (word_at w (child_word h)) 0) (u * width) z) (left - 1) w (parent_of h)) (sym p) d) in
        record { sound = k.sound; pos = k.pos; small = k.small; held = subst (λ (w : ℕ). DropAt w S s t' (left - 1) v (parent_of h)) l d' }

-- the node u, which the step needed: what its taking off asks
pub newest_bounds : (t : List ℕ) (u : ℕ) (h : Corner) → Newest t u h → (HasRecord t u) × (0 < get_or t (word_at u parent_word) 0) × (get_or t (word_at u parent_word) 0 - 1 < u)
newest_bounds t u h k =
    let d = k.held in
    (drops_bound t k.left u h k.step d.state d.holds, drops_parent t k.left u h k.step d.state d.holds k.needed, drops_falls t k.left u h k.step d.state d.holds k.needed)

abbrev pub Dropped : List ℕ → ℕ → ℕ → Corner → ℕ → List ℕ → ℕ → ℕ → Corner → Type 0
Dropped t₀ n₀ u₀ c s t left u h = (S : State) → Drops t₀ n₀ u₀ c s S → Drops t left u h s S

module _ (t₀ : List ℕ) (n₀ u₀ : ℕ) (c : Corner) (s : ℕ) (t : List ℕ) (left u : ℕ) (h : Corner) (f : Dropped t₀ n₀ u₀ c s t left u h) where
  -- for some state: the bounds, and that the node goes
  module _ (k : Droppable t₀ n₀ u₀ c s) where
    pub dropped_bound : HasRecord t u
    dropped_bound = drops_bound t left u h s k.state (f k.state k.holds)

    module _ (e : get_or t (word_at u need_word) 0 ≡ s) where
      pub dropped_newest : Newest t u h
      dropped_newest = record { left = left; step = s; held = record { state = k.state; holds = f k.state k.holds }; needed = e }

      pub dropped_left : 0 < left
      dropped_left = drops_left t left u h s k.state (f k.state k.holds) e

  -- the test fails: all is done; it passes: the parent is next
  pub dropped_stop : length t ≡ length t₀ → (get_or t (word_at u need_word) 0 ≡ s → ⊥) → (S : State) → Drops t₀ n₀ u₀ c s S → (t ≡ table_by (length t₀) S) × (left ≡ length S.nodes)
  dropped_stop l g S a =
      let k = f S a in
      let d = drop_done (length t) S k.sound s k.pos k.small t left u h k.held g in
      (d.0 ∙ ap (λ (w : ℕ). table_by w S) l, d.1)

  pub dropped_next : get_or t (word_at u need_word) 0 ≡ s → (t' : List ℕ) (v : ℕ) (h' : Corner) → v ≡ get_or t (word_at u parent_word) 0 - 1 → t' ≡ sets (set t (word_at v (child_word h)) 0) (u * width) (replicate width 0) → h' ≡ parent_of h → Dropped t₀ n₀ u₀ c s t' (left - 1) v h'
  dropped_next e t' v h' p q j S a = subst (λ y. Drops t' (left - 1) v y s S) (sym j) (drops_next t left u h s S (f S a) e t' v p q)

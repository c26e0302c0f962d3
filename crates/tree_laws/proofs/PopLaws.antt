-- The same read backwards: how a take-back undoes a step.
-- Assumes nothing.
use mathlib.Core.Bool.{Bool, true, false, cond}
use mathlib.Core.List.Memᴰ
use mathlib.Core.List.{List, [], ◌∷◌, ◌++◌, Memᴰ}
use mathlib.Core.Logic.{◌⊎◌, inl, inr, ⊎_elim}
use mathlib.Core.Path.{◌≡◌, refl, ap, ap₂, sym, ◌∙◌, subst}
use Prim.Native.Nat.{ℕ, zero, suc, ◌+◌, ◌<◌}
use native.Mathlib.Omega.{arith}
use Rattle.grid.specs.declared.Corner.{Corner}
use Rattle.grid.specs.Grid.{same, stepped, joins}
use Rattle.grid.specs.Tree.{root, parent_of, is_root, path_of}
use Rattle.lists.specs.Lists.{any, gather, tally}
use Rattle.tree.specs.Nodes.{links}
use Rattle.grid.proofs.CornerLaws.{same_refl, same_sound}
use Rattle.grid.proofs.ParentLaws.{parent_of-stepped}
use Rattle.grid.proofs.StepLaws.{stepped_ne}
use Rattle.tree_laws.proofs.LaterLaws.{later-old, later_new, later-none}
use Rattle.lists.proofs.GatherLaws.{add_cases, any→mem, mem→any, mem-gather_cases}
use Rattle.grid.proofs.JoinLaws.{joins_cases}
use Rattle.tree.proofs.NodeLaws.{mem_path}
use Rattle.tree_laws.specs.State.{later, linked, link_put, WellLinked, State, needed, visited_by, Sound, Agree, Unlinking}
use Rattle.tree_laws.proofs.AddLaws.{path_below, needed_known, needed_step}
use Rattle.tree_laws.proofs.LevelLaws.{root_is, nodes_known, nodes_step, known_links, left-links, right-links, sibling_links, above-links, linked-both, above-none, path_parent}
use Rattle.tree_laws.proofs.LineageLaws.{links_here}

-- a pair that was set and is cleared
link_put_clear : (M : Corner → Corner → ℕ) → ((x y : Corner) → M x y ≡ M y x) → (s : ℕ) (a e : Corner) → M a e ≡ 0 → (x y : Corner) → link_put (link_put M s a e) 0 a e x y ≡ M x y
link_put_clear M both s a e z x y = go (joins x y (a, e)) refl
  where
    at : joins x y (a, e) ≡ true → M x y ≡ 0
    at j = ⊎_elim (λ p. ap₂ M (sym p.0) (sym p.1) ∙ z) (λ p. both x y ∙ ap₂ M (sym p.0) (sym p.1) ∙ z) (joins_cases x y a e j)

    go : (b : Bool) → joins x y (a, e) ≡ b → link_put (link_put M s a e) 0 a e x y ≡ M x y
    go true p = rw p (sym (at p))
    go false p = rw p

link_put_cong : (M K : Corner → Corner → ℕ) (s : ℕ) (a e x y : Corner) → M x y ≡ K x y → link_put M s a e x y ≡ link_put K s a e x y
link_put_cong M K s a e x y h = ap (λ (n : ℕ). cond (joins x y (a, e)) s n) h

-- two link-step functions that agree at nodes that differ
module _ (ns : List Corner) (L : Corner → Corner → ℕ) (good : WellLinked ns L) (s : ℕ) (small : (x y : Corner) → L x y < s) where
  -- the links of the last step: those that it linked and no earlier one did
  last-links : (a e x y : Corner) → linked L s a e x y ≡ s → (L x y ≡ 0) × (links x y (a, e) ≡ true)
  last-links a e x y h = go (L x y) refl (links x y (a, e)) refl
    where
      go : (n : ℕ) → L x y ≡ n → (b : Bool) → links x y (a, e) ≡ b → (L x y ≡ 0) × (links x y (a, e) ≡ true)
      go zero p true q = (p, q)
      go zero p false q = absurd (omega (arith, small x y, later-none (L x y) (links x y (a, e)) s q))
      go (suc n) p b q = absurd (omega (arith, small x y, later-old (L x y) (links x y (a, e)) s (omega arith)))

  -- at the first older link nothing above is the last step's
  unlink_known : (a e : Corner) → (linked L s a e a e ≡ s → ⊥) → Agree (linked L s a e) L
  unlink_known a e f x y g = go (L a e) refl
    where
      go : (n : ℕ) → L a e ≡ n → linked L s a e x y ≡ L x y
      go zero p = absurd (f (later_new (L a e) (links a e (a, e)) s p (links_here a e)))
      go (suc n) p = known_links ns L good s a e (omega arith) x y g

  -- one level cleared
  unlink_left : (a e : Corner) → linked L s a e a e ≡ s → is_root a ≡ true → Agree (link_put (linked L s a e) 0 a e) L
  unlink_left a e h i x y g =
      let z = (last-links a e a e h).0 in
      link_put_cong (linked L s a e) (link_put L s a e) 0 a e x y (left-links ns L good s a e z i x y) ∙ link_put_clear L good.both s a e z x y

  unlink_right : (a e : Corner) → linked L s a e a e ≡ s → is_root e ≡ true → Agree (link_put (linked L s a e) 0 a e) L
  unlink_right a e h i x y g =
      let z = (last-links a e a e h).0 in
      link_put_cong (linked L s a e) (link_put L s a e) 0 a e x y (right-links ns L good s a e z i x y) ∙ link_put_clear L good.both s a e z x y

  unlink_sibling : (a e : Corner) → linked L s a e a e ≡ s → is_root a ≡ false → is_root e ≡ false → parent_of a ≡ parent_of e → Agree (link_put (linked L s a e) 0 a e) L
  unlink_sibling a e h i j p x y g =
      let z = (last-links a e a e h).0 in
      link_put_cong (linked L s a e) (link_put L s a e) 0 a e x y (sibling_links ns L good s a e z i j p x y g) ∙ link_put_clear L good.both s a e z x y

  unlink_above : (a e : Corner) → linked L s a e a e ≡ s → is_root a ≡ false → is_root e ≡ false → Agree (link_put (linked L s a e) 0 a e) (linked L s (parent_of a) (parent_of e))
  unlink_above a e h i j x y g =
      let z = (last-links a e a e h).0 in
      link_put_cong (linked L s a e) (link_put (linked L s (parent_of a) (parent_of e)) s a e) 0 a e x y (above-links ns L good s a e z i j x y)
      ∙ link_put_clear (linked L s (parent_of a) (parent_of e)) (linked-both ns L good s (parent_of a) (parent_of e)) s a e (above-none ns L good s a e z i j) x y

  away : (d : ℕ) (at : Corner) → at ≡ stepped d at → ⊥
  away d at e = stepped_ne d at (sym e)

  -- the loop that clears the links of a step to z, from the node at in direction d: its invariant, and how it goes on and ends
  pub unlink_start : (d : ℕ) (at : Corner) → Unlinking L s (stepped d at) d (linked L s at (stepped d at)) at
  unlink_start d at = inr (λ x y f. refl, mem_path (stepped d at))

  pub unlink_stop : (z : Corner) (d : ℕ) (M : Corner → Corner → ℕ) (at : Corner) → Unlinking L s z d M at → (M at (stepped d at) ≡ s → ⊥) → Agree M L
  unlink_stop z d M at (inl h) f = h
  unlink_stop z d M at (inr h) f = λ x y g. h.0 x y g ∙ unlink_known at (stepped d at) (λ k. f (h.0 at (stepped d at) (away d at) ∙ k)) x y g

  last_here : (d : ℕ) (M : Corner → Corner → ℕ) (at : Corner) → Agree M (linked L s at (stepped d at)) → M at (stepped d at) ≡ s → linked L s at (stepped d at) at (stepped d at) ≡ s
  last_here d M at h k = sym (h at (stepped d at) (away d at)) ∙ k

  cleared : (d : ℕ) (M K : Corner → Corner → ℕ) (at : Corner) → Agree M (linked L s at (stepped d at)) → Agree (link_put (linked L s at (stepped d at)) 0 at (stepped d at)) K → Agree (link_put M 0 at (stepped d at)) K
  cleared d M K at h k x y g = link_put_cong M (linked L s at (stepped d at)) 0 at (stepped d at) x y (h x y g) ∙ k x y g

  pub unlink_last : (z : Corner) (d : ℕ) (M : Corner → Corner → ℕ) (at : Corner) → Unlinking L s z d M at → M at (stepped d at) ≡ s → is_root at ≡ true → Agree (link_put M 0 at (stepped d at)) L
  unlink_last z d M at (inl h) k r = absurd (omega (arith, h at (stepped d at) (away d at), small at (stepped d at)))
  unlink_last z d M at (inr h) k r = cleared d M L at h.0 (unlink_left at (stepped d at) (last_here d M at h.0 k) r)

  pub unlink_next : (z : Corner) (d : ℕ) (M : Corner → Corner → ℕ) (at : Corner) → Unlinking L s z d M at → M at (stepped d at) ≡ s → is_root at ≡ false → Unlinking L s z d (link_put M 0 at (stepped d at)) (parent_of at)
  unlink_next z d M at (inl h) k r = absurd (omega (arith, h at (stepped d at) (away d at), small at (stepped d at)))
  unlink_next z d M at (inr h) k r = go (is_root (stepped d at)) refl (parent_of-stepped d at)
    where
      go : (b : Bool) → is_root (stepped d at) ≡ b → (parent_of (stepped d at) ≡ parent_of at) ⊎ (parent_of (stepped d at) ≡ stepped d (parent_of at)) → Unlinking L s z d (link_put M 0 at (stepped d at)) (parent_of at)
      go true i p = inl (cleared d M L at h.0 (unlink_right at (stepped d at) (last_here d M at h.0 k) i))
      go false i (inl p) = inl (cleared d M L at h.0 (unlink_sibling at (stepped d at) (last_here d M at h.0 k) r i (sym p)))
      go false i (inr p) =
          inr (
            cleared d M (linked L s (parent_of at) (stepped d (parent_of at))) at h.0 (subst (λ q. Agree (link_put (linked L s at (stepped d at)) 0 at (stepped d at)) (linked L s (parent_of at) q)) p (unlink_above at (stepped d at) (last_here d M at h.0 k) r i)),
            Memᴰ.cast (sym p) (path_parent (stepped d at) z i h.1),
          )

-- the loop that drops the nodes, from the node e up
module _ (ns : List Corner) (closed : (c : Corner) → Memᴰ c ns → is_root c ≡ false → Memᴰ (parent_of c) ns) (top : Memᴰ root ns) (N : Corner → ℕ) (s : ℕ) (small : (x : Corner) → N x < s) where
  -- a node whose need is the last step's number is new
  need_new : (e : Corner) → needed ns N s e e ≡ s → Memᴰ e ns → ⊥
  need_new e h m = omega (arith, small e, needed_known ns N s e closed m e)

  need-old : (e : Corner) → (needed ns N s e e ≡ s → ⊥) → Memᴰ e ns
  need-old e f = go (any (same e) ns) refl
    where
      go : (b : Bool) → any (same e) ns ≡ b → Memᴰ e ns
      go true p = any→mem same same_sound same_refl e ns p
      go false p = absurd (f (rw (p, mem→any same same_sound same_refl (mem_path e))))

  -- at the first older node all is done
  pub drop-stop : (e : Corner) → (needed ns N s e e ≡ s → ⊥) → (gather same ns (path_of e) ≡ ns) × ((x : Corner) → needed ns N s e x ≡ N x)
  drop-stop e f = let m = need-old e f in (nodes_known ns closed e m, needed_known ns N s e closed m)

  -- a new node is not the root, and is the last of the nodes
  pub drop-root : (e : Corner) → needed ns N s e e ≡ s → is_root e ≡ false
  drop-root e h = go (is_root e) refl
    where
      go : (b : Bool) → is_root e ≡ b → is_root e ≡ false
      go true p = absurd (need_new e h (Memᴰ.cast (root_is e p) top))
      go false p = p

  pub drop-fresh : (e : Corner) → needed ns N s e e ≡ s → Memᴰ e (gather same ns (path_of (parent_of e))) → ⊥
  drop-fresh e h m = ⊎_elim (need_new e h) (path_below e (drop-root e h)) (mem-gather_cases same same_sound same_refl ns (path_of (parent_of e)) m)

  pub drop-next : (e : Corner) → needed ns N s e e ≡ s → gather same ns (path_of e) ≡ gather same ns (path_of (parent_of e)) ++ (e ∷ [])
  drop-next e h =
      nodes_step ns e (drop-root e h)
      ∙ ⊎_elim (λ k. absurd (drop-fresh e h (any→mem same same_sound same_refl e (gather same ns (path_of (parent_of e))) k.0))) (λ k. k.1) (add_cases same (gather same ns (path_of (parent_of e))) e)

  pub drop-needs : (e : Corner) → needed ns N s e e ≡ s → (x : Corner) → needed ns N s e x ≡ cond (same x e) s (needed ns N s (parent_of e) x)
  drop-needs e h x = needed_step ns N s e (drop-root e h) (need_new e h) x

-- a visit, and its taking back
module _ (S : State) (sound : Sound S) (e : Corner) (k : ℕ) where
  pub visit_first : S.visits e ≡ 0 → (x : Corner) → (visited_by S e k).first x ≡ cond (same x e) (suc k) (S.first x)
  visit_first z x = go (same x e) refl
    where
      go : (b : Bool) → same x e ≡ b → later (S.first x) (same x e) (suc k) ≡ cond (same x e) (suc k) (S.first x)
      go true p = later_new (S.first x) (same x e) (suc k) (ap S.first (same_sound x e p) ∙ sound.fewer e z) p ∙ sym (rw p)
      go false p = later-none (S.first x) (same x e) (suc k) p ∙ sym (rw p)

  pub visit_again : (S.visits e ≡ 0 → ⊥) → (x : Corner) → (visited_by S e k).first x ≡ S.first x
  visit_again f x = go (same x e) refl (S.first x) refl
    where
      go : (b : Bool) → same x e ≡ b → (n : ℕ) → S.first x ≡ n → later (S.first x) (same x e) (suc k) ≡ S.first x
      go true p zero q = absurd (f (sound.more e (ap S.first (sym (same_sound x e p)) ∙ q)))
      go true p (suc n) q = later-old (S.first x) (same x e) (suc k) (omega arith)
      go false p n q = later-none (S.first x) (same x e) (suc k) p

  here : tally (same e e) ≡ 1
  here = rw (same_refl e)

  pub unvisit_last : (visited_by S e k).visits e ≡ 1 → (x : Corner) → S.first x ≡ cond (same x e) 0 ((visited_by S e k).first x)
  unvisit_last h x = go (same x e) refl
    where
      z : S.visits e ≡ 0
      z = let j : S.visits e + tally (same e e) ≡ 1 = h in omega (arith, here)

      go : (b : Bool) → same x e ≡ b → S.first x ≡ cond (same x e) 0 (later (S.first x) (same x e) (suc k))
      go true p = ap S.first (same_sound x e p) ∙ sound.fewer e z ∙ sym (rw p)
      go false p = sym (rw p (later-none (S.first x) false (suc k) refl))

  pub unvisit_more : ((visited_by S e k).visits e ≡ 1 → ⊥) → (x : Corner) → S.first x ≡ (visited_by S e k).first x
  unvisit_more f x = sym (visit_again (λ z. f (let j : S.visits e + tally (same e e) ≡ 1 = omega (arith, here, z) in j)) x)

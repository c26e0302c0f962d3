-- The five cases of the lookup, on the nodes and the link steps.
-- Assumes nothing.
use mathlib.Core.Bool.{Bool, true, false, ◌||◌, true≢false}
use mathlib.Core.List.{List, [], ◌∷◌, ◌++◌, Memᴰ}
use mathlib.Core.Logic.{◌⊎◌, inl, inr, ⊎_elim}
use mathlib.Core.Path.{◌≡◌, refl, ap, ap₂, sym, ◌∙◌, subst}
use Prim.Native.Nat.{ℕ, zero, suc, ◌<◌}
use native.Mathlib.Omega.{arith}
use lib.ListN.{length}
use Rattle.grid.specs.declared.Corner.{Corner}
use Rattle.grid.specs.Grid.{same, joins}
use Rattle.grid.specs.Tree.{root, parent_of, is_root, path_of}
use Rattle.lists.specs.Lists.{any, find, add, gather}
use Rattle.tree.specs.Nodes.{links}
use Rattle.grid.proofs.CornerLaws.{same_refl, same_sound}
use Rattle.grid.proofs.PathLaws.{size_of-parent_of, path_of-root, path_of_snoc, tree_ind}
use Rattle.lists.proofs.FindLaws.{find_none, find-left, find_le}
use Rattle.lists.proofs.GatherLaws.{or_cases, gather_append, gather-more, add_cases, distinct_gather, mem→any, mem-gather-left, mem-gather-right, mem-gather_cases}
use Rattle.grid.proofs.JoinLaws.{joins_cases}
use Rattle.tree.proofs.NodeLaws.{mem_path}
use Rattle.tree_laws.proofs.LaterLaws.{later-old, later_new, later-none, later_pos, later_or, find_snoc}
use Rattle.tree_laws.specs.State.{later, linked, link_put, WellLinked}
use Rattle.tree_laws.proofs.LineageLaws.{links-left, links-right, links_step, links-same, links_size, links_flip, links-up, links-ends, pair_ind, path_up}

pub root_is : (c : Corner) → is_root c ≡ true → c ≡ root
root_is c e = same_sound c root e

-- gathering what is there changes nothing
pub add_known : (ns : List Corner) (x : Corner) → Memᴰ x ns → add same ns x ≡ ns
add_known ns x m = ⊎_elim (λ h. h.1) (λ h. absurd (true≢false (sym (mem→any same same_sound same_refl m) ∙ h.0))) (add_cases same ns x)

gather_known : (ns xs : List Corner) → ((x : Corner) → Memᴰ x xs → Memᴰ x ns) → gather same ns xs ≡ ns
gather_known ns [] f = refl
gather_known ns (x ∷ xs) f = rw (add_known ns x (f x (mathlib.Core.List.Memᴰ.head refl))) (gather_known ns xs (λ y m. f y (mathlib.Core.List.Memᴰ.tail m)))

module _ (ns : List Corner) (closed : (c : Corner) → Memᴰ c ns → is_root c ≡ false → Memᴰ (parent_of c) ns) where
  -- with a node the whole of its path is in use
  pub path_known : (c : Corner) → Memᴰ c ns → (x : Corner) → Memᴰ x (path_of c) → Memᴰ x ns
  path_known =
      tree_ind (λ c. Memᴰ c ns → (x : Corner) → Memᴰ x (path_of c) → Memᴰ x ns)
      (λ c e m x n. mathlib.Core.List.Memᴰ.cast (mathlib.Core.List.Memᴰ.eq_of_singleton (subst (λ l. Memᴰ x l) (path_of-root c e) n)) m)
      (λ c e ih m x n.
      ⊎_elim
      (ih (closed c m e) x)
      (λ k. mathlib.Core.List.Memᴰ.cast (mathlib.Core.List.Memᴰ.eq_of_singleton k) m)
      (mathlib.Core.List.Memᴰ.append_cases (path_of (parent_of c)) (subst (λ l. Memᴰ x l) (path_of_snoc c e) n)))

  pub nodes_known : (c : Corner) → Memᴰ c ns → gather same ns (path_of c) ≡ ns
  nodes_known c m = gather_known ns (path_of c) (path_known c m)

-- a node's path is gathered by that of its parent, and then the node
pub nodes_step : (ns : List Corner) (c : Corner) → is_root c ≡ false → gather same ns (path_of c) ≡ add same (gather same ns (path_of (parent_of c))) c
nodes_step ns c e = rw (path_of_snoc c e) (gather_append same ns (path_of (parent_of c)) (c ∷ []))

-- with a node its parent is on a path
pub path_parent : (c e : Corner) → is_root c ≡ false → Memᴰ c (path_of e) → Memᴰ (parent_of c) (path_of e)
path_parent c e h =
    tree_ind (λ e. Memᴰ c (path_of e) → Memᴰ (parent_of c) (path_of e))
    (λ e r k. absurd (true≢false (sym r ∙ ap is_root (sym (mathlib.Core.List.Memᴰ.eq_of_singleton (subst (λ l. Memᴰ c l) (path_of-root e r) k))) ∙ h)))
    (λ e r ih k.
    path_up e (parent_of c) r
    (⊎_elim ih (λ j. mathlib.Core.List.Memᴰ.cast (ap parent_of (mathlib.Core.List.Memᴰ.eq_of_singleton j)) (mem_path (parent_of e))) (mathlib.Core.List.Memᴰ.append_cases (path_of (parent_of e)) (subst (λ l. Memᴰ c l) (path_of_snoc e r) k))))
    e

pub gather_closed : (ns : List Corner) → ((c : Corner) → Memᴰ c ns → is_root c ≡ false → Memᴰ (parent_of c) ns) → (e : Corner)
    → (c : Corner) → Memᴰ c (gather same ns (path_of e)) → is_root c ≡ false → Memᴰ (parent_of c) (gather same ns (path_of e))
gather_closed ns f e c m h =
    ⊎_elim
    (λ k. mem-gather-left same same_sound same_refl ns (path_of e) (f c k h))
    (λ k. mem-gather-right same same_sound same_refl ns (path_of e) (path_parent c e h k))
    (mem-gather_cases same same_sound same_refl ns (path_of e) m)

-- a parent comes before its child: kept by a node more, and by a path
Closed : List Corner → Type 0
Closed ns = (c : Corner) → Memᴰ c ns → is_root c ≡ false → Memᴰ (parent_of c) ns

Ordered : List Corner → Type 0
Ordered ns = (c : Corner) → Memᴰ c ns → is_root c ≡ false → find (same (parent_of c)) ns < find (same c) ns

order_add : (ns : List Corner) → Closed ns → Ordered ns → (e : Corner) → (is_root e ≡ false → Memᴰ (parent_of e) ns) → Ordered (add same ns e)
unfolding Closed Ordered
order_add ns closed ord e f c m h =
    ⊎_elim
    (λ k. subst (λ l. find (same (parent_of c)) l < find (same c) l) (sym k.1) (ord c (subst (λ l. Memᴰ c l) k.1 m) h))
    (λ k. subst (λ l. find (same (parent_of c)) l < find (same c) l) (sym k.1) (new k.0 (mathlib.Core.List.Memᴰ.append_cases ns (subst (λ l. Memᴰ c l) k.1 m))))
    (add_cases same ns e)
  where
    kept : (x : Corner) → Memᴰ x ns → find (same x) (ns ++ (e ∷ [])) ≡ find (same x) ns
    kept x n = find-left (same x) ns (e ∷ []) (mem→any same same_sound same_refl n)

    new : any (same e) ns ≡ false → Memᴰ c ns ⊎ Memᴰ c (e ∷ []) → find (same (parent_of c)) (ns ++ (e ∷ [])) < find (same c) (ns ++ (e ∷ []))
    new z (inl n) = omega (arith, ord c n h, kept c n, kept (parent_of c) (closed c n h))
    new z (inr n) =
        let q : c ≡ e = mathlib.Core.List.Memᴰ.eq_of_singleton n in
        let u : Memᴰ (parent_of c) ns = mathlib.Core.List.Memᴰ.cast (ap parent_of q) (f (ap is_root (sym q) ∙ h)) in
        let w : find (same c) (ns ++ (e ∷ [])) ≡ suc (length ns) = ap (λ (x : Corner). find (same x) (ns ++ (e ∷ []))) q ∙ find_snoc (same e) ns e ∙ later_new (find (same e) ns) (same e e) (suc (length ns)) (find_none (same e) ns z) (same_refl e) in
        omega (arith, kept (parent_of c) u, w, find_le (same (parent_of c)) ns)

pub order_gather : (ns : List Corner) → ((c : Corner) → Memᴰ c ns → is_root c ≡ false → Memᴰ (parent_of c) ns) → ((c : Corner) → Memᴰ c ns → is_root c ≡ false → find (same (parent_of c)) ns < find (same c) ns) → (e : Corner)
    → (c : Corner) → Memᴰ c (gather same ns (path_of e)) → is_root c ≡ false → find (same (parent_of c)) (gather same ns (path_of e)) < find (same c) (gather same ns (path_of e))
unfolding Closed Ordered
order_gather ns closed ord =
    tree_ind (λ e. Ordered (gather same ns (path_of e)))
    (λ e r. subst (λ l. Ordered l) (sym (ap (gather same ns) (path_of-root e r))) (order_add ns closed ord e (λ h. absurd (true≢false (sym r ∙ h)))))
    (λ e r ih. subst (λ l. Ordered l) (sym (nodes_step ns e r)) (order_add (gather same ns (path_of (parent_of e))) (gather_closed ns closed (parent_of e)) ih e (λ h. mem-gather-right same same_sound same_refl ns (path_of (parent_of e)) (mem_path (parent_of e)))))

module _ (ns : List Corner) (L : Corner → Corner → ℕ) (good : WellLinked ns L) where
  pub root_known : Memᴰ root ns
  root_known = rw good.root.1 (mathlib.Core.List.Memᴰ.head refl)

  -- if a and e are linked, a pair that is a and e is linked, and if they are not, it is not
  joins-linked : (x y a e : Corner) → joins x y (a, e) ≡ true → L x y ≡ L a e
  joins-linked x y a e h = ⊎_elim (λ p. ap₂ L (sym p.0) (sym p.1)) (λ p. ap₂ L (sym p.1) (sym p.0) ∙ good.both e a) (joins_cases x y a e h)

  -- a link at one level implies those above it
  links-old : (x y : Corner) → (x ≡ y → ⊥) → (a e : Corner) → 0 < L a e → links x y (a, e) ≡ true → 0 < L x y
  links-old x y f =
      pair_ind (λ a e. 0 < L a e → links x y (a, e) ≡ true → 0 < L x y)
      (λ a e h p k. omega (arith, joins-linked x y a e (sym (links-left x y a e h) ∙ k)))
      (λ a e h p k. omega (arith, joins-linked x y a e (sym (links-right x y a e h) ∙ k)))
      (λ a e h i ih p k.
      ⊎_elim
      (λ j. omega (arith, joins-linked x y a e j))
      (λ j. ih (good.up a e p h i (λ q. true≢false (sym j ∙ ap (λ (c : Corner). links x y (c, parent_of e)) q ∙ links-same x y (parent_of e) f))) j)
      (or_cases (joins x y (a, e)) (links x y (parent_of a, parent_of e)) (sym (links_step x y a e h i) ∙ k)))

  module _ (s : ℕ) (a e : Corner) where
    -- 1. linked already: nothing changes
    pub known_nodes : 0 < L a e → gather same ns (path_of e) ≡ ns
    known_nodes h = nodes_known ns good.closed e (good.ends a e h).1

    pub known_links : 0 < L a e → (x y : Corner) → (x ≡ y → ⊥) → linked L s a e x y ≡ L x y
    known_links h x y f = go (links x y (a, e)) refl
      where
        go : (b : Bool) → links x y (a, e) ≡ b → linked L s a e x y ≡ L x y
        go true p = later-old (L x y) (links x y (a, e)) s (links-old x y f a e h p)
        go false p = later-none (L x y) (links x y (a, e)) s p

    -- the pair alone
    later-link_put : (M : Corner → Corner → ℕ) → ((x y : Corner) → M x y ≡ M y x) → M a e ≡ 0 → (x y : Corner) → later (M x y) (joins x y (a, e)) s ≡ link_put M s a e x y
    later-link_put M both z x y = go (joins x y (a, e)) refl
      where
        at : joins x y (a, e) ≡ true → M x y ≡ 0
        at j = ⊎_elim (λ p. ap₂ M (sym p.0) (sym p.1) ∙ z) (λ p. both x y ∙ ap₂ M (sym p.0) (sym p.1) ∙ z) (joins_cases x y a e j)

        go : (b : Bool) → joins x y (a, e) ≡ b → later (M x y) (joins x y (a, e)) s ≡ link_put M s a e x y
        go true p = later_new (M x y) (joins x y (a, e)) s (at p) p ∙ sym (rw (p, link_put))
        go false p = later-none (M x y) (joins x y (a, e)) s p ∙ sym (rw (p, link_put))

    -- 2. a is the root: its neighbour is its child
    pub left-links : L a e ≡ 0 → is_root a ≡ true → (x y : Corner) → linked L s a e x y ≡ link_put L s a e x y
    left-links z h x y = ap (λ (b : Bool). later (L x y) b s) (links-left x y a e h) ∙ later-link_put L good.both z x y

    -- 3. e is the root
    pub right_nodes : is_root e ≡ true → gather same ns (path_of e) ≡ ns
    right_nodes h = nodes_known ns good.closed e (mathlib.Core.List.Memᴰ.cast (root_is e h) root_known)

    pub right-links : L a e ≡ 0 → is_root e ≡ true → (x y : Corner) → linked L s a e x y ≡ link_put L s a e x y
    right-links z h x y = ap (λ (b : Bool). later (L x y) b s) (links-right x y a e h) ∙ later-link_put L good.both z x y

    -- 2. and 4. the parent of e is in use
    pub child_nodes : is_root e ≡ false → Memᴰ (parent_of e) ns → gather same ns (path_of e) ≡ add same ns e
    child_nodes h m = nodes_step ns e h ∙ ap (λ (l : List Corner). add same l e) (nodes_known ns good.closed (parent_of e) m)

    -- 5. first the parents
    pub above-none : L a e ≡ 0 → is_root a ≡ false → is_root e ≡ false → linked L s (parent_of a) (parent_of e) a e ≡ 0
    above-none z h k =
        later-none (L a e) (links a e (parent_of a, parent_of e)) s (far (links a e (parent_of a, parent_of e)) refl) ∙ z
      where
        far : (b : Bool) → links a e (parent_of a, parent_of e) ≡ b → links a e (parent_of a, parent_of e) ≡ false
        far true p = absurd (omega (arith, links_size a e (parent_of a) (parent_of e) p, size_of-parent_of a h, size_of-parent_of e k))
        far false p = p

    pub linked-both : (x y : Corner) → linked L s a e x y ≡ linked L s a e y x
    linked-both x y = ap₂ (λ (n : ℕ) (b : Bool). later n b s) (good.both x y) (links_flip x y a e)

module _ (ns : List Corner) (L : Corner → Corner → ℕ) (good : WellLinked ns L) (s : ℕ) (a e : Corner) where
  -- 5. first the parents, then the pair
  pub above-links : L a e ≡ 0 → is_root a ≡ false → is_root e ≡ false → (x y : Corner) → linked L s a e x y ≡ link_put (linked L s (parent_of a) (parent_of e)) s a e x y
  above-links z h k x y =
      ap (λ (b : Bool). later (L x y) b s) (links_step x y a e h k)
      ∙ later_or (L x y) (joins x y (a, e)) (links x y (parent_of a, parent_of e)) s
      ∙ later-link_put ns L good s a e (linked L s (parent_of a) (parent_of e)) (linked-both ns L good s (parent_of a) (parent_of e)) (above-none ns L good s a e z h k) x y

  -- 4. one parent: nothing above
  pub sibling_links : L a e ≡ 0 → is_root a ≡ false → is_root e ≡ false → parent_of a ≡ parent_of e → (x y : Corner) → (x ≡ y → ⊥) → linked L s a e x y ≡ link_put L s a e x y
  sibling_links z h k p x y f =
      ap (λ (b : Bool). later (L x y) b s) (links_step x y a e h k ∙ ap (λ (b : Bool). joins x y (a, e) || b) none ∙ or_nothing (joins x y (a, e)))
      ∙ later-link_put ns L good s a e L good.both z x y
    where
      none : links x y (parent_of a, parent_of e) ≡ false
      none = ap (λ (c : Corner). links x y (c, parent_of e)) p ∙ links-same x y (parent_of e) f

      or_nothing : (b : Bool) → (b || false) ≡ b
      or_nothing true = refl
      or_nothing false = refl

  -- the invariant after a lookup
  pub good_linked : Memᴰ a ns → WellLinked (gather same ns (path_of e)) (linked L s a e)
  good_linked m = record {
    root = let g = gather-more same ns (path_of e) in (good.root.0 ++ g.0, g.1 ∙ ap (λ (l : List Corner). l ++ g.0) good.root.1);
    closed = gather_closed ns good.closed e;
    distinct = distinct_gather same same_sound same_refl ns (path_of e) good.distinct;
    order = order_gather ns good.closed good.order e;
    ends = λ x y h.
        ⊎_elim
        (λ k. let p = good.ends x y k in (old x p.0, old y p.1))
        (λ k. ⊎_elim (λ p. (old x (path_known ns good.closed a m x p.0), new y p.1)) (λ p. (new x p.1, old y (path_known ns good.closed a m y p.0))) (links-ends x y a e k))
        (later_pos (L x y) (links x y (a, e)) s h);
    both = linked-both ns L good s a e;
    up = λ x y h i j f. rise x y h i j f (L x y) refl (links x y (a, e)) refl;
  }
    where
      old : (x : Corner) → Memᴰ x ns → Memᴰ x (gather same ns (path_of e))
      old x k = mem-gather-left same same_sound same_refl ns (path_of e) k

      new : (x : Corner) → Memᴰ x (path_of e) → Memᴰ x (gather same ns (path_of e))
      new x k = mem-gather-right same same_sound same_refl ns (path_of e) k

      more : (n : ℕ) (b : Bool) (t : ℕ) → 0 < n → 0 < later n b t
      more n b t h = omega (arith, later-old n b t h)

      rise : (x y : Corner) → 0 < linked L s a e x y → is_root x ≡ false → is_root y ≡ false → (parent_of x ≡ parent_of y → ⊥) → (n : ℕ) → L x y ≡ n → (b : Bool) → links x y (a, e) ≡ b → 0 < linked L s a e (parent_of x) (parent_of y)
      rise x y h i j f zero p true q =
          let t : 0 < s = omega (arith, later_new (L x y) (links x y (a, e)) s p q) in
          fill (L (parent_of x) (parent_of y)) (links (parent_of x) (parent_of y) (a, e)) t (links-up x y a e i j q)
        where
          fill : (n : ℕ) (b : Bool) → 0 < s → b ≡ true → 0 < later n b s
          fill zero b t k = rw k t
          fill (suc n) b t k = omega arith
      rise x y h i j f zero p false q = absurd (omega (arith, later-none (L x y) (links x y (a, e)) s q))
      rise x y h i j f (suc n) p b q = more (L (parent_of x) (parent_of y)) (links (parent_of x) (parent_of y) (a, e)) s (good.up x y (omega arith) i j f)

-- How many nodes a walk needs: with the different corners V of a walk from the origin, the nodes are at most 4 V - 3.
-- A step keeps the parent or the class, so a new corner brings a new parent or a new class, and not both:
-- parents + classes ≤ V + 1. A class has at most four corners, and the origin's has one: V + 3 ≤ 4 classes.
-- Assumes nothing.
use mathlib.Core.Bool.{Bool, true, false, true≢false}
use mathlib.Core.List.{List, [], ◌∷◌, ◌++◌, map, Memᴰ}
use mathlib.Core.Logic.{◌⊎◌, inl, inr, ⊎_map, ⊎_elim}
use mathlib.Core.Path.{◌≡◌, refl, ap, sym, ◌∙◌, subst}
use Prim.Native.Nat.{ℕ, zero, suc, ◌+◌, ◌*◌, ◌≤◌}
use native.Mathlib.Nat.{pow-suc}
use native.Mathlib.Omega.{arith}
use lib.ListN.{length, length-append}
use Rattle.grid.specs.declared.Corner.{Corner}
use Rattle.grid.specs.Grid.{origin, same, stepped, later_from, corners_from}
use Rattle.grid.specs.Tree.{root, parent_of, is_root, size_of, path_of, WithinLevels}
use Rattle.lists.specs.Lists.{add, gather}
use Rattle.trace.specs.Meeting.{visited_of}
use Rattle.tree.specs.Nodes.{paths_of, nodes_of}
use Rattle.grid.proofs.CornerLaws.{same_refl, same_sound}
use Rattle.grid.proofs.PathLaws.{path_of-root, path_of_snoc, nat_abs-half_of, root_of_size}
use Rattle.lists.proofs.GatherLaws.{Distinct, gather-more, add_cases, distinct_gather, mem-add, mem-add_cases, mem-gather-left, mem-gather-right, mem-gather_cases, any→mem}
use Rattle.lists.proofs.PigeonLaws.{pigeon}
use Rattle.tree.proofs.LinkLaws.{Near, near_parent}
use Rattle.tree.proofs.NodeLaws.{mem_paths, mem_paths_cases}
use Rattle.tree_laws.proofs.ClassLaws.{class, step_class, members, in_members}
use Rattle.tree_laws.proofs.LevelLaws.{root_is, add_known}

-- each corner is at, or one step from, the one before it
abbrev Trail : Corner → List Corner → Type 0
Trail p [] = Unit {0}
Trail p (q ∷ qs) = ((d : ℕ) × Near d p q) × Trail q qs

trail_parent : (p : Corner) (qs : List Corner) → Trail p qs → Trail (parent_of p) (map parent_of qs)
trail_parent p [] t = tt
trail_parent p (q ∷ qs) t = ((t.0.0, near_parent t.0.0 p q t.0.1), trail_parent q qs t.1)

near-class : (d : ℕ) (p q : Corner) → Near d p q → (parent_of q ≡ parent_of p) ⊎ (class q ≡ class p)
near-class d p q (inl e) = inl (ap parent_of e)
near-class d p q (inr e) = ⊎_map (λ h. ap parent_of e ∙ h) (λ h. ap class e ∙ h) (step_class d p)

-- adding what is there changes nothing; adding anything adds at most one
add-length : (s : List Corner) (x : Corner) → length (add same s x) ≤ length s + 1
add-length s x = ⊎_elim (λ h. rw h.1 (omega arith)) (λ h. rw h.1 (omega (arith, length-append s (x ∷ [])))) (add_cases same s x)

-- visited corners vs, the last of them p, their parents us and their classes ks
record Count (p : Corner) (vs us ks : List Corner) : Type 0 where
  here : Memᴰ p vs
  parents : (v : Corner) → Memᴰ v vs → Memᴰ (parent_of v) us
  classes : (v : Corner) → Memᴰ v vs → Memᴰ (class v) ks
  few : length us + length ks ≤ length vs + 1

count_few : (p q : Corner) (vs us ks : List Corner) → Count p vs us ks → (d : ℕ) × Near d p q
    → length (add same us (parent_of q)) + length (add same ks (class q)) ≤ length (add same vs q) + 1
count_few p q vs us ks c n =
    ⊎_elim
    (λ h.
    let m : Memᴰ q vs = any→mem same same_sound same_refl q vs h.0 in
    omega (arith, c.few, ap length h.1, ap length (add_known us (parent_of q) (c.parents q m)), ap length (add_known ks (class q) (c.classes q m))))
    (λ h.
    let l : length (add same vs q) ≡ length vs + 1 = ap length h.1 ∙ length-append vs (q ∷ []) in
    ⊎_elim
    (λ e. omega (arith, c.few, ap length (add_known us (parent_of q) (mathlib.Core.List.Memᴰ.cast e (c.parents p c.here))), add-length ks (class q)))
    (λ e. omega (arith, c.few, ap length (add_known ks (class q) (mathlib.Core.List.Memᴰ.cast e (c.classes p c.here))), add-length us (parent_of q)))
    (near-class n.0 p q n.1))
    (add_cases same vs q)

count_step : (p q : Corner) (vs us ks : List Corner) → Count p vs us ks → (d : ℕ) × Near d p q → Count q (add same vs q) (add same us (parent_of q)) (add same ks (class q))
count_step p q vs us ks c n = record {
  here = mem-add same same_sound same_refl vs q;
  parents = λ v m. ⊎_elim
      (λ k. mem-gather-left same same_sound same_refl us (parent_of q ∷ []) (c.parents v k))
      (λ e. mathlib.Core.List.Memᴰ.cast (ap parent_of e) (mem-add same same_sound same_refl us (parent_of q)))
      (mem-add_cases same same_sound same_refl vs q m);
  classes = λ v m. ⊎_elim
      (λ k. mem-gather-left same same_sound same_refl ks (class q ∷ []) (c.classes v k))
      (λ e. mathlib.Core.List.Memᴰ.cast (ap class e) (mem-add same same_sound same_refl ks (class q)))
      (mem-add_cases same same_sound same_refl vs q m);
  few = count_few p q vs us ks c n;
}

count-trail : (p : Corner) (qs vs us ks : List Corner) → Count p vs us ks → Trail p qs
    → (z : Corner) × Count z (gather same vs qs) (gather same us (map parent_of qs)) (gather same ks (map class qs))
count-trail p [] vs us ks c t = (p, c)
count-trail p (q ∷ qs) vs us ks c t =
    count-trail q qs (add same vs q) (add same us (parent_of q)) (add same ks (class q)) (count_step p q vs us ks c t.0) t.1

-- the corners of a list of classes
spread : List Corner → List Corner
spread [] = []
spread (k ∷ ks) = members k ++ spread ks

length-spread : (ks : List Corner) → length (spread ks) ≡ 4 * length ks
unfolding spread
length-spread [] = refl
length-spread (k ∷ ks) = omega (arith, length-append (members k) (spread ks), length-spread ks)

mem-spread : (ks : List Corner) (c : Corner) → Memᴰ (class c) ks → Memᴰ c (spread ks)
unfolding spread
mem-spread [] c m = elim m [ ]
mem-spread (k ∷ ks) c (mathlib.Core.List.Memᴰ.head e) = mathlib.Core.List.Memᴰ.append_left (spread ks) (subst (λ x. Memᴰ c (members x)) e (in_members c))
mem-spread (k ∷ ks) c (mathlib.Core.List.Memᴰ.tail m) = mathlib.Core.List.Memᴰ.append_right (members k) (mem-spread ks c m)

-- any walk: V ≤ 4 classes
corners_classes : (vs ks : List Corner) → Distinct vs → ((v : Corner) → Memᴰ v vs → Memᴰ (class v) ks) → length vs ≤ 4 * length ks
corners_classes vs ks d f = omega (arith, pigeon vs (spread ks) d (λ v m. mem-spread ks v (f v m)), length-spread ks)

class-origin : (c : Corner) → class c ≡ origin → c ≡ origin
class-origin c e = go (subst (λ x. Memᴰ c (members x)) e (in_members c))
  where
    go : Memᴰ c (members origin) → c ≡ origin
    go (mathlib.Core.List.Memᴰ.head f) = f
    go (mathlib.Core.List.Memᴰ.tail (mathlib.Core.List.Memᴰ.head f)) = f
    go (mathlib.Core.List.Memᴰ.tail (mathlib.Core.List.Memᴰ.tail (mathlib.Core.List.Memᴰ.head f))) = f
    go (mathlib.Core.List.Memᴰ.tail (mathlib.Core.List.Memᴰ.tail (mathlib.Core.List.Memᴰ.tail (mathlib.Core.List.Memᴰ.head f)))) = f
    go (mathlib.Core.List.Memᴰ.tail (mathlib.Core.List.Memᴰ.tail (mathlib.Core.List.Memᴰ.tail (mathlib.Core.List.Memᴰ.tail f)))) = absurd (mathlib.Core.List.Memᴰ.not-nil f)

-- a walk from the origin: V + 3 ≤ 4 classes
corners_classes_origin : (vs r : List Corner) → Distinct vs → ((v : Corner) → Memᴰ v vs → Memᴰ (class v) (origin ∷ r)) → length vs ≤ 1 + 4 * length r
corners_classes_origin vs r d f =
    omega (arith, pigeon vs (origin ∷ spread r) d (λ v m. ⊎_elim (λ e. mathlib.Core.List.Memᴰ.head (class-origin v e)) (λ k. mathlib.Core.List.Memᴰ.tail (mem-spread r v k)) (mathlib.Core.List.Memᴰ.cases_cons (f v m))), length-spread r)

start : Count origin (origin ∷ []) (origin ∷ []) (origin ∷ [])
start = record {
  here = mathlib.Core.List.Memᴰ.head refl;
  parents = λ v m. mathlib.Core.List.Memᴰ.head (ap parent_of (mathlib.Core.List.Memᴰ.eq_of_singleton m));
  classes = λ v m. mathlib.Core.List.Memᴰ.head (ap class (mathlib.Core.List.Memᴰ.eq_of_singleton m));
  few = omega arith;
}

distinct_one : (c : Corner) → Distinct (c ∷ [])
distinct_one c = (mathlib.Core.List.Memᴰ.not-nil, tt)

-- the parents of a walk from the origin: 4 P ≤ 3 V + 1, the origin counted on both sides
shrink : (qs : List Corner) → Trail origin qs → 4 * length (gather same (origin ∷ []) (map parent_of qs)) ≤ 3 * length (gather same (origin ∷ []) qs) + 1
shrink qs t =
    let h = count-trail origin qs (origin ∷ []) (origin ∷ []) (origin ∷ []) start t in
    let g = gather-more same (origin ∷ []) (map class qs) in
    let b : length (gather same (origin ∷ []) qs) ≤ 1 + 4 * length g.0 = corners_classes_origin (gather same (origin ∷ []) qs) g.0 (distinct_gather same same_sound same_refl (origin ∷ []) qs (distinct_one origin)) (λ v m. subst (λ l. Memᴰ (class v) l) g.1 (h.1.classes v m)) in
    omega (arith, b, h.1.few, ap length g.1)

-- a list that holds every node of a walk from the origin
record Cover (qs : List Corner) : Type 0 where
  list : List Corner
  holds : (a : Corner) → Memᴰ a (paths_of (origin ∷ qs)) → Memᴰ a list
  short : length list + 3 ≤ 4 * length (gather same (origin ∷ []) qs)

path_root : (p a : Corner) → is_root p ≡ true → Memᴰ a (path_of p) → a ≡ root
path_root p a e m = mathlib.Core.List.Memᴰ.eq_of_singleton (subst (λ l. Memᴰ a l) (path_of-root p e) m) ∙ root_is p e

size_half : (c : Corner) (n : ℕ) → size_of c ≤ suc n → size_of (parent_of c) ≤ n
size_half c n h = omega (arith, nat_abs-half_of c.0, nat_abs-half_of c.1)

cover_holds : (qs g cs : List Corner) → gather same (origin ∷ []) qs ≡ origin ∷ g → ((a : Corner) → Memᴰ a (paths_of (origin ∷ map parent_of qs)) → Memᴰ a cs)
    → (a : Corner) → Memᴰ a (paths_of (origin ∷ qs)) → Memᴰ a (g ++ cs)
cover_holds qs g cs e f a m =
    let h = mem_paths_cases (origin ∷ qs) m in
    go h.0 h.1 h.2 (is_root h.0) refl
  where
    go : (p : Corner) → Memᴰ p (origin ∷ qs) → Memᴰ a (path_of p) → (b : Bool) → is_root p ≡ b → Memᴰ a (g ++ cs)
    go p n k true r = mathlib.Core.List.Memᴰ.append_right g (f a (mem_paths (origin ∷ map parent_of qs) (mathlib.Core.List.Memᴰ.head refl) (mathlib.Core.List.Memᴰ.head (path_root p a r k))))
    go p n k false r =
        ⊎_elim
        (λ u. mathlib.Core.List.Memᴰ.append_right g (f a (mem_paths (origin ∷ map parent_of qs) (mathlib.Core.List.Memᴰ.map parent_of n) u)))
        (λ u. ⊎_elim
        (λ v. absurd (true≢false (ap is_root (sym v) ∙ r)))
        (λ v. mathlib.Core.List.Memᴰ.append_left cs (mathlib.Core.List.Memᴰ.cast (mathlib.Core.List.Memᴰ.eq_of_singleton u) v))
        (mathlib.Core.List.Memᴰ.cases_cons (subst (λ l. Memᴰ p l) e (mem-gather-right same same_sound same_refl [] (origin ∷ qs) n))))
        (mathlib.Core.List.Memᴰ.append_cases (path_of (parent_of p)) (subst (λ l. Memᴰ a l) (path_of_snoc p r) k))

cover : (n : ℕ) (qs : List Corner) → Trail origin qs → ((q : Corner) → Memᴰ q (origin ∷ qs) → size_of q ≤ n) → Cover qs
cover zero qs t b =
    let g = gather-more same (origin ∷ []) qs in
    record {
      list = root ∷ [];
      holds = λ a m.
          let h = mem_paths_cases (origin ∷ qs) m in
          mathlib.Core.List.Memᴰ.head (path_root h.0 a (root_of_size h.0 (omega (arith, b h.0 h.1))) h.2);
      short = omega (arith, ap length g.1);
    }
cover (suc n) qs t b =
    let g = gather-more same (origin ∷ []) qs in
    let up : Cover (map parent_of qs) = cover n (map parent_of qs) (trail_parent origin qs t) (λ q m. let h = mathlib.Core.List.Memᴰ.of_map parent_of (origin ∷ qs) m in subst (λ x. size_of x ≤ n) h.2 (size_half h.0 n (b h.0 h.1))) in
    record {
      list = g.0 ++ up.list;
      holds = cover_holds qs g.0 up.list g.1 up.holds;
      short = omega (arith, ap length g.1, length-append g.0 up.list, up.short, shrink qs t);
    }

bound : (qs : List Corner) → (n : ℕ) × ((q : Corner) → Memᴰ q qs → size_of q ≤ n)
bound [] = (0, λ q m. absurd (mathlib.Core.List.Memᴰ.not-nil m))
bound (p ∷ qs) =
    let h = bound qs in
    (size_of p + h.0, λ q m. ⊎_elim (λ e. subst (λ x. size_of x ≤ size_of p + h.0) (sym e) (omega arith)) (λ k. omega (arith, h.1 q k)) (mathlib.Core.List.Memᴰ.cases_cons m))

trail-later : (c : Corner) (ds : List ℕ) → Trail c (later_from c ds)
trail-later c [] = tt
trail-later c (d ∷ ds) = ((d, inr refl), trail-later (stepped d c) ds)

trail_few : (qs : List Corner) → Trail origin qs → length (nodes_of (origin ∷ qs)) + 3 ≤ 4 * length (visited_of (origin ∷ qs))
trail_few qs t =
    let b = bound (origin ∷ qs) in
    let c : Cover qs = cover b.0 qs t b.1 in
    omega (
      arith,
      c.short,
      pigeon (nodes_of (origin ∷ qs)) c.list (distinct_gather same same_sound same_refl [] (paths_of (origin ∷ qs)) tt)
          (λ a m. c.holds a (⊎_elim (λ k. absurd (mathlib.Core.List.Memᴰ.not-nil k)) (λ k. k) (mem-gather_cases same same_sound same_refl [] (paths_of (origin ∷ qs)) m))),
    )

-- the nodes of a walk from the origin
pub few_nodes : (ds : List ℕ) → length (nodes_of (corners_from origin ds)) + 3 ≤ 4 * length (visited_of (corners_from origin ds))
few_nodes ds = trail_few (later_from origin ds) (trail-later origin ds)

-- Any start: with coordinates below 2 ^ n in magnitude, the nodes are at most 4 V + 4 n.
start-at : (c : Corner) → Count c (c ∷ []) (parent_of c ∷ []) (class c ∷ [])
start-at c = record {
  here = mathlib.Core.List.Memᴰ.head refl;
  parents = λ v m. mathlib.Core.List.Memᴰ.head (ap parent_of (mathlib.Core.List.Memᴰ.eq_of_singleton m));
  classes = λ v m. mathlib.Core.List.Memᴰ.head (ap class (mathlib.Core.List.Memᴰ.eq_of_singleton m));
  few = omega arith;
}

shrink_at : (c : Corner) (qs : List Corner) → Trail c qs → 4 * length (gather same (parent_of c ∷ []) (map parent_of qs)) ≤ 3 * length (gather same (c ∷ []) qs) + 4
shrink_at c qs t =
    let h = count-trail c qs (c ∷ []) (parent_of c ∷ []) (class c ∷ []) (start-at c) t in
    omega (arith, h.1.few, corners_classes (gather same (c ∷ []) qs) (gather same (class c ∷ []) (map class qs)) (distinct_gather same same_sound same_refl (c ∷ []) qs (distinct_one c)) h.1.classes)

pub within_parent : (n : ℕ) (c : Corner) → WithinLevels (suc n) c → WithinLevels n (parent_of c)
within_parent n c w = record {
  x = omega (arith, nat_abs-half_of c.0, w.x, pow-suc 2 n);
  y = omega (arith, nat_abs-half_of c.1, w.y, pow-suc 2 n);
}

record CoverAt (n : ℕ) (c : Corner) (qs : List Corner) : Type 0 where
  list : List Corner
  holds : (a : Corner) → Memᴰ a (paths_of (c ∷ qs)) → Memᴰ a list
  short : length list ≤ 4 * length (gather same (c ∷ []) qs) + 4 * n

cover_at_holds : (c : Corner) (qs cs : List Corner) → ((a : Corner) → Memᴰ a (paths_of (parent_of c ∷ map parent_of qs)) → Memᴰ a cs)
    → (a : Corner) → Memᴰ a (paths_of (c ∷ qs)) → Memᴰ a (gather same (c ∷ []) qs ++ cs)
cover_at_holds c qs cs f a m =
    let h = mem_paths_cases (c ∷ qs) m in
    go h.0 h.1 h.2 (is_root h.0) refl
  where
    seen : (p : Corner) → Memᴰ p (c ∷ qs) → a ≡ p → Memᴰ a (gather same (c ∷ []) qs ++ cs)
    seen p n e = mathlib.Core.List.Memᴰ.append_left cs (mathlib.Core.List.Memᴰ.cast e (mem-gather-right same same_sound same_refl [] (c ∷ qs) n))

    go : (p : Corner) → Memᴰ p (c ∷ qs) → Memᴰ a (path_of p) → (b : Bool) → is_root p ≡ b → Memᴰ a (gather same (c ∷ []) qs ++ cs)
    go p n k true r = seen p n (mathlib.Core.List.Memᴰ.eq_of_singleton (subst (λ l. Memᴰ a l) (path_of-root p r) k))
    go p n k false r =
        ⊎_elim
        (λ u. mathlib.Core.List.Memᴰ.append_right (gather same (c ∷ []) qs) (f a (mem_paths (parent_of c ∷ map parent_of qs) (mathlib.Core.List.Memᴰ.map parent_of n) u)))
        (λ u. seen p n (mathlib.Core.List.Memᴰ.eq_of_singleton u))
        (mathlib.Core.List.Memᴰ.append_cases (path_of (parent_of p)) (subst (λ l. Memᴰ a l) (path_of_snoc p r) k))

cover_at : (n : ℕ) (c : Corner) (qs : List Corner) → Trail c qs → ((q : Corner) → Memᴰ q (c ∷ qs) → WithinLevels n q) → CoverAt n c qs
cover_at zero c qs t b =
    let g = gather-more same (c ∷ []) qs in
    record {
      list = root ∷ [];
      holds = λ a m.
          let h = mem_paths_cases (c ∷ qs) m in
          let w = b h.0 h.1 in
          mathlib.Core.List.Memᴰ.head (path_root h.0 a (root_of_size h.0 (omega (arith, w.x, w.y))) h.2);
      short = omega (arith, ap length g.1);
    }
cover_at (suc n) c qs t b =
    let up : CoverAt n (parent_of c) (map parent_of qs) = cover_at n (parent_of c) (map parent_of qs) (trail_parent c qs t) (λ q m. let h = mathlib.Core.List.Memᴰ.of_map parent_of (c ∷ qs) m in subst (λ x. WithinLevels n x) h.2 (within_parent n h.0 (b h.0 h.1))) in
    record {
      list = gather same (c ∷ []) qs ++ up.list;
      holds = cover_at_holds c qs up.list up.holds;
      short = omega (arith, length-append (gather same (c ∷ []) qs) up.list, up.short, shrink_at c qs t);
    }

pub few_nodes_from : (n : ℕ) (c : Corner) (ds : List ℕ) → ((q : Corner) → Memᴰ q (corners_from c ds) → WithinLevels n q) → length (nodes_of (corners_from c ds)) ≤ 4 * length (visited_of (corners_from c ds)) + 4 * n
few_nodes_from n c ds b =
    let k : CoverAt n c (later_from c ds) = cover_at n c (later_from c ds) (trail-later c ds) b in
    omega (
      arith,
      k.short,
      pigeon (nodes_of (corners_from c ds)) k.list (distinct_gather same same_sound same_refl [] (paths_of (corners_from c ds)) tt)
          (λ a m. k.holds a (⊎_elim (λ u. absurd (mathlib.Core.List.Memᴰ.not-nil u)) (λ u. u) (mem-gather_cases same same_sound same_refl [] (paths_of (corners_from c ds)) m))),
    )

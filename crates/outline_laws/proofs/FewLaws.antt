-- The outline's edges: each was walked, none is taken twice in one direction, so that there are at most two for each different
-- edge of the walk. Assumes nothing.
use mathlib.Core.Bool.{Bool, true, ◌||◌}
use mathlib.Core.List.Memᴰ
use mathlib.Core.List.{List, [], ◌∷◌, Memᴰ}
use mathlib.Core.Logic.{inl, inr, ⊎_elim}
use mathlib.Core.Path.{◌≡◌, refl, ap, ap₂, sym, ◌∙◌, subst}
use Prim.Native.Nat.{ℕ, suc, ◌<◌, ◌≤◌, ◌*◌}
use native.Mathlib.Omega.{arith}
use lib.ListN.{length}
use Rattle.lists.specs.Lists.{Distinct, Below, any, add, gather}
use Rattle.lists.proofs.FindLaws.{any_append, any-mem, any_some}
use Rattle.lists.proofs.GatherLaws.{add_cases, or_right}
use Rattle.lists.proofs.PigeonLaws.{pigeon}
use Rattle.grid.specs.declared.Corner.{Corner}
use Rattle.grid.specs.Grid.{stepped, legs_from}
use Rattle.grid.proofs.JoinLaws.{joins_pair, joins_here}
use Rattle.grid.proofs.StepLaws.{stepped_inj}
use Rattle.outline.specs.Outline.{home_of, OutlineIs}
use Rattle.outline_laws.specs.Different.{same_edge, different}
use Rattle.outline_laws.proofs.EdgeLaws.{Way, Edge, walked_edge}
use Rattle.outline_laws.proofs.OutlineLaws.{ways_of, outline_ways, outline_once_way, outline_below}

-- an edge of a list of steps belongs to one of its ways
pub edge_of : (p : Corner) (es : List ℕ) (e : Corner × Corner) → Memᴰ e (legs_from p es) → (y : Way) × Memᴰ y (ways_of p es) × (e ≡ (y.0, stepped y.1 y.0))
edge_of p [] e m = absurd (Memᴰ.not-nil m)
edge_of p (d ∷ es) e m =
    ⊎_elim
    (λ g. ((p, d), Memᴰ.head refl, g))
    (λ t. let h = edge_of (stepped d p) es e t in (h.0, Memᴰ.tail h.1, h.2))
    (Memᴰ.cases_cons m)

pub ways_below : (p : Corner) (es : List ℕ) → Below 4 es → (y : Way) → Memᴰ y (ways_of p es) → y.1 < 4
ways_below p [] b y m = absurd (Memᴰ.not-nil m)
ways_below p (d ∷ es) b y m = ⊎_elim (λ e. omega (arith, ap (λ (z : Way). z.1) e, b.0)) (λ t. ways_below (stepped d p) es b.1 y t) (Memᴰ.cases_cons m)

edges_once : (p : Corner) (es : List ℕ) → Below 4 es → Distinct (ways_of p es) → Distinct (legs_from p es)
edges_once p [] b u = tt
edges_once p (d ∷ es) b u = (new, edges_once (stepped d p) es b.1 u.1)
  where
    new : Memᴰ (p, stepped d p) (legs_from (stepped d p) es) → ⊥
    new m =
        let h = edge_of (stepped d p) es (p, stepped d p) m in
        let q : h.0.0 ≡ p = sym (ap (λ (e : Corner × Corner). e.0) h.2) in
        let k : h.0.1 ≡ d = stepped_inj h.0.1 d p (ways_below (stepped d p) es b.1 h.0 h.1) b.0 (ap (stepped h.0.1) (sym q) ∙ sym (ap (λ (e : Corner × Corner). e.1) h.2)) in
        u.0 (subst (λ (y : Way). Memᴰ y (ways_of (stepped d p) es)) (ap₂ (λ (a : Corner) (x : ℕ). (a, x)) q k) h.1)

-- each step of the outline goes along an edge that was walked, one way or the other
pub outline_walked : {c : Corner} {ds es : List ℕ} → OutlineIs c ds es → (p q : Corner) → Memᴰ (p, q) (legs_from (home_of c ds) es) → Edge c ds p q
outline_walked {c} {ds} {es} o p q m =
    let h = edge_of (home_of c ds) es (p, q) m in
    subst (λ (e : Corner × Corner). Edge c ds e.0 e.1) (sym h.2) (walked_edge c ds h.0.0 h.0.1 (outline_ways o h.0 h.1).1)

-- none is taken twice in one direction
pub outline_once : {c : Corner} {ds es : List ℕ} → OutlineIs c ds es → Distinct (legs_from (home_of c ds) es)
outline_once {c} {ds} {es} o = edges_once (home_of c ds) es (outline_below o) (outline_once_way o)

-- ---- the different edges

-- both senses of each edge
abbrev both_ways : List (Corner × Corner) → List (Corner × Corner)
both_ways [] = []
both_ways (e ∷ l) = e ∷ (e.1, e.0) ∷ both_ways l

length_both : (l : List (Corner × Corner)) → length (both_ways l) ≡ 2 * length l
length_both [] = refl
length_both (e ∷ l) = omega (arith, length_both l)

both-there : (l : List (Corner × Corner)) (p q : Corner) → Memᴰ (p, q) l → Memᴰ (p, q) (both_ways l) × Memᴰ (q, p) (both_ways l)
both-there [] p q m = absurd (Memᴰ.not-nil m)
both-there (e ∷ l) p q m =
    ⊎_elim
    (λ h. (Memᴰ.head h, Memᴰ.tail (Memᴰ.head (ap (λ (x : Corner × Corner). (x.1, x.0)) h))))
    (λ t. let k = both-there l p q t in (Memᴰ.tail (Memᴰ.tail k.0), Memᴰ.tail (Memᴰ.tail k.1)))
    (Memᴰ.cases_cons m)

-- what is gathered holds the like of each element
module _ {A : Type 0} (eq : A → A → Bool) (equal : (x : A) → eq x x ≡ true) where
  add_keeps : (seen : List A) (x e : A) → any (eq e) seen ≡ true → any (eq e) (add eq seen x) ≡ true
  add_keeps seen x e h =
      ⊎_elim
      (λ k. ap (any (eq e)) k.1 ∙ h)
      (λ k. ap (any (eq e)) k.1 ∙ any_append (eq e) seen (x ∷ []) ∙ ap (λ (b : Bool). b || any (eq e) (x ∷ [])) h)
      (add_cases eq seen x)

  add_has : (seen : List A) (x : A) → any (eq x) (add eq seen x) ≡ true
  add_has seen x =
      ⊎_elim
      (λ k. ap (any (eq x)) k.1 ∙ k.0)
      (λ k. ap (any (eq x)) k.1 ∙ any_append (eq x) seen (x ∷ []) ∙ or_right (any (eq x) seen) (any-mem (eq x) x (x ∷ []) (Memᴰ.head refl) (equal x)))
      (add_cases eq seen x)

  gather_keeps : (seen xs : List A) (e : A) → any (eq e) seen ≡ true → any (eq e) (gather eq seen xs) ≡ true
  gather_keeps seen [] e h = h
  gather_keeps seen (x ∷ xs) e h = gather_keeps (add eq seen x) xs e (add_keeps seen x e h)

  gather_has : (seen xs : List A) (e : A) → Memᴰ e xs → any (eq e) (gather eq seen xs) ≡ true
  gather_has seen [] e m = absurd (Memᴰ.not-nil m)
  gather_has seen (x ∷ xs) e m =
      ⊎_elim
      (λ z. gather_keeps (add eq seen x) xs e (subst (λ (y : A). any (eq e) (add eq seen y) ≡ true) z (add_has seen e)))
      (λ t. gather_has (add eq seen x) xs e t)
      (Memᴰ.cases_cons m)

module _ (c : Corner) (ds : List ℕ) where
  listed : (p q : Corner) → Memᴰ (p, q) (legs_from c ds) → Memᴰ (p, q) (both_ways (different c ds)) × Memᴰ (q, p) (both_ways (different c ds))
  listed p q m =
      let s = any_some (same_edge (p, q)) (different c ds) (gather_has same_edge (λ e. joins_here e.0 e.1) [] (legs_from c ds) (p, q) m) in
      ⊎_elim
      (λ e. both-there (different c ds) p q (subst (λ (x : Corner × Corner). Memᴰ x (different c ds)) e s.1))
      (λ e. let k = both-there (different c ds) q p (subst (λ (x : Corner × Corner). Memᴰ x (different c ds)) e s.1) in (k.1, k.0))
      (joins_pair p q s.0 s.2)

  all_listed : (p q : Corner) → Edge c ds p q → Memᴰ (p, q) (both_ways (different c ds))
  all_listed p q (inl m) = (listed p q m).0
  all_listed p q (inr m) = (listed q p m).1

length_edges : (p : Corner) (es : List ℕ) → length (legs_from p es) ≡ length es
length_edges p [] = refl
length_edges p (d ∷ es) = ap suc (length_edges (stepped d p) es)

-- at most two steps for each different edge of the walk
pub outline_few : {c : Corner} {ds es : List ℕ} → OutlineIs c ds es → length es ≤ 2 * length (different c ds)
outline_few {c} {ds} {es} o =
    omega (arith, length_edges (home_of c ds) es, length_both (different c ds), pigeon (legs_from (home_of c ds) es) (both_ways (different c ds)) (outline_once o) (λ e m. all_listed c ds e.0 e.1 (outline_walked o e.0 e.1 m)))

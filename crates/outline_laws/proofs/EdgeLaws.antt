-- Walked edges as pairs of corners, and the finitely many ways along them.
-- Assumes nothing.
use mathlib.Core.Bool.{Bool, true, ◌&&◌}
use mathlib.Core.List.Memᴰ
use mathlib.Core.List.{List, [], ◌∷◌, Memᴰ}
use mathlib.Core.Logic.{◌⊎◌, inl, inr, ⊎_elim, ⊎_map}
use mathlib.Core.Path.{◌≡◌, refl, ap, ap₂, sym, ◌∙◌, subst}
use Prim.Native.Nat.{ℕ, zero, suc, ◌*◌, ◌<◌}
use native.Mathlib.Omega.{arith}
use borrow.Author.Tests.{eqb-true, eq-eqb}
use lib.Dec.{eqb}
use lib.ListN.{length}
use Rattle.lists.proofs.GatherLaws.{and_left, and_right}
use Rattle.lists.proofs.FindLaws.{any-mem, any_some}
use Rattle.grid.specs.declared.Corner.{Corner}
use Rattle.grid.specs.Grid.{same, stepped, corners_from, legs_from, joins, back}
use Rattle.grid.proofs.CornerLaws.{same_refl, same_sound}
use Rattle.grid.proofs.JoinLaws.{joins_pair, joins_here, joins-there}
use Rattle.grid.proofs.StepLaws.{back_small, stepped-back, stepped_inj}
use Rattle.outline.specs.Outline.{walked}

-- some step leads from p to q or from q to p
abbrev pub Edge : Corner → List ℕ → Corner → Corner → Type 0
Edge c ds p q = Memᴰ (p, q) (legs_from c ds) ⊎ Memᴰ (q, p) (legs_from c ds)

module _ (c : Corner) (ds : List ℕ) where
  pub walked_edge : (p : Corner) (d : ℕ) → walked c ds p d ≡ true → Edge c ds p (stepped d p)
  walked_edge p d h =
      let s = any_some (joins p (stepped d p)) (legs_from c ds) h in
      ⊎_map
      (λ e. subst (λ (x : Corner × Corner). Memᴰ x (legs_from c ds)) e s.1)
      (λ e. subst (λ (x : Corner × Corner). Memᴰ x (legs_from c ds)) e s.1)
      (joins_pair p (stepped d p) s.0 s.2)

  pub edge_walked : (p : Corner) (d : ℕ) → Edge c ds p (stepped d p) → walked c ds p d ≡ true
  edge_walked p d (inl m) = any-mem (joins p (stepped d p)) (p, stepped d p) (legs_from c ds) m (joins_here p (stepped d p))
  edge_walked p d (inr m) = any-mem (joins p (stepped d p)) (stepped d p, p) (legs_from c ds) m (joins-there (stepped d p) p)

  pub edge_turned : (p q : Corner) → Edge c ds p q → Edge c ds q p
  edge_turned p q (inl m) = inr m
  edge_turned p q (inr m) = inl m

  -- an edge is walked from its other end too
  pub walked-back : (p : Corner) (d : ℕ) → walked c ds p d ≡ true → walked c ds (stepped d p) (back d) ≡ true
  walked-back p d h =
      edge_walked (stepped d p) (back d) (subst (Edge c ds (stepped d p)) (sym (stepped-back d p)) (edge_turned p (stepped d p) (walked_edge p d h)))

-- both ends of a step are corners of the walk
edge_ends : (c : Corner) (ds : List ℕ) (p q : Corner) → Memᴰ (p, q) (legs_from c ds) → Memᴰ p (corners_from c ds) × Memᴰ q (corners_from c ds)
edge_ends c [] p q m = absurd (Memᴰ.not-nil m)
edge_ends c (d ∷ ds) p q m =
    ⊎_elim
    (λ e. (Memᴰ.head (ap (λ (x : Corner × Corner). x.0) e), Memᴰ.tail (here (stepped d c) ds (ap (λ (x : Corner × Corner). x.1) e))))
    (λ t. let h = edge_ends (stepped d c) ds p q t in (Memᴰ.tail h.0, Memᴰ.tail h.1))
    (Memᴰ.cases_cons m)
  where
    here : (a : Corner) (es : List ℕ) → q ≡ a → Memᴰ q (corners_from a es)
    here a [] e = Memᴰ.head e
    here a (x ∷ es) e = Memᴰ.head e

pub walked_visited : (c : Corner) (ds : List ℕ) (p : Corner) (d : ℕ) → walked c ds p d ≡ true → Memᴰ p (corners_from c ds) × Memᴰ (stepped d p) (corners_from c ds)
walked_visited c ds p d h =
    ⊎_elim (λ m. edge_ends c ds p (stepped d p) m) (λ m. let k = edge_ends c ds (stepped d p) p m in (k.1, k.0)) (walked_edge c ds p d h)

-- a way: a corner, and a direction to leave it by
abbrev pub Way : Type 0
Way = Corner × ℕ

abbrev pub same_way : Way → Way → Bool
same_way a b = same a.0 b.0 && eqb a.1 b.1

pub same_way_sound : (a b : Way) → same_way a b ≡ true → a ≡ b
same_way_sound a b h =
    ap₂ (λ (x : Corner) (y : ℕ). (x, y)) (same_sound a.0 b.0 (and_left (same a.0 b.0) (eqb a.1 b.1) h)) (eqb-true a.1 b.1 (and_right (same a.0 b.0) (eqb a.1 b.1) h))

pub same_way_refl : (a : Way) → same_way a a ≡ true
same_way_refl a = rw (same_refl a.0, eq-eqb a.1 a.1 refl)

-- the ways along walked edges, two for each step: a digit above 3 is walked as 3 is
abbrev pub ways_from : Corner → List ℕ → List Way
ways_from c [] = []
ways_from c (d ∷ ds) = (c, back (back d)) ∷ (stepped d c, back d) ∷ ways_from (stepped d c) ds

pub length-ways_from : (c : Corner) (ds : List ℕ) → length (ways_from c ds) ≡ 2 * length ds
length-ways_from c [] = refl
length-ways_from c (d ∷ ds) = omega (arith, length-ways_from (stepped d c) ds)

pub along : (d : ℕ) (c : Corner) → stepped (back (back d)) c ≡ stepped d c
along zero c = refl
along (suc zero) c = refl
along (suc (suc zero)) c = refl
along (suc (suc (suc d))) c = refl

-- a way along a step, or against it
ways_mem : (c : Corner) (ds : List ℕ) (p q : Corner) (d : ℕ) → d < 4 → Memᴰ (p, q) (legs_from c ds)
    → (stepped d p ≡ q → Memᴰ (p, d) (ways_from c ds)) × (stepped d q ≡ p → Memᴰ (q, d) (ways_from c ds))
ways_mem c [] p q d h m = absurd (Memᴰ.not-nil m)
ways_mem c (x ∷ ds) p q d h m =
    ⊎_elim
    (λ e. first (ap (λ (z : Corner × Corner). z.0) e) (ap (λ (z : Corner × Corner). z.1) e))
    (λ t. let k = ways_mem (stepped x c) ds p q d h t in ((λ e. Memᴰ.tail (Memᴰ.tail (k.0 e))), (λ e. Memᴰ.tail (Memᴰ.tail (k.1 e)))))
    (Memᴰ.cases_cons m)
  where
    first : p ≡ c → q ≡ stepped x c → (stepped d p ≡ q → Memᴰ (p, d) (ways_from c (x ∷ ds))) × (stepped d q ≡ p → Memᴰ (q, d) (ways_from c (x ∷ ds)))
    first e f = (
      (λ g. Memᴰ.head (ap₂ (λ (a : Corner) (b : ℕ). (a, b)) e (stepped_inj d (back (back x)) c h (back_small (back x)) (ap (stepped d) (sym e) ∙ g ∙ f ∙ sym (along x c))))),
      (λ g. Memᴰ.tail (Memᴰ.head (ap₂ (λ (a : Corner) (b : ℕ). (a, b)) f (stepped_inj d (back x) (stepped x c) h (back_small x) (ap (stepped d) (sym f) ∙ g ∙ e ∙ sym (stepped-back x c)))))),
    )

pub walked_way : (c : Corner) (ds : List ℕ) (p : Corner) (d : ℕ) → d < 4 → walked c ds p d ≡ true → Memᴰ (p, d) (ways_from c ds)
walked_way c ds p d h w =
    ⊎_elim (λ m. (ways_mem c ds p (stepped d p) d h m).0 refl) (λ m. (ways_mem c ds (stepped d p) p d h m).1 refl) (walked_edge c ds p d w)

-- The lowest corner of each column, and corners turned by half a turn.
-- Assumes nothing.
use mathlib.Core.Path.{◌≡◌, refl, sym, ap, ap₂, ◌∙◌, subst}
use mathlib.Core.List.Memᴰ
use mathlib.Core.List.{List, [], ◌∷◌, Memᴰ}
use mathlib.Core.Logic.{inl, inr}
use Prim.Native.Nat.{ℕ}
use lib.IntN.{ℤ, neg_ℤ, neg_ℤ-neg_ℤ}
use lib.Signed.{◌≤ℤ◌, ◌<ℤ◌}
use Rattle.int_laws.proofs.LinearLaws.{zarith}
use Rattle.int_laws.proofs.RingLaws.{E, v, ◌⊕◌, ◌⊖◌, ◌⊗◌, ⊝, ring}
use Rattle.grid.specs.declared.Corner.{Corner}
use Rattle.hull.specs.Hull.{Exposed, cross, reach, OnLeft}
use Rattle.grid.specs.Grid.{corner, numbers, Begins}
use Rattle.hull_laws.proofs.ChainLaws.{Chain, Ends, Sorted}
use Rattle.hull_laws.proofs.CornerLaws.{X, Y, cr, on_above}
use Rattle.grid.proofs.CornerLaws.{corner_eq}

-- ms is the lowest of P in each column of P, from left to right
pub record Lows (P ms : List Corner) : Type 0 where
  pub sorted : Sorted ms
  pub sub : (m : Corner) → Memᴰ m ms → Memᴰ m P
  pub low : (q : Corner) → Memᴰ q P → (m : Corner) × Memᴰ m ms × (m.0 ≡ q.0) × (m.1 ≤ℤ q.1)

-- a chain over the lowest corners is one over all
pub chain-all : (P ms : List Corner) → Lows P ms → (s : List Corner) → Chain ms s → Chain P s
chain-all P ms h [] c = tt
chain-all P ms h (b ∷ []) c = λ q m. go q (h.low q m)
  where
    go : (q : Corner) → (m : Corner) × Memᴰ m ms × (m.0 ≡ q.0) × (m.1 ≤ℤ q.1) → Ends b q
    go q t = at (c t.0 t.1)
      where
        at : Ends b t.0 → Ends b q
        at (inl l) = inl (omega (zarith, t.2))
        at (inr l) = inr (sym t.2 ∙ l.0, omega (zarith, l.1, t.3))
chain-all P ms h (b ∷ (a ∷ s)) c = (c.0, (λ q m. go q (h.low q m)), c.2, chain-all P ms h (a ∷ s) c.3)
  where
    go : (q : Corner) → (m : Corner) × Memᴰ m ms × (m.0 ≡ q.0) × (m.1 ≤ℤ q.1) → OnLeft b a q
    go q t = on_above (c.1 t.0 t.1) c.0 t.2 t.3

pub lows_begin : (P : List Corner) (b : Corner) (ms : List Corner) → Lows P (b ∷ ms) → (q : Corner) → Memᴰ q P → Begins b q
lows_begin P b ms h q m = go (h.low q m)
  where
    go : (m : Corner) × Memᴰ m (b ∷ ms) × (m.0 ≡ q.0) × (m.1 ≤ℤ q.1) → Begins b q
    go t = at t.1
      where
        at : Memᴰ t.0 (b ∷ ms) → Begins b q
        at (Memᴰ.head e) = inr (ap (λ (z : Corner). z.0) (sym e) ∙ t.2, omega (zarith, t.3, ap (λ (z : Corner). z.1) e))
        at (Memᴰ.tail n) = inl (omega (zarith, h.sorted.0 t.0 n, t.2))

-- turned by half a turn
abbrev pub neg : Corner → Corner
neg p = corner (neg_ℤ p.0) (neg_ℤ p.1)

pub neg-neg : (p : Corner) → neg (neg p) ≡ p
neg-neg p = corner_eq (neg (neg p)) p (neg_ℤ-neg_ℤ p.0) (neg_ℤ-neg_ℤ p.1)

pub cross-neg : (a b c : Corner) → cross (neg a) (neg b) (neg c) ≡ cross a b c
unfolding cross
cross-neg a b c =
    let nx : ℕ → E = λ i. ⊝ (X i) in
    let ny : ℕ → E = λ i. ⊝ (Y i) in
    ring 6 (numbers (a ∷ b ∷ c ∷ [])) ((nx 1 ⊖ nx 0) ⊗ (ny 2 ⊖ ny 0) ⊖ (ny 1 ⊖ ny 0) ⊗ (nx 2 ⊖ nx 0)) (cr 0 1 2) tt

unfoldable pub negs : List Corner → List Corner
negs [] = []
negs (p ∷ l) = neg p ∷ negs l

pub in_negs : (l : List Corner) (q : Corner) → Memᴰ q l → Memᴰ (neg q) (negs l)
unfolding negs
in_negs [] q m = absurd (Memᴰ.not-nil m)
in_negs (p ∷ l) q (Memᴰ.head e) = Memᴰ.head (ap neg e)
in_negs (p ∷ l) q (Memᴰ.tail m) = Memᴰ.tail (in_negs l q m)

pub negs_in : (l : List Corner) (q : Corner) → Memᴰ (neg q) (negs l) → Memᴰ q l
unfolding negs
negs_in [] q m = absurd (Memᴰ.not-nil m)
negs_in (p ∷ l) q (Memᴰ.head e) = Memᴰ.head (sym (neg-neg q) ∙ ap neg e ∙ neg-neg p)
negs_in (p ∷ l) q (Memᴰ.tail m) = Memᴰ.tail (negs_in l q m)

pub reach-neg : (u w : ℤ) (p : Corner) → reach (neg_ℤ u) (neg_ℤ w) (neg p) ≡ reach u w p
unfolding reach
reach-neg u w p = ring 4 (u ∷ w ∷ p.0 ∷ p.1 ∷ []) (⊝ (v 0) ⊗ ⊝ (v 2) ⊕ ⊝ (v 1) ⊗ ⊝ (v 3)) (v 0 ⊗ v 2 ⊕ v 1 ⊗ v 3) tt

unfoldable pub exposed_neg : (P : List Corner) (q : Corner) → Exposed P q → Exposed (negs P) (neg q)
exposed_neg P q e = record { visited = in_negs P q e.visited; u = neg_ℤ e.u; v = neg_ℤ e.v; most = top }
  where
    top : (p : Corner) → Memᴰ p (negs P) → ¬ (p ≡ neg q) → reach (neg_ℤ e.u) (neg_ℤ e.v) p <ℤ reach (neg_ℤ e.u) (neg_ℤ e.v) (neg q)
    top p m d = swap (reach-neg e.u e.v (neg p)) (reach-neg e.u e.v q) (ap (reach (neg_ℤ e.u) (neg_ℤ e.v)) (neg-neg p)) (e.most (neg p) (negs_in P (neg p) (subst (λ (z : Corner). Memᴰ z (negs P)) (sym (neg-neg p)) m)) (λ r. d (sym (neg-neg p) ∙ ap neg r)))
      where
        swap : {a b c d f : ℤ} → a ≡ b → c ≡ d → a ≡ f → b <ℤ d → f <ℤ c
        swap p q r h = omega zarith

pub negs-negs : (l : List Corner) → negs (negs l) ≡ l
unfolding negs
negs-negs [] = refl
negs-negs (p ∷ l) = ap₂ ◌∷◌ (neg-neg p) (negs-negs l)

pub neg_exposed : (P : List Corner) (q : Corner) → Exposed (negs P) (neg q) → Exposed P q
neg_exposed P q e = subst (λ (l : List Corner). Exposed l q) (negs-negs P) (subst (λ (z : Corner). Exposed (negs (negs P)) z) (neg-neg q) (exposed_neg (negs P) (neg q) e))

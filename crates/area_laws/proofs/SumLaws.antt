-- The sum over panels exchanged with that over edges.
-- Assumes nothing.
use mathlib.Core.Bool.{Bool, true, false, not, cond, ◌&&◌}
use mathlib.Core.List.{List, [], ◌∷◌}
use mathlib.Core.Path.{◌≡◌, refl, ap, ap₂, ◌∙◌}
use Prim.Native.Nat.{ℕ, ◌+◌}
use lib.IntN.{ℤ, pos, negsuc, ◌+ℤ◌, ◌-ℤ◌, ◌*ℤ◌}
use Rattle.int_laws.proofs.RingLaws.{ring, v, k, ◌⊕◌, ◌⊖◌, ◌⊗◌}
use Rattle.lists.specs.Lists.{tally, count, sum_of}
use Rattle.grid.specs.declared.Panel.{Panel}
use Rattle.panels.specs.Edges.{Edge, beside, surplus_by}

-- 1 for an edge walked north, -1 for one walked south
abbrev pub sign_of : Edge → ℤ
sign_of e = cond e.north (pos 1) (negsuc 0)

module _ {A : Type 0} where
  sum_zero : (f : A → ℤ) → ((x : A) → f x ≡ pos 0) → (l : List A) → sum_of f l ≡ pos 0
  sum_zero f h [] = refl
  sum_zero f h (x ∷ l) = ap₂ ◌+ℤ◌ (h x) (sum_zero f h l)

  -- f is s if a test passes, and g besides
  sum-tally : (f g : A → ℤ) (s : ℤ) (t : A → Bool) → ((x : A) → f x ≡ (s *ℤ pos (tally (t x))) +ℤ g x) → (l : List A) → sum_of f l ≡ (s *ℤ pos (count t l)) +ℤ sum_of g l
  sum-tally f g s t h [] = ring 1 (s ∷ []) (k (pos 0)) (v 0 ⊗ k (pos 0) ⊕ k (pos 0)) tt
  sum-tally f g s t h (x ∷ l) =
      ap₂ ◌+ℤ◌ (h x) (sum-tally f g s t h l)
      ∙ ring 5 (s ∷ pos (tally (t x)) ∷ pos (count t l) ∷ g x ∷ sum_of g l ∷ []) (v 0 ⊗ v 1 ⊕ v 3 ⊕ (v 0 ⊗ v 2 ⊕ v 4)) (v 0 ⊗ (v 1 ⊕ v 2) ⊕ (v 3 ⊕ v 4)) tt

surplus_cons : (e : Edge) (es : List Edge) (p : Panel) → surplus_by (e ∷ es) p ≡ (sign_of e *ℤ pos (tally (beside p e.foot))) +ℤ surplus_by es p
surplus_cons e es p = by (beside p e.foot) e.north (count (λ e. beside p e.foot && e.north) es) (count (λ e. beside p e.foot && not e.north) es)
  where
    by : (b n : Bool) (N S : ℕ) → pos (tally (b && n) + N) -ℤ pos (tally (b && not n) + S) ≡ (cond n (pos 1) (negsuc 0) *ℤ pos (tally b)) +ℤ (pos N -ℤ pos S)
    by true true N S = ring 2 (pos N ∷ pos S ∷ []) (k (pos 1) ⊕ v 0 ⊖ (k (pos 0) ⊕ v 1)) (k (pos 1) ⊗ k (pos 1) ⊕ (v 0 ⊖ v 1)) tt
    by true false N S = ring 2 (pos N ∷ pos S ∷ []) (k (pos 0) ⊕ v 0 ⊖ (k (pos 1) ⊕ v 1)) (k (negsuc 0) ⊗ k (pos 1) ⊕ (v 0 ⊖ v 1)) tt
    by false true N S = ring 2 (pos N ∷ pos S ∷ []) (k (pos 0) ⊕ v 0 ⊖ (k (pos 0) ⊕ v 1)) (k (pos 1) ⊗ k (pos 0) ⊕ (v 0 ⊖ v 1)) tt
    by false false N S = ring 2 (pos N ∷ pos S ∷ []) (k (pos 0) ⊕ v 0 ⊖ (k (pos 0) ⊕ v 1)) (k (negsuc 0) ⊗ k (pos 0) ⊕ (v 0 ⊖ v 1)) tt

-- over panels of northward minus southward edges, or over edges of the panels that they count for
pub sum_exchange : (es : List Edge) (ps : List Panel) → sum_of (surplus_by es) ps ≡ sum_of (λ e. sign_of e *ℤ pos (count (λ p. beside p e.foot) ps)) es
sum_exchange [] ps = sum_zero (surplus_by []) (λ p. refl) ps
sum_exchange (e ∷ es) ps =
    sum-tally (surplus_by (e ∷ es)) (surplus_by es) (sign_of e) (λ p. beside p e.foot) (surplus_cons e es) ps
    ∙ ap (λ (z : ℤ). (sign_of e *ℤ pos (count (λ p. beside p e.foot) ps)) +ℤ z) (sum_exchange es ps)

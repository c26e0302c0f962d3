-- The monotone chain. `chain ms` is the lower side of corners `ms` that stand from left to right: each corner is put in front of
-- the chain of those right of it, after what would not make a left turn is dropped from its front (`cut`).
-- Assumes nothing.
use mathlib.Core.Path.{◌≡◌, refl, sym, ap, subst}
use mathlib.Core.List.Memᴰ
use mathlib.Core.List.{List, [], ◌∷◌, Memᴰ}
use mathlib.Core.Logic.{◌⊎◌, inl, inr, ⊎_elim}
use mathlib.Core.Bool.{Bool, true, false}
use lib.IntN.{pos}
use lib.Signed.{◌≤ℤ◌, ◌<ℤ◌, lt_z}
use Rattle.int_laws.proofs.LinearLaws.{zarith, le_or_lt}
use Rattle.int_laws.proofs.RangeLaws.{lt_true, lt_false}
use Rattle.grid.specs.declared.Corner.{Corner}
use Rattle.hull.specs.Hull.{Left, cross, OnLeft, AllLeft}
use Rattle.hull_laws.proofs.CornerLaws.{left_join, left_on, left_rot, not_left, on_ext, on_far, on_near, on_self, on_self'}

-- corners from left to right, one in each column
abbrev pub Sorted : List Corner → Type 0
Sorted [] = Unit {0}
Sorted (m ∷ ms) = ((q : Corner) → Memᴰ q ms → m.0 <ℤ q.0) × Sorted ms

-- b is right of q, or straight below it or at it
abbrev pub Ends : Corner → Corner → Type 0
Ends b q = (q.0 <ℤ b.0) ⊎ ((q.0 ≡ b.0) × (b.1 ≤ℤ q.1))

unfoldable pub turns : Corner → Corner → Corner → Bool
turns p b a = lt_z (pos 0) (cross p b a)

unfoldable pub cut : Corner → List Corner → List Corner
cut p [] = []
cut p (b ∷ []) = b ∷ []
cut p (b ∷ (a ∷ s)) = elim (turns p b a) [ true ↦ b ∷ (a ∷ s) | false ↦ cut p (a ∷ s) ]

unfoldable pub chain : List Corner → List Corner
chain [] = []
chain (m ∷ ms) = m ∷ cut m (chain ms)

abbrev TurnsLeft : Corner → Corner → List Corner → Type 0
TurnsLeft b a [] = Unit {0}
TurnsLeft b a (z ∷ s) = Left b a z

-- a chain from left to right, which turns left at each corner, with all of Q on or left of each edge, and the lowest of the rightmost of Q at its end
abbrev pub Chain : List Corner → List Corner → Type 0
Chain Q [] = Unit {0}
Chain Q (b ∷ []) = (q : Corner) → Memᴰ q Q → Ends b q
Chain Q (b ∷ (a ∷ s)) = (b.0 <ℤ a.0) × AllLeft Q b a × TurnsLeft b a s × Chain Q (a ∷ s)

ends_le : {b q : Corner} → Ends b q → q.0 ≤ℤ b.0
ends_le (inl h) = omega zarith
ends_le (inr h) = omega (zarith, h.0)

module _ (Q : List Corner) (p : Corner) where
  supp_more : (a b : Corner) → OnLeft a b p → AllLeft Q a b → AllLeft (p ∷ Q) a b
  supp_more a b h g q (Memᴰ.head e) = subst (λ (z : Corner). OnLeft a b z) (sym e) h
  supp_more a b h g q (Memᴰ.tail m) = g q m

  last_more : (b : Corner) → p.0 <ℤ b.0 → ((q : Corner) → Memᴰ q Q → Ends b q) → (q : Corner) → Memᴰ q (p ∷ Q) → Ends b q
  last_more b h g q (Memᴰ.head e) = inl (subst (λ (z : Corner). z.0 <ℤ b.0) (sym e) h)
  last_more b h g q (Memᴰ.tail m) = g q m

  -- a new corner in front, from which the chain turns left, is left of all its edges
  extend : (b a : Corner) (s : List Corner) → Chain Q (b ∷ (a ∷ s)) → Left p b a → p.0 <ℤ b.0 → Chain (p ∷ Q) (b ∷ (a ∷ s))
  extend b a [] c h i = (c.0, supp_more b a (left_on (left_rot h)) c.1, tt, last_more a (omega (zarith, c.0)) c.3)
  extend b a (z ∷ s) c h i =
      (c.0, supp_more b a (left_on (left_rot h)) c.1, c.2, extend a z s c.3 (left_join h c.2 i c.0 (step s c.3)) (omega (zarith, c.0)))
    where
      step : (s : List Corner) → Chain Q (a ∷ (z ∷ s)) → a.0 <ℤ z.0
      step s c = c.0

  -- what was popped so far lies on or left of p b
  Popped : Corner → Type 0
  Popped b = (q : Corner) → Memᴰ q Q → q.0 ≤ℤ b.0 → OnLeft p b q

  module _ (lo : (q : Corner) → Memᴰ q Q → p.0 <ℤ q.0) where
    cut-chain : (b : Corner) (s : List Corner) → ((q : Corner) → Memᴰ q (b ∷ s) → Memᴰ q Q) → Chain Q (b ∷ s) → Popped b → Chain (p ∷ Q) (p ∷ cut p (b ∷ s))
    unfolding cut Popped turns
    cut-chain b [] sub c j = (lo b (sub b (Memᴰ.head refl)), supp_more p b (on_self' p b) (λ q m. j q m (ends_le (c q m))), tt, last_more b (lo b (sub b (Memᴰ.head refl))) c)
    cut-chain b (a ∷ s) sub c j = go (turns p b a) refl (cut-chain a s (λ q m. sub q (Memᴰ.tail m)) c.3)
      where
        lob : p.0 <ℤ b.0
        lob = lo b (sub b (Memᴰ.head refl))

        loa : p.0 <ℤ a.0
        loa = lo a (sub a (Memᴰ.tail (Memᴰ.head refl)))

        go : (t : Bool) → turns p b a ≡ t → (Popped a → Chain (p ∷ Q) (p ∷ cut p (a ∷ s))) → Chain (p ∷ Q) (p ∷ elim t as (λ x. List Corner) [ true ↦ b ∷ (a ∷ s) | false ↦ cut p (a ∷ s) ])
        go true e f =
            let h : Left p b a = record { left = lt_true e } in
            (lob, supp_more p b (on_self' p b) (λ q m. ⊎_elim (λ g. j q m g) (λ g. on_ext h (c.1 q m) lob c.0 (omega zarith)) (le_or_lt q.0 b.0)), h, extend b a s c h lob)
        go false e f =
            let w : OnLeft p a b = not_left p b a (lt_false e) in
            f (λ q m h. ⊎_elim (λ g. on_near (j q m g) w lob loa (omega (zarith, lo q m))) (λ g. on_far (c.1 q m) w c.0 loa h) (le_or_lt q.0 b.0))

cut-sub : (p : Corner) (s : List Corner) (q : Corner) → Memᴰ q (cut p s) → Memᴰ q s
unfolding cut
cut-sub p [] q m = m
cut-sub p (b ∷ []) q m = m
cut-sub p (b ∷ (a ∷ s)) q m = go (turns p b a) (cut-sub p (a ∷ s) q) m
  where
    go : (t : Bool) → (Memᴰ q (cut p (a ∷ s)) → Memᴰ q (a ∷ s)) → Memᴰ q (elim t as (λ x. List Corner) [ true ↦ b ∷ (a ∷ s) | false ↦ cut p (a ∷ s) ]) → Memᴰ q (b ∷ (a ∷ s))
    go true f m = m
    go false f m = Memᴰ.tail (f m)

pub chain-sub : (ms : List Corner) (q : Corner) → Memᴰ q (chain ms) → Memᴰ q ms
unfolding chain
chain-sub [] q m = m
chain-sub (b ∷ ms) q (Memᴰ.head e) = Memᴰ.head e
chain-sub (b ∷ ms) q (Memᴰ.tail m) = Memᴰ.tail (chain-sub ms q (cut-sub b (chain ms) q m))

pub chain_ok : (ms : List Corner) → Sorted ms → Chain ms (chain ms)
unfolding chain cut Popped
chain_ok [] h = tt
chain_ok (m ∷ []) h = last
  where
    last : (q : Corner) → Memᴰ q (m ∷ []) → Ends m q
    last q (Memᴰ.head e) = inr (ap (λ (z : Corner). z.0) e, omega (zarith, ap (λ (z : Corner). z.1) e))
    last q (Memᴰ.tail n) = absurd (Memᴰ.not-nil n)
chain_ok (m ∷ (b ∷ ms)) h = cut-chain (b ∷ ms) m h.0 b (cut b (chain ms)) (chain-sub (b ∷ ms)) (chain_ok (b ∷ ms) h.1) first
  where
    first : (q : Corner) → Memᴰ q (b ∷ ms) → q.0 ≤ℤ b.0 → OnLeft m b q
    first q (Memᴰ.head e) l = subst (λ (z : Corner). OnLeft m b z) (sym e) (on_self m b)
    first q (Memᴰ.tail n) l = absurd (clash (h.1.0 q n) l)
      where
        clash : b.0 <ℤ q.0 → q.0 ≤ℤ b.0 → ⊥
        clash h g = omega zarith

-- Two paths joined: without the corner that both have where they meet, and where they close.
-- Assumes nothing.
use mathlib.Core.Path.{◌≡◌, refl, sym, ◌∙◌, subst}
use mathlib.Core.List.{List, [], ◌∷◌, ◌++◌, Memᴰ}
use mathlib.Core.Logic.{◌⊎◌, inl, inr, ⊎_elim}
use Rattle.grid.specs.declared.Corner.{Corner}
use Rattle.hull.specs.Hull.{AllLeft}
use Rattle.hull_laws.proofs.CornerLaws.{corner_dec}
use Rattle.hull_laws.proofs.OrderLaws.{Edges}

unfoldable pub last_of : {A : Type 0} → A → List A → A
last_of b [] = b
last_of b (a ∷ s) = last_of a s

-- without the first, if that is c
unfoldable pub behead : Corner → List Corner → List Corner
behead c [] = []
behead c (d ∷ s) = elim (corner_dec d c) [ yes e ↦ s | no e ↦ d ∷ s ]

-- without the last, if that is c
unfoldable pub trim : Corner → List Corner → List Corner
trim c [] = []
trim c (b ∷ []) = elim (corner_dec b c) [ yes e ↦ [] | no e ↦ b ∷ [] ]
trim c (b ∷ (a ∷ s)) = b ∷ trim c (a ∷ s)

unfoldable pub round : List Corner → List Corner → List Corner
round [] D = []
round (b ∷ s) D = b ∷ trim b (s ++ behead (last_of b s) D)

pub in_last : (b : Corner) (s : List Corner) → Memᴰ (last_of b s) (b ∷ s)
unfolding last_of
in_last b [] = mathlib.Core.List.Memᴰ.head refl
in_last b (a ∷ s) = mathlib.Core.List.Memᴰ.tail (in_last a s)

pub in_behead : (c : Corner) (s : List Corner) (q : Corner) → Memᴰ q (behead c s) → Memᴰ q s
unfolding behead
in_behead c [] q m = m
in_behead c (d ∷ s) q m = go (corner_dec d c) m
  where
    go : (z : Dec (d ≡ c)) → Memᴰ q (elim z as (λ x. List Corner) [ yes e ↦ s | no e ↦ d ∷ s ]) → Memᴰ q (d ∷ s)
    go (yes e) m = mathlib.Core.List.Memᴰ.tail m
    go (no e) m = m

pub behead_in : (c : Corner) (s : List Corner) (q : Corner) → Memᴰ q s → Memᴰ q (behead c s) ⊎ (q ≡ c)
unfolding behead
behead_in c [] q m = inl m
behead_in c (d ∷ s) q m = go (corner_dec d c) m
  where
    go : (z : Dec (d ≡ c)) → Memᴰ q (d ∷ s) → Memᴰ q (elim z as (λ x. List Corner) [ yes e ↦ s | no e ↦ d ∷ s ]) ⊎ (q ≡ c)
    go (yes e) (mathlib.Core.List.Memᴰ.head r) = inr (r ∙ e)
    go (yes e) (mathlib.Core.List.Memᴰ.tail m) = inl m
    go (no e) m = inl m

pub in_trim : (c : Corner) (s : List Corner) (q : Corner) → Memᴰ q (trim c s) → Memᴰ q s
unfolding trim
in_trim c [] q m = m
in_trim c (b ∷ []) q m = go (corner_dec b c) m
  where
    go : (z : Dec (b ≡ c)) → Memᴰ q (elim z as (λ x. List Corner) [ yes e ↦ [] | no e ↦ b ∷ [] ]) → Memᴰ q (b ∷ [])
    go (yes e) m = absurd (mathlib.Core.List.Memᴰ.not-nil m)
    go (no e) m = m
in_trim c (b ∷ (a ∷ s)) q (mathlib.Core.List.Memᴰ.head e) = mathlib.Core.List.Memᴰ.head e
in_trim c (b ∷ (a ∷ s)) q (mathlib.Core.List.Memᴰ.tail m) = mathlib.Core.List.Memᴰ.tail (in_trim c (a ∷ s) q m)

pub trim_in : (c : Corner) (s : List Corner) (q : Corner) → Memᴰ q s → Memᴰ q (trim c s) ⊎ (q ≡ c)
unfolding trim
trim_in c [] q m = inl m
trim_in c (b ∷ []) q m = go (corner_dec b c) m
  where
    go : (z : Dec (b ≡ c)) → Memᴰ q (b ∷ []) → Memᴰ q (elim z as (λ x. List Corner) [ yes e ↦ [] | no e ↦ b ∷ [] ]) ⊎ (q ≡ c)
    go (yes e) (mathlib.Core.List.Memᴰ.head r) = inr (r ∙ e)
    go (yes e) (mathlib.Core.List.Memᴰ.tail m) = absurd (mathlib.Core.List.Memᴰ.not-nil m)
    go (no e) m = inl m
trim_in c (b ∷ (a ∷ s)) q (mathlib.Core.List.Memᴰ.head e) = inl (mathlib.Core.List.Memᴰ.head e)
trim_in c (b ∷ (a ∷ s)) q (mathlib.Core.List.Memᴰ.tail m) = ⊎_elim (λ n. inl (mathlib.Core.List.Memᴰ.tail n)) (λ n. inr n) (trim_in c (a ∷ s) q m)

-- o is nowhere but perhaps at the end
abbrev pub Off : Corner → List Corner → Type 0
Off o [] = Unit {0}
Off o (b ∷ []) = Unit {0}
Off o (b ∷ (a ∷ s)) = (¬ (o ≡ b)) × Off o (a ∷ s)

pub off_trim : (o : Corner) (s : List Corner) → Off o s → (q : Corner) → Memᴰ q (trim o s) → ¬ (o ≡ q)
unfolding trim
off_trim o [] h q m = absurd (mathlib.Core.List.Memᴰ.not-nil m)
off_trim o (b ∷ []) h q m = go (corner_dec b o) m
  where
    go : (z : Dec (b ≡ o)) → Memᴰ q (elim z as (λ x. List Corner) [ yes e ↦ [] | no e ↦ b ∷ [] ]) → ¬ (o ≡ q)
    go (yes e) m = absurd (mathlib.Core.List.Memᴰ.not-nil m)
    go (no e) (mathlib.Core.List.Memᴰ.head r) = λ i. e (sym r ∙ sym i)
    go (no e) (mathlib.Core.List.Memᴰ.tail m) = absurd (mathlib.Core.List.Memᴰ.not-nil m)
off_trim o (b ∷ (a ∷ s)) h q (mathlib.Core.List.Memᴰ.head e) = λ i. h.0 (i ∙ e)
off_trim o (b ∷ (a ∷ s)) h q (mathlib.Core.List.Memᴰ.tail m) = off_trim o (a ∷ s) h.1 q m

pub off_append : (o : Corner) (s t : List Corner) → ((q : Corner) → Memᴰ q s → ¬ (o ≡ q)) → Off o t → Off o (s ++ t)
off_append o [] t h g = g
off_append o (b ∷ []) [] h g = tt
off_append o (b ∷ []) (a ∷ t) h g = (h b (mathlib.Core.List.Memᴰ.head refl), g)
off_append o (b ∷ (a ∷ s)) t h g = (h b (mathlib.Core.List.Memᴰ.head refl), off_append o (a ∷ s) t (λ q m. h q (mathlib.Core.List.Memᴰ.tail m)) g)

off_tail : (o b : Corner) (s : List Corner) → Off o (b ∷ s) → Off o s
off_tail o b [] h = tt
off_tail o b (a ∷ s) h = h.1

pub off_behead : (o c : Corner) (s : List Corner) → Off o s → Off o (behead c s)
unfolding behead
off_behead o c [] h = tt
off_behead o c (d ∷ s) h = go (corner_dec d c)
  where
    go : (z : Dec (d ≡ c)) → Off o (elim z as (λ x. List Corner) [ yes e ↦ s | no e ↦ d ∷ s ])
    go (yes e) = off_tail o d s h
    go (no e) = h

-- the steps of the joined path
pub edges_join : (P : List Corner) (b : Corner) (s t : List Corner) → Edges P (b ∷ s) → Edges P (last_of b s ∷ t) → Edges P (b ∷ (s ++ t))
unfolding last_of
edges_join P b [] t h g = g
edges_join P b (a ∷ s) t h g = (h.0, h.1, edges_join P a s t h.2 g)

pub edges_trim : (P : List Corner) (c b : Corner) (s : List Corner) → Edges P (b ∷ s) → Edges P (b ∷ trim c s)
unfolding trim
edges_trim P c b [] h = tt
edges_trim P c b (a ∷ []) h = go (corner_dec a c)
  where
    go : (z : Dec (a ≡ c)) → Edges P (b ∷ elim z as (λ x. List Corner) [ yes e ↦ [] | no e ↦ a ∷ [] ])
    go (yes e) = tt
    go (no e) = h
edges_trim P c b (a ∷ (z ∷ s)) h = (h.0, h.1, edges_trim P c a (z ∷ s) h.2)

pub edges_behead : (P : List Corner) (c d : Corner) (s : List Corner) → Edges P (d ∷ s) → (¬ (d ≡ c) → AllLeft P c d) → Edges P (c ∷ behead c (d ∷ s))
unfolding behead
edges_behead P c d s h f = go (corner_dec d c)
  where
    go : (z : Dec (d ≡ c)) → Edges P (c ∷ elim z as (λ x. List Corner) [ yes e ↦ s | no e ↦ d ∷ s ])
    go (yes e) = subst (λ (z : Corner). Edges P (z ∷ s)) e h
    go (no e) = ((λ r. e (sym r)), f e, h)

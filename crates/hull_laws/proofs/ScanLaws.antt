-- The chain over columns, in whole numbers, is the chain over their corners.
-- Assumes nothing.
use mathlib.Core.Path.{◌≡◌, refl, ap, ap₂, ◌∙◌}
use mathlib.Core.Bool.{Bool, true, false}
use mathlib.Core.List.Memᴰ
use mathlib.Core.List.{List, [], ◌∷◌, map, Memᴰ}
use Prim.Native.Nat.{ℕ, zero, suc, ◌+◌, ◌*◌, ◌-◌, ◌≤◌, ◌<◌}
use native.Mathlib.Omega.{arith}
use lib.ListN.{get_or}
use lib.Dec.{T, ltb, ltb→lt, lt→ltb}
use lib.IntN.{ℤ, pos, ◌-ℤ◌}
use lib.Signed.{◌<ℤ◌, lt_z, lt_z_yes}
use Rattle.int_laws.proofs.LinearLaws.{zarith, bal-}
use Rattle.int_laws.proofs.RingLaws.{E, v, ◌⊕◌, ◌⊖◌, ◌⊗◌, ring}
use Rattle.grid.specs.declared.Corner.{Corner}
use Rattle.hull.specs.Hull.{cross}
use Rattle.hull_laws.specs.Chain.{turns_at, cut_at, chain_from}
use Rattle.column_laws.specs.Columns.{spot}
use Rattle.hull_laws.proofs.ChainLaws.{turns, cut, chain}
use Rattle.hull_laws.proofs.RoundLaws.{last_of}
use Rattle.hull_laws.proofs.SinkLaws.{up_from, at}

-- the chain holds columns of its range
cut_in : (ys : List ℕ) (p : ℕ) (s : List ℕ) (c : ℕ) → Memᴰ c (cut_at ys p s) → Memᴰ c s
unfolding cut_at
cut_in ys p [] c m = m
cut_in ys p (b ∷ []) c m = m
cut_in ys p (b ∷ (a ∷ s)) c m = go (turns_at ys p b a) (cut_in ys p (a ∷ s) c) m
  where
    go : (t : Bool) → (Memᴰ c (cut_at ys p (a ∷ s)) → Memᴰ c (a ∷ s)) → Memᴰ c (elim t as (λ x. List ℕ) [ true ↦ b ∷ (a ∷ s) | false ↦ cut_at ys p (a ∷ s) ]) → Memᴰ c (b ∷ (a ∷ s))
    go true f m = m
    go false f m = Memᴰ.tail (f m)

pub chain_in_lem : (ys : List ℕ) (i k c : ℕ) → Memᴰ c (chain_from ys i k) → (i ≤ c) × (c < i + k)
unfolding chain_from
chain_in_lem ys i zero c m = absurd (Memᴰ.not-nil m)
chain_in_lem ys i (suc k) c (Memᴰ.head e) = (omega arith, omega arith)
chain_in_lem ys i (suc k) c (Memᴰ.tail m) = let r = chain_in_lem ys (suc i) k c (cut_in ys i (chain_from ys (suc i) k) c m) in (omega (arith, r.0), omega (arith, r.1))

pub chain-rest : (ys : List ℕ) (i k c : ℕ) → Memᴰ c (cut_at ys i (chain_from ys (suc i) k)) → i < c
chain-rest ys i k c m = (chain_in_lem ys (suc i) k c (cut_in ys i (chain_from ys (suc i) k) c m)).0

-- and ends at the last of them
cut-last : (ys : List ℕ) (p b : ℕ) (s : List ℕ) → last_of p (cut_at ys p (b ∷ s)) ≡ last_of b s
unfolding cut_at last_of
cut-last ys p b [] = refl
cut-last ys p b (a ∷ s) = go (turns_at ys p b a) (cut-last ys p a s)
  where
    go : (t : Bool) → last_of p (cut_at ys p (a ∷ s)) ≡ last_of a s → last_of p (elim t as (λ x. List ℕ) [ true ↦ b ∷ (a ∷ s) | false ↦ cut_at ys p (a ∷ s) ]) ≡ last_of a s
    go true e = refl
    go false e = e

pub chain-last : (ys : List ℕ) (d i k : ℕ) → last_of d (chain_from ys i (suc k)) ≡ i + k
unfolding chain_from last_of cut_at
chain-last ys d i zero = omega arith
chain-last ys d i (suc k) = cut-last ys i (suc i) (cut_at ys (suc i) (chain_from ys (suc (suc i)) k)) ∙ chain-last ys d (suc i) k ∙ step
  where
    step : suc i + k ≡ i + suc k
    step = omega arith

bool_ext : (a b : Bool) → (T a → T b) → (T b → T a) → a ≡ b
bool_ext true true f g = refl
bool_ext true false f g = absurd (f tt)
bool_ext false true f g = absurd (g tt)
bool_ext false false f g = refl

-- a difference above 0
above_zero : (m n : ℕ) → lt_z (pos 0) (pos m -ℤ pos n) ≡ ltb n m
above_zero m n = bool_ext (lt_z (pos 0) (pos m -ℤ pos n)) (ltb n m)
    (λ t. lt→ltb n m (fwd (lt_z_yes t))) (λ t. (bwd (ltb→lt n m t)).lt)
  where
    fwd : pos 0 <ℤ (pos m -ℤ pos n) → n < m
    fwd h = omega (zarith, bal- (pos m) (pos n))

    bwd : n < m → pos 0 <ℤ (pos m -ℤ pos n)
    bwd h = omega (zarith, bal- (pos m) (pos n))

module _ (x0 y0 : ℤ) (ys : List ℕ) where
  -- u and w are how far b and a lie right of p
  cross_cols : (p u w yp yb ya : ℕ) → cross (spot x0 y0 (p, yp)) (spot x0 y0 (p + u, yb)) (spot x0 y0 (p + w, ya)) ≡ pos (u * ya + w * yp) -ℤ pos (w * yb + u * yp)
  unfolding cross
  cross_cols p u w yp yb ya =
      let X : E = v 0 ⊕ v 2 in
      let Y : E = v 1 ⊕ v 5 in
      ring 8 (x0 ∷ y0 ∷ pos p ∷ pos u ∷ pos w ∷ pos yp ∷ pos yb ∷ pos ya ∷ [])
      (((v 0 ⊕ (v 2 ⊕ v 3)) ⊖ X) ⊗ ((v 1 ⊕ v 7) ⊖ Y) ⊖ ((v 1 ⊕ v 6) ⊖ Y) ⊗ ((v 0 ⊕ (v 2 ⊕ v 4)) ⊖ X))
      ((v 3 ⊗ v 7 ⊕ v 4 ⊗ v 5) ⊖ (v 4 ⊗ v 6 ⊕ v 3 ⊗ v 5)) tt

  pub turns_cols : (p b a : ℕ) → p < b → p < a → turns (at x0 y0 ys p) (at x0 y0 ys b) (at x0 y0 ys a) ≡ turns_at ys p b a
  unfolding turns turns_at
  turns_cols p b a h g =
      ap₂ (λ (m n : ℕ). lt_z (pos 0) (cross (at x0 y0 ys p) (spot x0 y0 (m, get_or ys b 0)) (spot x0 y0 (n, get_or ys a 0)))) back back'
      ∙ ap (lt_z (pos 0)) (cross_cols p (b - p) (a - p) (get_or ys p 0) (get_or ys b 0) (get_or ys a 0))
      ∙ above_zero ((b - p) * get_or ys a 0 + (a - p) * get_or ys p 0) ((a - p) * get_or ys b 0 + (b - p) * get_or ys p 0)
    where
      back : b ≡ p + (b - p)
      back = omega arith

      back' : a ≡ p + (a - p)
      back' = omega arith

  cut_cols : (p : ℕ) (s : List ℕ) → ((c : ℕ) → Memᴰ c s → p < c) → cut (at x0 y0 ys p) (map (at x0 y0 ys) s) ≡ map (at x0 y0 ys) (cut_at ys p s)
  unfolding cut cut_at
  cut_cols p [] h = refl
  cut_cols p (b ∷ []) h = refl
  cut_cols p (b ∷ (a ∷ s)) h =
      ap (λ (t : Bool). elim t as (λ x. List Corner) [ true ↦ at x0 y0 ys b ∷ (at x0 y0 ys a ∷ map (at x0 y0 ys) s) | false ↦ cut (at x0 y0 ys p) (at x0 y0 ys a ∷ map (at x0 y0 ys) s) ]) (turns_cols p b a (h b (Memᴰ.head refl)) (h a (Memᴰ.tail (Memᴰ.head refl))))
      ∙ go (turns_at ys p b a) (cut_cols p (a ∷ s) (λ c m. h c (Memᴰ.tail m)))
    where
      go : (t : Bool) → cut (at x0 y0 ys p) (at x0 y0 ys a ∷ map (at x0 y0 ys) s) ≡ map (at x0 y0 ys) (cut_at ys p (a ∷ s)) → elim t as (λ x. List Corner) [ true ↦ at x0 y0 ys b ∷ (at x0 y0 ys a ∷ map (at x0 y0 ys) s) | false ↦ cut (at x0 y0 ys p) (at x0 y0 ys a ∷ map (at x0 y0 ys) s) ] ≡ map (at x0 y0 ys) (elim t as (λ x. List ℕ) [ true ↦ b ∷ (a ∷ s) | false ↦ cut_at ys p (a ∷ s) ])
      go true e = refl
      go false e = e

  pub chain_cols : (i k : ℕ) → chain (map (at x0 y0 ys) (up_from i k)) ≡ map (at x0 y0 ys) (chain_from ys i k)
  unfolding chain chain_from up_from
  chain_cols i zero = refl
  chain_cols i (suc k) =
      ap (λ (l : List Corner). at x0 y0 ys i ∷ l)
      (ap (cut (at x0 y0 ys i)) (chain_cols (suc i) k) ∙ cut_cols i (chain_from ys (suc i) k) (λ c m. (chain_in_lem ys (suc i) k c m).0))

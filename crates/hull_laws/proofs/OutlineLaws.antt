-- The two chains over columns, joined, are the hull.
-- Assumes nothing.
use mathlib.Core.Path.{◌≡◌, refl, sym, ap, ◌∙◌}
use mathlib.Core.Bool.{Bool, true, false}
use mathlib.Core.List.Memᴰ
use mathlib.Core.List.{List, [], ◌∷◌, ◌++◌, map, Memᴰ}
use Prim.Native.Nat.{ℕ, suc, ◌+◌, ◌<◌}
use native.Mathlib.Omega.{arith}
use lib.ListN.{get_or}
use lib.Dec.{eqb}
use borrow.Author.Tests.{eqb-true, eqb-false}
use lib.IntN.{ℤ, pos, ◌+ℤ◌, ◌-ℤ◌}
use lib.Signed.{◌<ℤ◌}
use Rattle.int_laws.proofs.LinearLaws.{zarith, bal+, bal-}
use Rattle.grid.specs.declared.Corner.{Corner}
use Rattle.hull_laws.specs.Chain.{chain_from, cut_at, spot_back, col_at, skip, stop, upper}
use Rattle.column_laws.specs.Columns.{spot}
use Rattle.hull_laws.proofs.CornerLaws.{corner_dec}
use Rattle.grid.proofs.CornerLaws.{corner_eq}
use Rattle.hull_laws.proofs.RoundLaws.{last_of, behead, trim, round}
use Rattle.hull_laws.proofs.SideLaws.{ne_x}
use Rattle.hull_laws.proofs.ScanLaws.{chain-rest, chain-last}

-- the path is the lower chain and then what is left of the upper
trim-last : (c : Corner) (s : List Corner) → ((q : Corner) → Memᴰ q s → ¬ (q ≡ c)) → trim c s ≡ s
unfolding trim
trim-last c [] h = refl
trim-last c (b ∷ []) h = go (corner_dec b c)
  where
    go : (z : Dec (b ≡ c)) → elim z as (λ x. List Corner) [ yes e ↦ [] | no e ↦ b ∷ [] ] ≡ b ∷ []
    go (yes r) = absurd (h b (Memᴰ.head refl) r)
    go (no r) = refl
trim-last c (b ∷ (a ∷ s)) h = ap (λ (t : List Corner). b ∷ t) (trim-last c (a ∷ s) (λ q m. h q (Memᴰ.tail m)))

trim-append : (c : Corner) (s t : List Corner) → ((q : Corner) → Memᴰ q s → ¬ (q ≡ c)) → trim c (s ++ t) ≡ s ++ trim c t
unfolding trim
trim-append c [] t h = refl
trim-append c (b ∷ []) [] h = trim-last c (b ∷ []) h
trim-append c (b ∷ []) (a ∷ t) h = refl
trim-append c (b ∷ (a ∷ s)) t h = ap (λ (t : List Corner). b ∷ t) (trim-append c (a ∷ s) t (λ q m. h q (Memᴰ.tail m)))

round_parts : (b : Corner) (s D : List Corner) → ((q : Corner) → Memᴰ q s → ¬ (q ≡ b)) → round (b ∷ s) D ≡ (b ∷ s) ++ trim b (behead (last_of b s) D)
unfolding round
round_parts b s D h = ap (λ (t : List Corner). b ∷ t) (trim-append b s (behead (last_of b s) D) h)

last-map : (f : ℕ → Corner) (b : ℕ) (s : List ℕ) → last_of (f b) (map f s) ≡ f (last_of b s)
unfolding last_of
last-map f b [] = refl
last-map f b (a ∷ s) = last-map f a s

-- the last of the list, if it has one
abbrev LastIs : ℕ → List ℕ → Type 0
LastIs k [] = Unit {0}
LastIs k (b ∷ s) = last_of b s ≡ k

module _ (g : ℕ → Corner) (c : Corner) where
  behead-is : (t : Bool) (b : ℕ) (s : List ℕ) → (t ≡ true → g b ≡ c) → (t ≡ false → ¬ (g b ≡ c)) → behead c (map g (b ∷ s)) ≡ map g (skip t (b ∷ s))
  unfolding behead
  behead-is t b s f n = go t f n (corner_dec (g b) c)
    where
      go : (t : Bool) → (t ≡ true → g b ≡ c) → (t ≡ false → ¬ (g b ≡ c)) → (z : Dec (g b ≡ c)) → elim z as (λ x. List Corner) [ yes e ↦ map g s | no e ↦ g b ∷ map g s ] ≡ map g (skip t (b ∷ s))
      go true f n (yes e) = refl
      go true f n (no e) = absurd (e (f refl))
      go false f n (yes e) = absurd (n refl e)
      go false f n (no e) = refl

  trim-is : (t : Bool) (k : ℕ) (s : List ℕ) → LastIs k s → (t ≡ true → g k ≡ c) → (t ≡ false → ¬ (g k ≡ c)) → trim c (map g s) ≡ map g (stop t s)
  unfolding trim last_of
  trim-is true k [] l f n = refl
  trim-is false k [] l f n = refl
  trim-is t k (b ∷ []) l f n = go t f n (corner_dec (g b) c)
    where
      go : (t : Bool) → (t ≡ true → g k ≡ c) → (t ≡ false → ¬ (g k ≡ c)) → (z : Dec (g b ≡ c)) → elim z as (λ x. List Corner) [ yes e ↦ [] | no e ↦ g b ∷ [] ] ≡ map g (stop t (b ∷ []))
      go true f n (yes e) = refl
      go true f n (no e) = absurd (e (ap g l ∙ f refl))
      go false f n (yes e) = absurd (n refl (ap g (sym l) ∙ e))
      go false f n (no e) = refl
  trim-is true k (b ∷ (a ∷ s)) l f n = ap (λ (r : List Corner). g b ∷ r) (trim-is true k (a ∷ s) l f n)
  trim-is false k (b ∷ (a ∷ s)) l f n = ap (λ (r : List Corner). g b ∷ r) (trim-is false k (a ∷ s) l f n)

last-skip : (k : ℕ) (t : Bool) (b : ℕ) (s : List ℕ) → last_of b s ≡ k → LastIs k (skip t (b ∷ s))
unfolding last_of
last-skip k true b [] e = tt
last-skip k true b (a ∷ s) e = e
last-skip k false b s e = e

-- the lower and the upper chain of columns 0 to k: h is the height from which the upper one counts down
module _ (x0 y0 : ℤ) (k h : ℕ) (lo hi : List ℕ) where
  f : ℕ → Corner
  f c = spot x0 y0 (col_at lo c)

  g : ℕ → Corner
  g c = spot_back (x0 +ℤ pos k) (y0 +ℤ pos h) (col_at hi c)

  -- if columns face each other the corners are one exactly when the heights together are h
  meets : (c d : ℕ) → c + d ≡ k → eqb (get_or lo c 0 + get_or hi d 0) h ≡ true → g d ≡ f c
  unfolding f g
  meets c d e t = corner_eq (spot_back (x0 +ℤ pos k) (y0 +ℤ pos h) (col_at hi d)) (spot x0 y0 (col_at lo c)) (over x0 c d k e) (over y0 (get_or lo c 0) (get_or hi d 0) h (eqb-true (get_or lo c 0 + get_or hi d 0) h t))
    where
      over : (z : ℤ) (m n j : ℕ) → m + n ≡ j → (z +ℤ pos j) -ℤ pos n ≡ z +ℤ pos m
      over z m n j e = omega (zarith, bal- (z +ℤ pos j) (pos n), bal+ z (pos j), bal+ z (pos m))

  parts : (c d : ℕ) → eqb (get_or lo c 0 + get_or hi d 0) h ≡ false → ¬ (g d ≡ f c)
  unfolding f g
  parts c d t e = eqb-false (get_or lo c 0 + get_or hi d 0) h t (over (get_or lo c 0) (get_or hi d 0) (ap (λ (z : Corner). z.1) e))
    where
      over : (m n : ℕ) → (y0 +ℤ pos h) -ℤ pos n ≡ y0 +ℤ pos m → m + n ≡ h
      over m n e = omega (zarith, bal- (y0 +ℤ pos h) (pos n), bal+ y0 (pos h), bal+ y0 (pos m))

  last_is : (ys : List ℕ) → last_of 0 (cut_at ys 0 (chain_from ys 1 k)) ≡ k
  unfolding chain_from last_of
  last_is ys = chain-last ys 0 0 k ∙ zero_left
    where
      zero_left : 0 + k ≡ k
      zero_left = omega arith

  apart : (q : Corner) → Memᴰ q (map f (cut_at lo 0 (chain_from lo 1 k))) → ¬ (q ≡ f 0)
  unfolding f
  apart q m e =
      let t = Memᴰ.of_map f (cut_at lo 0 (chain_from lo 1 k)) m in
      ne_x (f 0) (f t.0) (right t.0 (chain-rest lo 0 k t.0 t.1)) (sym (t.2 ∙ e))
    where
      right : (c : ℕ) → 0 < c → (x0 +ℤ pos 0) <ℤ (x0 +ℤ pos c)
      right c l = omega (zarith, bal+ x0 (pos 0), bal+ x0 (pos c))

  pub round_cols : round (map (λ c. spot x0 y0 (col_at lo c)) (chain_from lo 0 (suc k))) (map (λ c. spot_back (x0 +ℤ pos k) (y0 +ℤ pos h) (col_at hi c)) (chain_from hi 0 (suc k))) ≡ map (λ c. spot x0 y0 (col_at lo c)) (chain_from lo 0 (suc k)) ++ map (λ c. spot_back (x0 +ℤ pos k) (y0 +ℤ pos h) (col_at hi c)) (upper h lo hi k)
  unfolding chain_from f g last_of
  round_cols =
      round_parts (f 0) (map f s) (map g (0 ∷ r)) apart
      ∙ ap (λ (l : List Corner). (f 0 ∷ map f s) ++ l)
      (ap (λ (c : Corner). trim (f 0) (behead c (map g (0 ∷ r)))) (last-map f 0 s ∙ ap f (last_is lo))
      ∙ ap (trim (f 0)) (behead-is g (f k) (eqb (get_or lo k 0 + get_or hi 0 0) h) 0 r (meets k 0 (omega arith)) (parts k 0))
      ∙ trim-is g (f 0) (eqb (get_or lo 0 0 + get_or hi k 0) h) k (skip (eqb (get_or lo k 0 + get_or hi 0 0) h) (0 ∷ r)) (last-skip k (eqb (get_or lo k 0 + get_or hi 0 0) h) 0 r (last_is hi)) (meets 0 k (omega arith)) (parts 0 k))
    where
      s : List ℕ
      s = cut_at lo 0 (chain_from lo 1 k)

      r : List ℕ
      r = cut_at hi 0 (chain_from hi 1 k)

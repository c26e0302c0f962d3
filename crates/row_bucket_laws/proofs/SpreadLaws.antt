-- What is poured column by column and taken row by row is in order, and it is all that was there.
-- Assumes nothing.
use mathlib.Core.Path.{◌≡◌, refl, sym, ap, ap₂, ◌∙◌}
use mathlib.Core.Bool.{Bool, true, false, cond, ◌&&◌}
use mathlib.Core.List.Memᴰ
use mathlib.Core.List.{List, [], ◌∷◌, ◌++◌, Memᴰ}
use mathlib.Core.Logic.{◌⊎◌, inl, inr, ⊎_elim}
use Prim.Native.Nat.{ℕ, zero, suc, ◌+◌, ◌<◌, ◌≤◌}
use native.Mathlib.Omega.{arith}
use native.Mathlib.Decide.{dec_lt, ℕ_discrete}
use borrow.Author.Tests.{lt-ltb, le-ltb}
use lib.Dec.{eqb, ltb}
use Rattle.lists.specs.Lists.{tally, count}
use Rattle.lists.proofs.FindLaws.{count-append}
use Rattle.row_bucket_laws.specs.Buckets.{picked, pour, spread, rows_up, Ranked}
use Rattle.row_bucket_laws.proofs.BucketLaws.{picked_here, picked_other, picked-mem}

-- counting
module _ (f : ℕ → Bool) where
  count-pour : (l acc : List ℕ) → count f (pour l acc) ≡ count f l + count f acc
  count-pour [] acc = omega arith
  count-pour (p ∷ l) acc = omega (arith, count-pour l (p ∷ acc))

  module _ (key : ℕ → ℕ) where
    rows_out : (h k p : ℕ) (l : List ℕ) → key p < h → rows_up key h k (p ∷ l) ≡ rows_up key h k l
    rows_out h zero p l b = refl
    rows_out h (suc k) p l b = ap₂ (λ (a r : List ℕ). a ++ r) (picked_other key h p l (λ e. omega arith)) (rows_out (suc h) k p l (omega arith))

    rows_in : (h k p : ℕ) (l : List ℕ) → h ≤ key p → key p < h + k → count f (rows_up key h k (p ∷ l)) ≡ tally (f p) + count f (rows_up key h k l)
    rows_in h zero p l a b = absurd (omega arith)
    rows_in h (suc k) p l a b = go (ℕ_discrete (key p) h) (λ g. rows_in (suc h) k p l g (omega arith))
      where
        whole : count f (rows_up key h (suc k) (p ∷ l)) ≡ count f (picked key h (p ∷ l)) + count f (rows_up key (suc h) k (p ∷ l))
        whole = count-append f (picked key h (p ∷ l)) (rows_up key (suc h) k (p ∷ l))

        part : count f (rows_up key h (suc k) l) ≡ count f (picked key h l) + count f (rows_up key (suc h) k l)
        part = count-append f (picked key h l) (rows_up key (suc h) k l)

        go : Dec (key p ≡ h) → (suc h ≤ key p → count f (rows_up key (suc h) k (p ∷ l)) ≡ tally (f p) + count f (rows_up key (suc h) k l)) → count f (rows_up key h (suc k) (p ∷ l)) ≡ tally (f p) + count f (rows_up key h (suc k) l)
        go (yes e) ih = omega (arith, whole, part, ap (count f) (picked_here key h p l e), ap (count f) (rows_out (suc h) k p l (omega arith)))
        go (no e) ih = omega (arith, whole, part, ap (count f) (picked_other key h p l e), ih (omega arith))

    rows_nil : (h k : ℕ) → count f (rows_up key h k []) ≡ 0
    rows_nil h zero = refl
    rows_nil h (suc k) = rows_nil (suc h) k

    -- all rows have all
    pub rows_all : (k : ℕ) (l : List ℕ) → ((q : ℕ) → Memᴰ q l → key q < k) → count f (rows_up key 0 k l) ≡ count f l
    rows_all k [] b = rows_nil 0 k
    rows_all k (p ∷ l) b = omega (arith, rows_in 0 k p l (omega arith) (omega (arith, b p (Memᴰ.head refl))), rows_all k l (λ q m. b q (Memᴰ.tail m)))

    -- the columns from 1 on have those whose key is not 0
    columns_all : (k : ℕ) (l : List ℕ) → ((q : ℕ) → Memᴰ q l → key q ≤ k) → count f (rows_up key 1 k l) ≡ count (λ p. ltb 0 (key p) && f p) l
    columns_all k [] b = rows_nil 1 k
    columns_all k (p ∷ l) b = go (dec_lt 0 (key p)) (columns_all k l (λ q m. b q (Memᴰ.tail m)))
      where
        go : Dec (0 < key p) → count f (rows_up key 1 k l) ≡ count (λ p. ltb 0 (key p) && f p) l → count f (rows_up key 1 k (p ∷ l)) ≡ tally (ltb 0 (key p) && f p) + count (λ p. ltb 0 (key p) && f p) l
        go (yes h) ih = omega (arith, ih, rows_in 1 k p l h (omega (arith, b p (Memᴰ.head refl))), ap (λ (t : Bool). tally (t && f p)) (lt-ltb 0 (key p) h))
        go (no h) ih = omega (arith, ih, ap (count f) (rows_out 1 k p l (omega arith)), ap (λ (t : Bool). tally (t && f p)) (le-ltb 0 (key p) (omega arith)))

    rows_snoc : (h k : ℕ) (l : List ℕ) → count f (rows_up key h (suc k) l) ≡ count f (rows_up key h k l) + count f (picked key (h + k) l)
    rows_snoc h zero l = omega (arith, count-append f (picked key h l) [], ap (λ (z : ℕ). count f (picked key z l)) here)
      where
        here : h + 0 ≡ h
        here = omega arith
    rows_snoc h (suc k) l =
        omega (arith, count-append f (picked key h l) (rows_up key (suc h) (suc k) l), count-append f (picked key h l) (rows_up key (suc h) k l), rows_snoc (suc h) k l, ap (λ (z : ℕ). count f (picked key z l)) there)
      where
        there : suc h + k ≡ h + suc k
        there = omega arith

    count-spread : (k : ℕ) (l acc : List ℕ) → count f (spread key k l acc) ≡ count f (rows_up key 1 k l) + count f acc
    count-spread zero l acc = omega arith
    count-spread (suc k) l acc =
        omega (arith, count-spread k l (pour (picked key (suc k) l) acc), count-pour (picked key (suc k) l) acc, rows_snoc 1 k l, ap (λ (z : ℕ). count f (picked key z l)) next)
      where
        next : 1 + k ≡ suc k
        next = omega arith

    pub spread-all : (k : ℕ) (l : List ℕ) → ((q : ℕ) → Memᴰ q l → key q ≤ k) → count f (spread key k l []) ≡ count (λ p. ltb 0 (key p) && f p) l
    spread-all k l b = omega (arith, count-spread k l [], columns_all k l b)

-- order
module _ (key : ℕ → ℕ) where
  pour-mem : (l acc : List ℕ) (q : ℕ) → Memᴰ q (pour l acc) → Memᴰ q l ⊎ Memᴰ q acc
  pour-mem [] acc q m = inr m
  pour-mem (p ∷ l) acc q m = ⊎_elim (λ k. inl (Memᴰ.tail k)) (λ k. ⊎_elim (λ e. inl (Memᴰ.head e)) (λ n. inr n) (Memᴰ.cases_cons k)) (pour-mem l (p ∷ acc) q m)

  pub spread-mem : (k : ℕ) (l acc : List ℕ) (q : ℕ) → Memᴰ q (spread key k l acc) → Memᴰ q l ⊎ Memᴰ q acc
  spread-mem zero l acc q m = inr m
  spread-mem (suc k) l acc q m = ⊎_elim inl (λ n. ⊎_elim (λ j. inl (picked-mem key (suc k) l q j).0) inr (pour-mem (picked key (suc k) l) acc q n)) (spread-mem k l (pour (picked key (suc k) l) acc) q m)

  pour_ranked : (v : ℕ) (l acc : List ℕ) → ((q : ℕ) → Memᴰ q l → key q ≡ v) → ((q : ℕ) → Memᴰ q acc → v ≤ key q) → Ranked (λ a b. key a ≤ key b) acc → Ranked (λ a b. key a ≤ key b) (pour l acc)
  pour_ranked v [] acc s g r = r
  pour_ranked v (p ∷ l) acc s g r = pour_ranked v l (p ∷ acc) (λ q m. s q (Memᴰ.tail m)) more ((λ q m. omega (arith, s p (Memᴰ.head refl), g q m)), r)
    where
      more : (q : ℕ) → Memᴰ q (p ∷ acc) → v ≤ key q
      more q m = ⊎_elim (λ e. omega (arith, ap key e, s p (Memᴰ.head refl))) (g q) (Memᴰ.cases_cons m)

  pub spread_ranked : (k : ℕ) (l acc : List ℕ) → ((q : ℕ) → Memᴰ q acc → k < key q) → Ranked (λ a b. key a ≤ key b) acc → Ranked (λ a b. key a ≤ key b) (spread key k l acc)
  spread_ranked zero l acc g r = r
  spread_ranked (suc k) l acc g r = spread_ranked k l (pour (picked key (suc k) l) acc) more (pour_ranked (suc k) (picked key (suc k) l) acc (λ q m. (picked-mem key (suc k) l q m).1) (λ q m. omega (arith, g q m)) r)
    where
      more : (q : ℕ) → Memᴰ q (pour (picked key (suc k) l) acc) → k < key q
      more q m = ⊎_elim (λ n. omega (arith, (picked-mem key (suc k) l q n).1)) (λ n. omega (arith, g q n)) (pour-mem (picked key (suc k) l) acc q m)

  picked_ranked : (R : ℕ → ℕ → Type 0) (c : ℕ) (l : List ℕ) → Ranked R l → Ranked R (picked key c l)
  picked_ranked R c [] r = tt
  picked_ranked R c (p ∷ l) r = by (eqb (key p) c) (picked_ranked R c l r.1)
    where
      by : (b : Bool) → Ranked R (picked key c l) → Ranked R (cond b (p ∷ picked key c l) (picked key c l))
      by true ih = ((λ q m. r.0 q (picked-mem key c l q m).0), ih)
      by false ih = ih

  rows-mem : (h k : ℕ) (l : List ℕ) (q : ℕ) → Memᴰ q (rows_up key h k l) → Memᴰ q l × (h ≤ key q)
  rows-mem h zero l q m = absurd (Memᴰ.not-nil m)
  rows-mem h (suc k) l q m = ⊎_elim (λ n. let r = picked-mem key h l q n in (r.0, omega (arith, r.1))) (λ n. let r = rows-mem (suc h) k l q n in (r.0, omega (arith, r.1))) (Memᴰ.append_cases (picked key h l) m)

ranked_append : (R : ℕ → ℕ → Type 0) (a b : List ℕ) → Ranked R a → Ranked R b → ((p q : ℕ) → Memᴰ p a → Memᴰ q b → R p q) → Ranked R (a ++ b)
ranked_append R [] b r s f = s
ranked_append R (p ∷ a) b r s f = ((λ q m. ⊎_elim (r.0 q) (f p q (Memᴰ.head refl)) (Memᴰ.append_cases a m)), ranked_append R a b r.1 s (λ x q m. f x q (Memᴰ.tail m)))

ranked_map : (R S : ℕ → ℕ → Type 0) (l : List ℕ) → ((p q : ℕ) → Memᴰ p l → Memᴰ q l → R p q → S p q) → Ranked R l → Ranked S l
ranked_map R S [] f r = tt
ranked_map R S (p ∷ l) f r = ((λ q m. f p q (Memᴰ.head refl) (Memᴰ.tail m) (r.0 q m)), ranked_map R S l (λ a b m n. f a b (Memᴰ.tail m) (Memᴰ.tail n)) r.1)

-- by row, and in a row by column
abbrev pub Upward : (ℕ → ℕ) → (ℕ → ℕ) → ℕ → ℕ → Type 0
Upward key foot p q = (foot p < foot q) ⊎ ((foot p ≡ foot q) × (key p ≤ key q))

pub rows_ranked : (key foot : ℕ → ℕ) (h k : ℕ) (l : List ℕ) → Ranked (λ a b. key a ≤ key b) l → Ranked (Upward key foot) (rows_up foot h k l)
rows_ranked key foot h zero l r = tt
rows_ranked key foot h (suc k) l r =
    ranked_append (Upward key foot) (picked foot h l) (rows_up foot (suc h) k l)
    (ranked_map (λ a b. key a ≤ key b) (Upward key foot) (picked foot h l) (λ p q m n s. inr ((picked-mem foot h l p m).1 ∙ sym (picked-mem foot h l q n).1, s)) (picked_ranked foot (λ a b. key a ≤ key b) h l r))
    (rows_ranked key foot (suc h) k l r)
    (λ p q m n. inl (omega (arith, (picked-mem foot h l p m).1, (rows-mem foot (suc h) k l q n).1)))

-- The chain as it stands at the end of an array: a turn of the scan, and of what it drops.
-- Assumes nothing.
use mathlib.Core.Path.{◌≡◌, refl, sym, ap, ap₂, ◌∙◌, subst}
use mathlib.Core.Bool.{Bool, true, false, not}
use mathlib.Core.List.{List, [], ◌∷◌, Memᴰ}
use Prim.Native.Nat.{ℕ, zero, suc, ◌+◌, ◌-◌, ◌≤◌, ◌<◌}
use native.Mathlib.Omega.{arith}
use native.Mathlib.Numerals.{add-one}
use native.Mathlib.Decide.{dec_lt}
use lib.ListN.{length, get_or, drop, set, length-drop, drop_of_length-le}
use lib.Seq.{drop-cons, drop-set-lt, get_or-set_same, lt-length-set, get_or-drop}
use Rattle.hull_laws.specs.Chain.{turns_at, drops_at, cut_at, chain_from}
use Rattle.hull_laws.proofs.ScanLaws.{chain_in_lem}

-- whether the first of the chain is dropped
module _ (ys : List ℕ) (p : ℕ) where
  few_stay : (l : List ℕ) → length l < 2 → drops_at ys p l ≡ false
  unfolding drops_at
  few_stay [] h = refl
  few_stay (b ∷ []) h = refl
  few_stay (b ∷ (a ∷ l)) h = let z : ⊥ = omega arith in absurd z

  pub drops_short : (s : List ℕ) (q : ℕ) → length s - q < 2 → false ≡ drops_at ys p (drop q s)
  drops_short s q h = sym (few_stay (drop q s) (omega (arith, length-drop q s)))

  pub drops_long : (s : List ℕ) (q : ℕ) → q + 1 < length s → not (turns_at ys p (get_or s q 0) (get_or s (q + 1) 0)) ≡ drops_at ys p (drop q s)
  unfolding drops_at
  drops_long s q h =
      sym (ap (drops_at ys p) (drop-cons s q 0 (omega arith) ∙ ap (λ (l : List ℕ). get_or s q 0 ∷ l) (drop-cons s (suc q) 0 (omega arith)))
      ∙ ap (λ (i : ℕ). not (turns_at ys p (get_or s q 0) (get_or s i 0))) (sym (add-one q)))

  drops_two : (l : List ℕ) → drops_at ys p l ≡ true → 1 < length l
  drops_two l t = go (dec_lt 1 (length l))
    where
      go : Dec (1 < length l) → 1 < length l
      go (yes h) = h
      go (no h) = absurd (clash (sym (few_stay l (omega arith)) ∙ t))
        where
          clash : false ≡ true → ⊥
          clash e = let z : ◌≡◌ {A = ℕ} 0 1 = cc in omega arith

  pub drops_room : (s : List ℕ) (q : ℕ) → drops_at ys p (drop q s) ≡ true → q + 1 < length s
  drops_room s q t = omega (arith, drops_two (drop q s) t, length-drop q s)

  cut_drops : (b : ℕ) (l : List ℕ) → drops_at ys p (b ∷ l) ≡ true → cut_at ys p l ≡ cut_at ys p (b ∷ l)
  unfolding drops_at cut_at
  cut_drops b [] t = let z : ◌≡◌ {A = ℕ} 0 1 = cc in absurd (bad z)
    where
      bad : ◌≡◌ {A = ℕ} 0 1 → ⊥
      bad z = omega arith
  cut_drops b (a ∷ l) t = go (turns_at ys p b a) t
    where
      go : (t : Bool) → not t ≡ true → cut_at ys p (a ∷ l) ≡ elim t as (λ x. List ℕ) [ true ↦ b ∷ (a ∷ l) | false ↦ cut_at ys p (a ∷ l) ]
      go true e = let z : ◌≡◌ {A = ℕ} 0 1 = cc in absurd (bad z)
        where
          bad : ◌≡◌ {A = ℕ} 0 1 → ⊥
          bad z = omega arith
      go false e = refl

  pub drops_next : (s : List ℕ) (q : ℕ) → drops_at ys p (drop q s) ≡ true → cut_at ys p (drop (q + 1) s) ≡ cut_at ys p (drop q s)
  drops_next s q t =
      let h : q < length s = omega (arith, drops_room s q t) in
      ap (λ (i : ℕ). cut_at ys p (drop i s)) (add-one q)
      ∙ cut_drops (get_or s q 0) (drop (suc q) s) (ap (drops_at ys p) (sym (drop-cons s q 0 h)) ∙ t)
      ∙ ap (cut_at ys p) (sym (drop-cons s q 0 h))

  cut_stays : (l : List ℕ) → drops_at ys p l ≡ false → cut_at ys p l ≡ l
  unfolding drops_at cut_at
  cut_stays [] t = refl
  cut_stays (b ∷ []) t = refl
  cut_stays (b ∷ (a ∷ l)) t = go (turns_at ys p b a) t
    where
      go : (t : Bool) → not t ≡ false → elim t as (λ x. List ℕ) [ true ↦ b ∷ (a ∷ l) | false ↦ cut_at ys p (a ∷ l) ] ≡ b ∷ (a ∷ l)
      go true e = refl
      go false e = let z : ◌≡◌ {A = ℕ} 0 1 = cc in absurd (bad z)
        where
          bad : ◌≡◌ {A = ℕ} 0 1 → ⊥
          bad z = omega arith

  -- p is stored in front of what stays
  pub push_front : (s : List ℕ) (f : ℕ) (l : List ℕ) → 0 < f → f ≤ length s → drops_at ys p (drop f s) ≡ false → cut_at ys p (drop f s) ≡ l → drop (f - 1) (set s (f - 1) p) ≡ p ∷ l
  push_front s f l h g t e =
      drop-cons (set s (f - 1) p) (f - 1) 0 (lt-length-set s (f - 1) p (omega arith))
      ∙ ap₂ ◌∷◌ (get_or-set_same s (f - 1) p 0 (omega arith)) (ap (λ (i : ℕ). drop i (set s (f - 1) p)) back ∙ drop-set-lt f s (f - 1) p (omega arith) ∙ sym (cut_stays (drop f s) t) ∙ e)
    where
      back : suc (f - 1) ≡ f
      back = omega arith

-- what the array holds are columns of the chain
get_d_in : (l : List ℕ) (i : ℕ) → i < length l → Memᴰ (get_or l i 0) l
get_d_in [] i h = let z : ⊥ = omega arith in absurd z
get_d_in (x ∷ l) zero h = Memᴰ.head refl
get_d_in (x ∷ l) (suc i) h = Memᴰ.tail (get_d_in l i (omega arith))

pub stack_in : (ys s : List ℕ) (q i k j : ℕ) → drop q s ≡ chain_from ys i k → q ≤ j → j < length s → (i ≤ get_or s j 0) × (get_or s j 0 < i + k)
stack_in ys s q i k j e h g = chain_in_lem ys i k (get_or s j 0) (subst (λ (l : List ℕ). Memᴰ (get_or s j 0) l) e (subst (λ (c : ℕ). Memᴰ c (drop q s)) there (get_d_in (drop q s) (j - q) (omega (arith, length-drop q s)))))
  where
    there : get_or (drop q s) (j - q) 0 ≡ get_or s j 0
    there = get_or-drop q s (j - q) 0 ∙ ap (λ (i : ℕ). get_or s i 0) back
      where
        back : q + (j - q) ≡ j
        back = omega arith

pub stack_columns : (ys s : List ℕ) (q i n r : ℕ) → r < i → i ≤ n → n ≤ length ys → drop q s ≡ chain_from ys i (n - i) → (j : ℕ) → q ≤ j → j < length s → (r < get_or s j 0) × (get_or s j 0 < length ys)
stack_columns ys s q i n r a b c e j h g = let m = stack_in ys s q i (n - i) j e h g in (omega (arith, m.0), omega (arith, m.1))

pub scan_none : (ys s : List ℕ) (n : ℕ) → drop (length s) s ≡ chain_from ys n (n - n)
unfolding chain_from
scan_none ys s n = drop_of_length-le s {i = length s} (omega arith) ∙ ap (chain_from ys n) none
  where
    none : 0 ≡ n - n
    none = omega arith

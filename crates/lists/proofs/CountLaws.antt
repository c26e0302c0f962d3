-- How many elements pass a test, by membership; and sums over a list.
-- Assumes nothing.
use mathlib.Core.Bool.{Bool, true, false, true≢false}
use mathlib.Core.List.Memᴰ
use mathlib.Core.List.{List, [], ◌∷◌, ◌++◌, Memᴰ}
use mathlib.Core.Logic.{◌⊎◌, inl, inr, ⊎_elim}
use mathlib.Core.Path.{◌≡◌, refl, ap, ap₂, sym, ◌∙◌, subst}
use Prim.Native.Nat.{ℕ, zero, suc, ◌+◌, ◌<◌}
use native.Mathlib.Omega.{arith}
use lib.IntN.{ℤ, ◌+ℤ◌, +ℤ_assoc, +ℤ_idl}
use lib.ListN.{length}
use Rattle.lists.specs.Lists.{tally, count, any, sum_of, Distinct}
use Rattle.lists.proofs.FindLaws.{any-mem, any_some, count_none, count-any}
use Rattle.lists.proofs.KeepLaws.{keep}
use Rattle.lists.proofs.PigeonLaws.{pigeon}

pub sum-append : {A : Type 0} (f : A → ℤ) (l m : List A) → sum_of f (l ++ m) ≡ sum_of f l +ℤ sum_of f m
sum-append f [] m = sym (+ℤ_idl (sum_of f m))
sum-append f (x ∷ l) m = ap (λ (z : ℤ). f x +ℤ z) (sum-append f l m) ∙ sym (+ℤ_assoc (f x) (sum_of f l) (sum_of f m))

module _ {A : Type 0} (t : A → Bool) where
  pub count_never : (l : List A) → ((x : A) → Memᴰ x l → t x ≡ false) → count t l ≡ 0
  count_never [] h = refl
  count_never (x ∷ l) h = omega (arith, ap tally (h x (Memᴰ.head refl)), count_never l (λ y m. h y (Memᴰ.tail m)))

  pub count_some : (l : List A) → 0 < count t l → (x : A) × Memᴰ x l × (t x ≡ true)
  count_some l h = by (any t l) refl
    where
      by : (b : Bool) → any t l ≡ b → (x : A) × Memᴰ x l × (t x ≡ true)
      by true e = any_some t l e
      by false e = absurd (omega (arith, count_none t l e))

  pub count-mem : (l : List A) (x : A) → Memᴰ x l → t x ≡ true → 0 < count t l
  count-mem l x m e = by (count t l) refl
    where
      by : (n : ℕ) → count t l ≡ n → 0 < n
      by zero z = absurd (true≢false (sym (any-mem t x l m e) ∙ count-any t l z))
      by (suc n) z = omega arith

  keep_cases : (x : A) (l : List A) → ((t x ≡ true) × (keep t (x ∷ l) ≡ x ∷ keep t l)) ⊎ ((t x ≡ false) × (keep t (x ∷ l) ≡ keep t l))
  keep_cases x l = by (t x) refl
    where
      by : (b : Bool) → t x ≡ b → ((t x ≡ true) × (keep t (x ∷ l) ≡ x ∷ keep t l)) ⊎ ((t x ≡ false) × (keep t (x ∷ l) ≡ keep t l))
      by true e = inl (e, rw (e, keep))
      by false e = inr (e, rw (e, keep))

  keep-count : (l : List A) → length (keep t l) ≡ count t l
  keep-count [] = refl
  keep-count (x ∷ l) = ⊎_elim (λ h. omega (arith, ap length h.1, ap tally h.0, keep-count l)) (λ h. omega (arith, ap length h.1, ap tally h.0, keep-count l)) (keep_cases x l)

  keep-mem : {a : A} (l : List A) → Memᴰ a (keep t l) → Memᴰ a l × (t a ≡ true)
  keep-mem [] m = absurd (Memᴰ.not-nil m)
  keep-mem {a} (x ∷ l) m =
      ⊎_elim
      (λ h. ⊎_elim (λ e. (Memᴰ.head e, ap t e ∙ h.0)) (λ n. later (keep-mem l n)) (Memᴰ.cases_cons (subst (Memᴰ a) h.1 m)))
      (λ h. later (keep-mem l (subst (Memᴰ a) h.1 m)))
      (keep_cases x l)
    where
      later : Memᴰ a l × (t a ≡ true) → Memᴰ a (x ∷ l) × (t a ≡ true)
      later k = (Memᴰ.tail k.0, k.1)

  mem-keep : {a : A} (l : List A) → Memᴰ a l → t a ≡ true → Memᴰ a (keep t l)
  mem-keep [] m e = absurd (Memᴰ.not-nil m)
  mem-keep {a} (x ∷ l) m e =
      ⊎_elim
      (λ h. subst (Memᴰ a) (sym h.1) (⊎_elim (λ g. Memᴰ.head g) (λ n. Memᴰ.tail (mem-keep l n e)) (Memᴰ.cases_cons m)))
      (λ h. subst (Memᴰ a) (sym h.1) (⊎_elim (λ g. absurd (true≢false (sym e ∙ ap t g ∙ h.0))) (λ n. mem-keep l n e) (Memᴰ.cases_cons m)))
      (keep_cases x l)

  keep_distinct : (l : List A) → Distinct l → Distinct (keep t l)
  keep_distinct [] d = tt
  keep_distinct (x ∷ l) d =
      ⊎_elim
      (λ h. subst Distinct (sym h.1) ((λ m. d.0 (keep-mem l m).0), keep_distinct l d.1))
      (λ h. subst Distinct (sym h.1) (keep_distinct l d.1))
      (keep_cases x l)

  -- a list of exactly those elements, each once, has their number
  pub count_listed : (l s : List A) → Distinct l → Distinct s → ((a : A) → Memᴰ a s → Memᴰ a l × (t a ≡ true)) → ((a : A) → Memᴰ a l → t a ≡ true → Memᴰ a s) → length s ≡ count t l
  count_listed l s d g f h =
      let x = pigeon s (keep t l) g (λ a m. mem-keep l (f a m).0 (f a m).1) in
      let y = pigeon (keep t l) s (keep_distinct l d) (λ a m. let k = keep-mem l m in h a k.0 k.1) in
      omega (arith, keep-count l)

-- tests that agree on the elements
pub count_cong : {A : Type 0} (f g : A → Bool) (l : List A) → ((x : A) → Memᴰ x l → f x ≡ g x) → count f l ≡ count g l
count_cong f g [] h = refl
count_cong f g (x ∷ l) h = ap₂ ◌+◌ (ap tally (h x (Memᴰ.head refl))) (count_cong f g l (λ y m. h y (Memᴰ.tail m)))

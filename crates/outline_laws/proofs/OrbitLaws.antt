-- Repeated use of a function that is one-to-one on finitely many things comes back to where it began, and before that nothing is met twice.
-- Assumes nothing.
use mathlib.Core.Bool.{Bool, true, false}
use mathlib.Core.List.Memᴰ
use mathlib.Core.List.{List, [], ◌∷◌, ◌++◌, Memᴰ}
use mathlib.Core.Logic.{◌⊎◌, inl, inr, ⊎_elim}
use mathlib.Core.Path.{◌≡◌, refl, ap, sym, ◌∙◌, subst}
use Prim.Native.Nat.{ℕ, zero, suc, ◌<◌, ◌≤◌}
use native.Mathlib.Omega.{arith}
use lib.ListN.{length}
use Rattle.lists.specs.Lists.{Distinct, any}
use Rattle.lists.proofs.GatherLaws.{any→mem, not_mem, distinct_snoc}
use Rattle.lists.proofs.FindLaws.{distinct_split}
use Rattle.lists.proofs.PigeonLaws.{pigeon}

module _ {A : Type 0} (f : A → A) where
  -- after n uses
  abbrev pub after : ℕ → A → A
  after zero x = x
  after (suc n) x = after n (f x)

  -- the first n things met, x the first
  abbrev pub orbit : ℕ → A → List A
  orbit zero x = []
  orbit (suc n) x = x ∷ orbit n (f x)

module _ {A : Type 0} (f : A → A) where
  pub after_suc : (n : ℕ) (x : A) → after f (suc n) x ≡ f (after f n x)
  after_suc zero x = refl
  after_suc (suc n) x = after_suc n (f x)

  length-orbit : (n : ℕ) (x : A) → length (orbit f n x) ≡ n
  length-orbit zero x = refl
  length-orbit (suc n) x = ap suc (length-orbit n (f x))

  pub orbit_snoc : (n : ℕ) (x : A) → orbit f (suc n) x ≡ orbit f n x ++ (after f n x ∷ [])
  orbit_snoc zero x = refl
  orbit_snoc (suc n) x = ap (λ (l : List A). x ∷ l) (orbit_snoc n (f x))

  pub after-mem : (n k : ℕ) (x : A) → k < n → Memᴰ (after f k x) (orbit f n x)
  after-mem zero k x h = absurd (omega arith)
  after-mem (suc n) zero x h = Memᴰ.head refl
  after-mem (suc n) (suc k) x h = Memᴰ.tail (after-mem n k (f x) (omega arith))

  pub mem-after : (n : ℕ) (x : A) {y : A} → Memᴰ y (orbit f n x) → (k : ℕ) × (k < n) × (y ≡ after f k x)
  mem-after zero x m = absurd (Memᴰ.not-nil m)
  mem-after (suc n) x m =
      ⊎_elim
      (λ e. (0, omega arith, e))
      (λ t. let h = mem-after n (f x) t in (suc h.0, omega (arith, h.1), h.2))
      (Memᴰ.cases_cons m)

  -- if nothing is met twice there is no return sooner, to the first or to another
  pub no_sooner : (n k : ℕ) (x : A) → Distinct (orbit f n x) → 0 < k → k < n → after f k x ≡ x → ⊥
  no_sooner zero k x d h l e = omega arith
  no_sooner (suc n) zero x d h l e = omega arith
  no_sooner (suc n) (suc k) x d h l e = d.0 (Memᴰ.cast (sym e) (after-mem n k (f x) (omega arith)))

  pub no_twice : (n j k : ℕ) (x : A) → Distinct (orbit f n x) → j < k → k < n → after f k x ≡ after f j x → ⊥
  no_twice n zero k x d h l e = no_sooner n k x d h l e
  no_twice zero (suc j) k x d h l e = omega arith
  no_twice (suc n) (suc j) zero x d h l e = omega arith
  no_twice (suc n) (suc j) (suc k) x d h l e = no_twice n j k (f x) d.1 (omega arith) (omega arith) e

  module _ (On : A → Type 0) (closed : (x : A) → On x → On (f x)) where
    pub after_on : (n : ℕ) (x : A) → On x → On (after f n x)
    after_on zero x o = o
    after_on (suc n) x o = after_on n (f x) (closed x o)

    pub orbit_on : (n : ℕ) (x : A) {y : A} → On x → Memᴰ y (orbit f n x) → On y
    orbit_on n x o m = let h = mem-after n x m in subst On (sym h.2) (after_on h.0 x o)

    module _ (inj : (x y : A) → On x → On y → f x ≡ f y → x ≡ y) where
      earlier : (n : ℕ) (x y : A) → On x → On y → Memᴰ (f y) (orbit f n (f x)) → Memᴰ y (orbit f n x)
      earlier zero x y o p m = absurd (Memᴰ.not-nil m)
      earlier (suc n) x y o p m =
          ⊎_elim (λ e. Memᴰ.head (inj y x p o e)) (λ t. Memᴰ.tail (earlier n (f x) y (closed x o) p t)) (Memᴰ.cases_cons m)

      module _ (eq : A → A → Bool) (sound : (x y : A) → eq x y ≡ true → x ≡ y) (equal : (x : A) → eq x x ≡ true) where
        -- a first return after k uses
        abbrev Back : A → ℕ → Type 0
        Back x n = (k : ℕ) × (0 < k) × (k ≤ n) × (after f k x ≡ x) × Distinct (orbit f k x)

        within : (n : ℕ) (x : A) → On x → Distinct (orbit f (suc n) x) ⊎ Back x n
        within zero x o = inl (Memᴰ.not-nil, tt)
        within (suc n) x o = ⊎_elim (λ d. more d (any (eq (after f (suc n) x)) (orbit f (suc n) x)) refl) (λ b. inr (b.0, b.1, omega (arith, b.2), b.3, b.4)) (within n x o)
          where
            met : Distinct (orbit f (suc n) x) → Memᴰ (after f (suc n) x) (orbit f (suc n) x) → after f (suc n) x ≡ x
            met d m =
                ⊎_elim
                (λ e. e)
                (λ t. absurd (distinct_split (orbit f n x) [] (after f n x) (subst Distinct (orbit_snoc n x) d) (earlier n x (after f n x) o (after_on n x o) (Memᴰ.cast (sym (after_suc n x)) t))))
                (Memᴰ.cases_cons m)

            more : Distinct (orbit f (suc n) x) → (b : Bool) → any (eq (after f (suc n) x)) (orbit f (suc n) x) ≡ b → Distinct (orbit f (suc (suc n)) x) ⊎ Back x (suc n)
            more d true e = inr (suc n, omega arith, omega arith, met d (any→mem eq sound equal (after f (suc n) x) (orbit f (suc n) x) e), d)
            more d false e = inl (subst Distinct (sym (orbit_snoc (suc n) x)) (distinct_snoc (orbit f (suc n) x) (after f (suc n) x) d (not_mem eq sound equal (after f (suc n) x) (orbit f (suc n) x) e)))

        -- with all of them in a list, the return comes within its length
        pub returns : (D : List A) → ((x : A) → On x → Memᴰ x D) → (x : A) → On x → Back x (length D)
        returns D all x o =
            ⊎_elim
            (λ d. absurd (omega (arith, length-orbit (suc (length D)) x, pigeon (orbit f (suc (length D)) x) D d (λ a m. all a (orbit_on (suc (length D)) x o m)))))
            (λ b. b)
            (within (length D) x o)

-- two functions that agree on what is met
module _ {A : Type 0} (f g : A → A) where
  pub after-agree : (n : ℕ) (x : A) → ((k : ℕ) → k < n → g (after f k x) ≡ f (after f k x)) → after g n x ≡ after f n x
  after-agree zero x e = refl
  after-agree (suc n) x e = ap (after g n) (e 0 (omega arith)) ∙ after-agree n (f x) (λ k h. e (suc k) (omega arith))

  pub orbit-agree : (n : ℕ) (x : A) → ((k : ℕ) → k < n → g (after f k x) ≡ f (after f k x)) → orbit g n x ≡ orbit f n x
  orbit-agree zero x e = refl
  orbit-agree (suc n) x e = ap (λ (l : List A). x ∷ l) (ap (orbit g n) (e 0 (omega arith)) ∙ orbit-agree n (f x) (λ k h. e (suc k) (omega arith)))

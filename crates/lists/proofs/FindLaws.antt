-- The first place at which a test passes, how many pass, and one element more at the end of a list.
-- Assumes nothing.
use mathlib.Core.Bool.{Bool, true, false, ◌||◌, true≢false, false≢true}
use mathlib.Core.List.Memᴰ
use mathlib.Core.List.{List, [], ◌∷◌, ◌++◌, Memᴰ}
use mathlib.Core.Logic.{◌⊎◌, inl, inr, ⊎_map, ⊎_elim}
use mathlib.Core.Path.{◌≡◌, refl, ap, ap₂, sym, ◌∙◌}
use Prim.Native.Nat.{ℕ, zero, suc, ◌+◌, ◌<◌, ◌≤◌}
use native.Mathlib.Omega.{arith}
use lib.ListN.{length, get_or}
use Rattle.lists.specs.Lists.{any, find, place, count, tally}
use Rattle.lists.proofs.GatherLaws.{Distinct, or_cases, or_right}

place_cases : (b : Bool) (n : ℕ) → place b n ≤ suc n
place_cases true n = omega arith
place_cases false zero = omega arith
place_cases false (suc n) = omega arith

place_pos : (b : Bool) (n : ℕ) → (b ≡ true) ⊎ (0 < n) → 0 < place b n
place_pos true n h = omega arith
place_pos false zero (inl e) = absurd (false≢true e)
place_pos false zero (inr h) = h
place_pos false (suc n) h = omega arith

place-more : (n : ℕ) → 0 < n → place false n ≡ suc n
place-more zero h = absurd (omega arith)
place-more (suc n) h = refl

pub or_false : (a b : Bool) → (a || b) ≡ false → (a ≡ false) × (b ≡ false)
or_false true b e = absurd (true≢false e)
or_false false b e = (refl, e)

module _ {A : Type 0} (f : A → Bool) where
  pub find_le : (l : List A) → find f l ≤ length l
  find_le [] = omega arith
  find_le (x ∷ l) = omega (arith, find_le l, place_cases (f x) (find f l))

  pub find_pos : (l : List A) → any f l ≡ true → 0 < find f l
  find_pos [] e = absurd (false≢true e)
  find_pos (x ∷ l) e = place_pos (f x) (find f l) (⊎_map (λ h. h) (find_pos l) (or_cases (f x) (any f l) e))

  -- in the first part, the place is the same; else it is past it
  pub find-left : (s t : List A) → any f s ≡ true → find f (s ++ t) ≡ find f s
  find-left [] t e = absurd (false≢true e)
  find-left (x ∷ s) t e = go (f x) refl (λ h. find-left s t h)
    where
      go : (b : Bool) → f x ≡ b → (any f s ≡ true → find f (s ++ t) ≡ find f s) → place (f x) (find f (s ++ t)) ≡ place (f x) (find f s)
      go true p ih = rw p
      go false p ih = ap (place (f x)) (ih (⊎_elim (λ h. absurd (true≢false (sym h ∙ p))) (λ h. h) (or_cases (f x) (any f s) e)))

  pub find-right : (s t : List A) → any f s ≡ false → 0 < find f t → find f (s ++ t) ≡ length s + find f t
  find-right [] t e h = omega arith
  find-right (x ∷ s) t e h =
      let p = or_false (f x) (any f s) e in
      let k : find f (s ++ t) ≡ length s + find f t = find-right s t p.1 h in
      rw (p.0, place-more (find f (s ++ t)) (omega (arith, k, h))) (omega (arith, k))

pub distinct_split : {A : Type 0} (s t : List A) (c : A) → Distinct (s ++ (c ∷ t)) → Memᴰ c s → ⊥
distinct_split {A = A} [] t c d m = elim m [ ]
distinct_split (x ∷ s) t c d (Memᴰ.head e) = d.0 (Memᴰ.append_right s (Memᴰ.head (sym e)))
distinct_split (x ∷ s) t c d (Memᴰ.tail m) = distinct_split s t c d.1 m

module _ {A : Type 0} (f : A → Bool) where
  pub count_snoc : (l : List A) (x : A) → count f (l ++ (x ∷ [])) ≡ count f l + tally (f x)
  count_snoc [] x = omega arith
  count_snoc (y ∷ l) x = omega (arith, count_snoc l x)

  pub count-append : (l m : List A) → count f (l ++ m) ≡ count f l + count f m
  count-append [] m = omega arith
  count-append (y ∷ l) m = omega (arith, count-append l m)

  pub any_append : (s t : List A) → any f (s ++ t) ≡ (any f s || any f t)
  any_append [] t = refl
  any_append (x ∷ s) t = ap (λ (b : Bool). f x || b) (any_append s t) ∙ or_assoc (f x) (any f s) (any f t)
    where
      or_assoc : (a b c : Bool) → (a || (b || c)) ≡ ((a || b) || c)
      or_assoc true b c = refl
      or_assoc false b c = refl

  pub find_none : (l : List A) → any f l ≡ false → find f l ≡ 0
  find_none [] e = refl
  find_none (x ∷ l) e = go (f x) refl (any f l) refl (λ h. find_none l h)
    where
      go : (a : Bool) → f x ≡ a → (b : Bool) → any f l ≡ b → (any f l ≡ false → find f l ≡ 0) → place (f x) (find f l) ≡ 0
      go true p b q ih = absurd (true≢false (sym (rw p) ∙ e))
      go false p true q ih = absurd (true≢false (sym (rw (p, q)) ∙ e))
      go false p false q ih = rw (p, ih q)

  pub find-any : (l : List A) → 0 < find f l → any f l ≡ true
  find-any l h = go (any f l) refl
    where
      go : (b : Bool) → any f l ≡ b → any f l ≡ true
      go true e = e
      go false e = absurd (omega (arith, find_none l e))

  pub any-mem : (x : A) (l : List A) → Memᴰ x l → f x ≡ true → any f l ≡ true
  any-mem x [] m h = elim m [ ]
  any-mem x (y ∷ l) (Memᴰ.head e) h = rw (ap f (sym e) ∙ h)
  any-mem x (y ∷ l) (Memᴰ.tail m) h = or_right (f y) (any-mem x l m h)

  pub any_some : (l : List A) → any f l ≡ true → (x : A) × Memᴰ x l × (f x ≡ true)
  any_some [] e = absurd (false≢true e)
  any_some (y ∷ l) e =
      ⊎_elim
      (λ h. (y, Memᴰ.head refl, h))
      (λ h. let k = any_some l h in (k.0, Memᴰ.tail k.1, k.2))
      (or_cases (f y) (any f l) e)

  pub count_none : (l : List A) → any f l ≡ false → count f l ≡ 0
  count_none [] e = refl
  count_none (x ∷ l) e =
      let h = or_false (f x) (any f l) e in
      rw (h.0, count_none l h.1)

  pub count-any : (l : List A) → count f l ≡ 0 → any f l ≡ false
  count-any [] e = refl
  count-any (x ∷ l) e = go (f x) refl (count-any l (omega arith))
    where
      go : (b : Bool) → f x ≡ b → any f l ≡ false → any f (x ∷ l) ≡ false
      go true p h = absurd (omega (arith, ap tally p))
      go false p h = rw p h

  pub not_found : (l : List A) → find f l ≡ 0 → any f l ≡ false
  not_found l e = go (any f l) refl
    where
      go : (b : Bool) → any f l ≡ b → any f l ≡ false
      go true p = absurd (omega (arith, find_pos f l p))
      go false p = p

-- two tests that agree find the same place
pub find_cong : {A : Type 0} (f g : A → Bool) → ((x : A) → f x ≡ g x) → (l : List A) → find f l ≡ find g l
find_cong f g h [] = refl
find_cong f g h (x ∷ l) = ap₂ place (h x) (find_cong f g h l)

-- two tests that follow from one another agree
pub bool_agree : (a b : Bool) → (a ≡ true → b ≡ true) → (b ≡ true → a ≡ true) → a ≡ b
bool_agree true b f g = sym (f refl)
bool_agree false true f g = g refl
bool_agree false false f g = refl

place_false : (n j : ℕ) → place false n ≡ suc j → (n ≡ j) × (0 < n)
place_false zero j e = absurd (omega arith)
place_false (suc n) j e = (omega arith, omega arith)

-- where a test is first passed
pub find_get : {A : Type 0} (f : A → Bool) (l : List A) (j : ℕ) (z : A) → find f l ≡ suc j → (j < length l) × (f (get_or l j z) ≡ true)
find_get f [] j z e = absurd (omega arith)
find_get f (x ∷ l) j z e = go (f x) refl j e (λ k h. find_get f l k z h)
  where
    go : (b : Bool) → f x ≡ b → (j : ℕ) → place (f x) (find f l) ≡ suc j → ((k : ℕ) → find f l ≡ suc k → (k < length l) × (f (get_or l k z) ≡ true)) → (j < suc (length l)) × (f (get_or (x ∷ l) j z) ≡ true)
    go true p zero h ih = (omega arith, p)
    go true p (suc j) h ih = let k : 1 ≡ suc (suc j) = rw p at h in absurd (omega arith)
    go false p zero h ih = let k = place_false (find f l) 0 (rw p at h) in absurd (omega (arith, k.0, k.1))
    go false p (suc j) h ih = let k = place_false (find f l) (suc j) (rw p at h) in let i = ih j k.0 in (omega (arith, i.0), i.1)

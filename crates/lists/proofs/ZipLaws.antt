-- Places of two lists side by side, and a test that passes at some place.
-- Assumes nothing.
use mathlib.Core.Bool.{Bool, true, false}
use mathlib.Core.List.{List, [], ◌∷◌}
use mathlib.Core.Path.{◌≡◌, refl}
use Prim.Native.Nat.{ℕ, zero, suc, ◌<◌, ◌≤◌}
use native.Mathlib.Omega.{arith}
use lib.ListN.{length, get_or}
use Rattle.lists.specs.Lists.{any, find, place, zip}
use Rattle.lists.proofs.FindLaws.{find_get, find_pos, any-mem}
use Rattle.lists.proofs.DistinctLaws.{mem_get_d}

module _ {A : Type 0} where
  -- a place of the pairs is a place of both lists
  pub zip-within : (xs ys : List A) (i : ℕ) → i < length (zip xs ys) → (i < length xs) × (i < length ys)
  zip-within [] ys i h = absurd (omega arith)
  zip-within (x ∷ xs) [] i h = absurd (omega arith)
  zip-within (x ∷ xs) (y ∷ ys) zero h = (omega arith, omega arith)
  zip-within (x ∷ xs) (y ∷ ys) (suc i) h = let k = zip-within xs ys i (omega arith) in (omega (arith, k.0), omega (arith, k.1))

  pub zip-at : (xs ys : List A) (i : ℕ) (z : A) → i < length xs → i < length ys → (i < length (zip xs ys)) × (get_or (zip xs ys) i (z, z) ≡ (get_or xs i z, get_or ys i z))
  zip-at [] ys i z h k = absurd (omega arith)
  zip-at (x ∷ xs) [] i z h k = absurd (omega arith)
  zip-at (x ∷ xs) (y ∷ ys) zero z h k = (omega arith, refl)
  zip-at (x ∷ xs) (y ∷ ys) (suc i) z h k = let m = zip-at xs ys i z (omega arith) (omega arith) in (omega (arith, m.0), m.1)

module _ {A : Type 0} (f : A → Bool) where
  -- a test passes at some place, or at none
  pub any_at : (l : List A) (z : A) → any f l ≡ true → (i : ℕ) × (i < length l) × (f (get_or l i z) ≡ true)
  any_at l z e = by (find f l) refl
    where
      by : (n : ℕ) → find f l ≡ n → (i : ℕ) × (i < length l) × (f (get_or l i z) ≡ true)
      by zero p = absurd (omega (arith, find_pos f l e))
      by (suc i) p = let h = find_get f l i z p in (i, h.0, h.1)

  pub at-any : (l : List A) (i : ℕ) (z : A) → i < length l → f (get_or l i z) ≡ true → any f l ≡ true
  at-any l i z h e = any-mem f (get_or l i z) l (mem_get_d l i z h) e

  -- the first place is the least
  pub find_least : (l : List A) (i : ℕ) (z : A) → i < length l → f (get_or l i z) ≡ true → (0 < find f l) × (find f l ≤ suc i)
  find_least l i z h e = (find_pos f l (at-any l i z h e), least l i h e)
    where
      least : (l : List A) (i : ℕ) → i < length l → f (get_or l i z) ≡ true → find f l ≤ suc i
      least [] i h e = absurd (omega arith)
      least (x ∷ l) zero h e = rw (e, find) (omega arith)
      least (x ∷ l) (suc i) h e = by (f x) (find f l) (least l i (omega arith) e)
        where
          by : (b : Bool) (n : ℕ) → n ≤ suc i → place b n ≤ suc (suc i)
          by true n k = omega arith
          by false zero k = omega arith
          by false (suc n) k = omega arith

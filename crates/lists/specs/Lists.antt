-- Words about lists over a type with a Boolean test of equality: membership, first place, count, and the list without repeats.
-- Assumes nothing.
use Rattle.std.specs.Prelude.{Bool, true, false, ◌||◌, ℕ, zero, suc, ◌+◌, ◌<◌, ℤ, pos, ◌+ℤ◌, List, [], ◌∷◌, ◌++◌}
use mathlib.Core.List.{Memᴰ}

-- 1 for a test that passes
abbrev pub tally : Bool → ℕ
tally true = 1
tally false = 0

-- 1 if the head passes; otherwise one more than in the tail, if it is there at all
abbrev pub place : Bool → ℕ → ℕ
place true n = 1
place false zero = 0
place false (suc n) = suc (suc n)

module _ {A : Type 0} where
  -- some element passes the test
  abbrev pub any : (A → Bool) → List A → Bool
  any f [] = false
  any f (x ∷ xs) = f x || any f xs

  -- 1 + the place of the first element that passes; 0 if none does
  abbrev pub find : (A → Bool) → List A → ℕ
  find f [] = 0
  find f (x ∷ xs) = place (f x) (find f xs)

  -- how many elements pass
  abbrev pub count : (A → Bool) → List A → ℕ
  count f [] = 0
  count f (x ∷ xs) = tally (f x) + count f xs

  -- the sum of a value over the elements
  abbrev pub sum_of : (A → ℤ) → List A → ℤ
  sum_of f [] = pos 0
  sum_of f (x ∷ xs) = f x +ℤ sum_of f xs

  -- the list, with x at its end unless the test says that it is there already
  abbrev unless : Bool → List A → A → List A
  unless true seen x = seen
  unless false seen x = seen ++ (x ∷ [])

  abbrev pub add : (A → A → Bool) → List A → A → List A
  add eq seen x = unless (any (eq x) seen) seen x

  -- the list, then each element of the second list that is not there yet, in order, once
  abbrev pub gather : (A → A → Bool) → List A → List A → List A
  gather eq seen [] = seen
  gather eq seen (x ∷ xs) = gather eq (add eq seen x) xs

  -- the pairs at equal places, as far as both lists go
  abbrev pub zip : {B : Type 0} → List A → List B → List (A × B)
  zip [] ys = []
  zip (x ∷ xs) [] = []
  zip (x ∷ xs) (y ∷ ys) = (x, y) ∷ zip xs ys

  -- the list without its last element
  abbrev pub front : List A → List A
  front [] = []
  front (x ∷ []) = []
  front (x ∷ y ∷ ys) = x ∷ front (y ∷ ys)

-- no element stands twice
abbrev pub Distinct : {A : Type 0} → List A → Type 0
Distinct [] = Unit {0}
Distinct (x ∷ xs) = (Memᴰ x xs → ⊥) × Distinct xs

-- every element is below k
abbrev pub Below : ℕ → List ℕ → Type 0
Below k [] = Unit {0}
Below k (d ∷ ds) = (d < k) × Below k ds

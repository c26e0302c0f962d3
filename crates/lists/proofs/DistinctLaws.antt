-- Lists in which no element stands twice, by places.
-- Assumes nothing.
use mathlib.Core.List.Memᴰ
use mathlib.Core.List.{List, [], ◌∷◌, ◌++◌, Memᴰ}
use mathlib.Core.Logic.{⊎_elim}
use mathlib.Core.Path.{◌≡◌, refl, sym}
use Prim.Native.Nat.{ℕ, zero, suc, ◌<◌}
use native.Mathlib.Omega.{arith}
use lib.ListN.{length, get_or, take}
use Rattle.lists.specs.Lists.{Distinct}

module _ {A : Type 0} where
  pub mem_get_d : (l : List A) (i : ℕ) (z : A) → i < length l → Memᴰ (get_or l i z) l
  mem_get_d [] i z h = absurd (omega arith)
  mem_get_d (x ∷ l) zero z h = Memᴰ.head refl
  mem_get_d (x ∷ l) (suc i) z h = Memᴰ.tail (mem_get_d l i z (omega arith))

  pub get_d_mem : (l : List A) (z : A) {a : A} → Memᴰ a l → (i : ℕ) × (i < length l) × (get_or l i z ≡ a)
  get_d_mem [] z {a = a} m = elim m [ ]
  get_d_mem (x ∷ l) z (Memᴰ.head e) = (0, omega arith, sym e)
  get_d_mem (x ∷ l) z (Memᴰ.tail m) = let h = get_d_mem l z m in (suc h.0, omega (arith, h.1), h.2)

  pub distinct_get_d : (l : List A) (i m : ℕ) (z : A) → Distinct l → i < m → m < length l → get_or l i z ≡ get_or l m z → ⊥
  distinct_get_d [] i m z d h k e = omega arith
  distinct_get_d (x ∷ l) i zero z d h k e = omega arith
  distinct_get_d (x ∷ l) zero (suc m) z d h k e = d.0 (Memᴰ.cast e (mem_get_d l m z (omega arith)))
  distinct_get_d (x ∷ l) (suc i) (suc m) z d h k e = distinct_get_d l i m z d.1 (omega arith) (omega arith) e

  pub mem-take : (k : ℕ) (l : List A) {a : A} → Memᴰ a (take k l) → Memᴰ a l
  mem-take zero l m = absurd (Memᴰ.not-nil m)
  mem-take (suc k) [] m = m
  mem-take (suc k) (x ∷ l) (Memᴰ.head e) = Memᴰ.head e
  mem-take (suc k) (x ∷ l) (Memᴰ.tail m) = Memᴰ.tail (mem-take k l m)

  -- one after another that has nothing in common with it
  pub distinct_append : (l m : List A) → Distinct l → Distinct m → ((x : A) → Memᴰ x l → Memᴰ x m → ⊥) → Distinct (l ++ m)
  distinct_append [] m h g f = g
  distinct_append (x ∷ l) m h g f = ((λ k. ⊎_elim h.0 (f x (Memᴰ.head refl)) (Memᴰ.append_cases l k)), distinct_append l m h.1 g (λ y k. f y (Memᴰ.tail k)))

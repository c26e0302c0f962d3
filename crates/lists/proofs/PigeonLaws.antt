-- A list with no element twice, all of whose elements are in another list, is no longer than that.
-- Assumes nothing.
use mathlib.Core.List.Memᴰ
use mathlib.Core.List.{List, [], ◌∷◌, Memᴰ}
use mathlib.Core.Logic.{⊎_elim}
use mathlib.Core.Path.{◌≡◌, refl, ap, sym, ◌∙◌}
use Prim.Native.Nat.{suc, ◌≤◌}
use native.Mathlib.Omega.{arith}
use lib.ListN.{length}
use Rattle.lists.proofs.GatherLaws.{Distinct}

module _ {A : Type 0} where
  -- a list without one element
  split : {x : A} {l : List A} → Memᴰ x l → (r : List A) × (length l ≡ suc (length r)) × ((a : A) → (a ≡ x → ⊥) → Memᴰ a l → Memᴰ a r)
  split {x} (Memᴰ.head {x = y} {xs = l} e) =
      (l, refl, λ a f m. ⊎_elim (λ g. absurd (f (g ∙ sym e))) (λ n. n) (Memᴰ.cases_cons m))
  split {x} (Memᴰ.tail {x = y} {xs = l} m) =
      let h = split m in
      (y ∷ h.0, ap suc h.1, λ a f n. ⊎_elim (λ g. Memᴰ.head g) (λ k. Memᴰ.tail (h.2 a f k)) (Memᴰ.cases_cons n))

  pub pigeon : (xs ys : List A) → Distinct xs → ((a : A) → Memᴰ a xs → Memᴰ a ys) → length xs ≤ length ys
  pigeon [] ys d f = omega arith
  pigeon (x ∷ xs) ys d f =
      let h = split (f x (Memᴰ.head refl)) in
      let k : length xs ≤ length h.0 = pigeon xs h.0 d.1 (λ a m. h.2 a (λ e. d.0 (Memᴰ.cast (sym e) m)) (f a (Memᴰ.tail m))) in
      omega (arith, h.1)

-- Numbers that are set once, and the first place in a list that has one element more at its end.
-- Assumes nothing.
use mathlib.Core.Bool.{Bool, true, false, ◌||◌}
use mathlib.Core.List.{List, [], ◌∷◌, ◌++◌}
use mathlib.Core.Logic.{◌⊎◌, inl, inr}
use mathlib.Core.Path.{◌≡◌, refl, ap, ◌∙◌}
use Prim.Native.Nat.{ℕ, zero, suc, ◌<◌}
use native.Mathlib.Omega.{arith}
use lib.ListN.{length}
use Rattle.lists.specs.Lists.{find, place}
use Rattle.tree_laws.specs.State.{later}
use Rattle.tree_laws.proofs.LaterCases as cases

pub later-old : (n : ℕ) (b : Bool) (s : ℕ) → 0 < n → later n b s ≡ n
later-old zero b s h = absurd (omega arith)
later-old (suc n) b s h = refl

pub later_new : (n : ℕ) (b : Bool) (s : ℕ) → n ≡ 0 → b ≡ true → later n b s ≡ s
later_new n b s e f = rw (e, f)

pub later-none : (n : ℕ) (b : Bool) (s : ℕ) → b ≡ false → later n b s ≡ n
later-none zero b s f = rw f
later-none (suc n) b s f = refl

pub later_pos : (n : ℕ) (b : Bool) (s : ℕ) → 0 < later n b s → (0 < n) ⊎ (b ≡ true)
later_pos zero true s h = inr refl
later_pos zero false s h = inl h
later_pos (suc n) b s h = inl (omega arith)

-- one that is set in two goes
pub later_or : (n : ℕ) (a b : Bool) (s : ℕ) → later n (a || b) s ≡ later (later n b s) a s
later_or zero true true zero = refl
later_or zero true true (suc s) = refl
later_or zero true false s = refl
later_or zero false true zero = refl
later_or zero false true (suc s) = refl
later_or zero false false s = refl
later_or (suc n) a b s = refl

place-later : (b c : Bool) (n m : ℕ) → place b (later n c (suc m)) ≡ later (place b n) c (suc (suc m))
place-later true c n m = refl
place-later false true zero m = refl
place-later false false zero m = refl
place-later false c (suc n) m = refl

module _ {A : Type 0} (f : A → Bool) where
  pub find_snoc : (l : List A) (x : A) → find f (l ++ (x ∷ [])) ≡ later (find f l) (f x) (suc (length l))
  find_snoc [] x = go (f x)
    where
      go : (b : Bool) → place b 0 ≡ later 0 b 1
      go true = refl
      go false = refl
  find_snoc (y ∷ l) x = ap (place (f y)) (find_snoc l x) ∙ place-later (f y) (f x) (find f l) (length l)

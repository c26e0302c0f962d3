-- First places, counts and gathered lists, computed.
-- Assumes nothing.
use mathlib.Core.List.{[], ◌∷◌}
use mathlib.Core.Path.{◌≡◌, refl}
use Prim.Native.Nat.{ℕ}
use lib.Dec.{eqb}
use Rattle.lists.specs.Lists.{find, count, gather, zip, front}

-- the first of two places, not the last
first_of_two : find (eqb 7) (5 ∷ 7 ∷ 7 ∷ []) ≡ 2
first_of_two = refl

nowhere : find (eqb 7) (5 ∷ 6 ∷ []) ≡ 0
nowhere = refl

both_counted : count (eqb 7) (7 ∷ 5 ∷ 7 ∷ []) ≡ 2
both_counted = refl

-- each once, where it first stood
each_once : gather eqb (3 ∷ []) (5 ∷ 3 ∷ 5 ∷ 4 ∷ []) ≡ 3 ∷ 5 ∷ 4 ∷ []
each_once = refl

-- as far as both go
shorter_of_two : zip {A = ℕ} {B = ℕ} (1 ∷ 2 ∷ 3 ∷ []) (4 ∷ 5 ∷ []) ≡ (1, 4) ∷ (2, 5) ∷ []
shorter_of_two = refl

last-one_off : front {A = ℕ} (1 ∷ 2 ∷ 3 ∷ []) ≡ 1 ∷ 2 ∷ []
last-one_off = refl

-- The answer of a call that lists, and its buffer, computed.
-- Assumes nothing.
use Rattle.std.specs.Prelude.{Err, Ok}
use mathlib.Core.List.{[], ◌∷◌}
use mathlib.Core.Path.{◌≡◌, refl}
use Prim.Native.Nat.{ℕ}
use Rattle.answer.specs.declared.Refusal.TheVariants.{HullRoom}
use Rattle.answer.specs.Listed.{counted_of, laid_if}

-- how many there are, and no refusal
count_of_six : counted_of (Ok tt) 6 ≡ Ok 6
count_of_six = refl

-- what stood after the list stays
rest_stays : laid_if {A = ℕ} (Ok tt) (1 ∷ 2 ∷ []) (7 ∷ 8 ∷ 9 ∷ []) ≡ 1 ∷ 2 ∷ 9 ∷ []
rest_stays = refl

-- a refused call writes nothing
refused_writes_nothing : laid_if {A = ℕ} (Err HullRoom) (1 ∷ 2 ∷ []) (7 ∷ 8 ∷ []) ≡ 7 ∷ 8 ∷ []
refused_writes_nothing = refl

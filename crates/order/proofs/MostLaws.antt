-- The greatest of some bytes: none is above it, and it is found one byte after the other.
-- Assumes nothing.
use mathlib.Core.Path.{◌≡◌, ap, sym, ◌∙◌}
use mathlib.Core.List.{List, [], ◌∷◌}
use Prim.Native.Nat.{ℕ, zero, suc, ◌+◌, ◌≤◌, ◌<◌, max}
use native.Mathlib.Numerals.{add-one}
use native.Mathlib.Omega.{arith}
use lib.ListN.{length, get_or, drop, drop_of_length-le}
use lib.Seq.{drop-cons}
use Rattle.order.specs.Highest.{highest_of}

-- no byte is above it
pub highest_most : (bytes : List ℕ) (k : ℕ) → get_or bytes k 0 ≤ highest_of bytes
highest_most [] k = omega arith
highest_most (b ∷ bs) zero = omega arith
highest_most (b ∷ bs) (suc k) = omega (arith, highest_most bs k)

-- the greatest so far and those left give the whole, one byte further
pub highest-next : (bytes : List ℕ) (i m m' : ℕ) → i < length bytes → max m (highest_of (drop i bytes)) ≡ highest_of bytes → m' ≡ max m (get_or bytes i 0) → max m' (highest_of (drop (i + 1) bytes)) ≡ highest_of bytes
highest-next bytes i m m' l h e = omega (arith, h, e, left)
  where
    left : highest_of (drop i bytes) ≡ max (get_or bytes i 0) (highest_of (drop (i + 1) bytes))
    left = ap highest_of (drop-cons bytes i 0 l) ∙ ap (λ (j : ℕ). max (get_or bytes i 0) (highest_of (drop j bytes))) (sym (add-one i))

-- with none left it is the whole
pub highest_end : (bytes : List ℕ) (i m : ℕ) → length bytes ≤ i → max m (highest_of (drop i bytes)) ≡ highest_of bytes → m ≡ highest_of bytes
highest_end bytes i m l h = omega (arith, h, ap highest_of (drop_of_length-le bytes l))

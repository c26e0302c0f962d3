-- Lists whose elements are all below a number.
-- Assumes nothing.
use mathlib.Core.List.{List, [], ◌∷◌}
use Prim.Native.Nat.{ℕ, zero, suc, ◌<◌}
use native.Mathlib.Omega.{arith}
use lib.ListN.{length, get_or}
use Rattle.lists.specs.Lists.{Below}

pub below_get_d : (k : ℕ) (l : List ℕ) (i : ℕ) → Below k l → i < length l → get_or l i 0 < k
below_get_d k [] i b h = absurd (omega arith)
below_get_d k (x ∷ l) zero b h = b.0
below_get_d k (x ∷ l) (suc i) b h = below_get_d k l i b.1 (omega arith)

pub below_all : (k : ℕ) (l : List ℕ) → ((i : ℕ) → get_or l i 0 < k) → Below k l
below_all k [] f = tt
below_all k (x ∷ l) f = (f 0, below_all k l (λ i. f (suc i)))

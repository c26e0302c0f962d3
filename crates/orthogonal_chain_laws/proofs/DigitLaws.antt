-- The steps of the chain around a pile are digits below 4, as every call asks.
-- Assumes nothing.
use mathlib.Core.List.{List, [], ◌∷◌, ◌++◌}
use Prim.Native.Nat.{ℕ, zero, suc, ◌+◌, ◌-◌, ◌<◌}
use native.Mathlib.Omega.{arith}
use lib.ListN.{replicate}
use Rattle.lists.specs.Lists.{Below}
use Rattle.orthogonal_chain_laws.specs.Chain.{sideways, left_side, right_side, chain_from_row}

below_append : (s t : List ℕ) → Below 4 s → Below 4 t → Below 4 (s ++ t)
below_append [] t g h = h
below_append (d ∷ s) t g h = (g.0, below_append s t g.1 h)

below_replicate : (n d : ℕ) → d < 4 → Below 4 (replicate n d)
below_replicate zero d h = tt
below_replicate (suc n) d h = (h, below_replicate n d h)

sideways_digits : (a b : ℕ) → Below 4 (sideways a b)
sideways_digits a b = below_append (replicate (b - a) 0) (replicate (a - b) 2) (below_replicate (b - a) 0 (omega arith)) (below_replicate (a - b) 2 (omega arith))

left_digits : (l : ℕ → ℕ) (m n : ℕ) → Below 4 (left_side l m n)
left_digits l m zero = tt
left_digits l m (suc n) = below_append (sideways (l (m + suc n)) (l (m + n))) (3 ∷ left_side l m n) (sideways_digits (l (m + suc n)) (l (m + n))) (omega arith, left_digits l m n)

right_digits : (r : ℕ → ℕ) (q n : ℕ) → Below 4 (right_side r q n)
right_digits r q zero = (omega arith, tt)
right_digits r q (suc n) = (omega arith, below_append (sideways (r q) (r (suc q))) (right_side r (suc q) n) (sideways_digits (r q) (r (suc q))) (right_digits r (suc q) n))

pub chain_digits : (l r : ℕ → ℕ) (t k : ℕ) → Below 4 (chain_from_row l r t k)
chain_digits l r t k =
    let e : List ℕ = 3 ∷ left_side l k (t - k) in
    let d = sideways (r t) (l t) ++ e in
    let c = right_side r 0 t ++ d in
    below_append (left_side l 0 k) (sideways (l 0) (r 0) ++ c) (left_digits l 0 k) (below_append (sideways (l 0) (r 0)) c (sideways_digits (l 0) (r 0))
    (below_append (right_side r 0 t) d (right_digits r 0 t) (below_append (sideways (r t) (l t)) e (sideways_digits (r t) (l t)) (omega arith, left_digits l k (t - k)))))

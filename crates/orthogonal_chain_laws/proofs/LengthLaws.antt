-- How many steps the chain around a pile has. If its left ends fall and then rise, and its right ends rise and then fall, they are twice its width
-- and twice its height.
-- Assumes nothing.
use mathlib.Core.List.{List, ◌∷◌, ◌++◌}
use mathlib.Core.Path.{◌≡◌, ap, ◌∙◌}
use Prim.Native.Nat.{ℕ, zero, suc, ◌+◌, ◌-◌, ◌*◌, ◌<◌, ◌≤◌}
use native.Mathlib.Decide.{dec_lt}
use native.Mathlib.Omega.{arith}
use lib.ListN.{length, replicate, length-append, length-replicate}
use Rattle.orthogonal_chain_laws.specs.Chain.{Piled, Bulges, sideways, left_side, right_side, chain_from_row}

length-sideways : (a b : ℕ) → length (sideways a b) ≡ (b - a) + (a - b)
length-sideways a b = length-append (replicate (b - a) 0) (replicate (a - b) 2) ∙ omega (arith, length-replicate {A = ℕ} (b - a) 0, length-replicate {A = ℕ} (a - b) 2)

length-left : (l : ℕ → ℕ) (m n : ℕ) → length (left_side l m (suc n)) ≡ ((l (m + n) - l (m + suc n)) + (l (m + suc n) - l (m + n))) + suc (length (left_side l m n))
length-left l m n = length-append (sideways (l (m + suc n)) (l (m + n))) (3 ∷ left_side l m n) ∙ omega (arith, length-sideways (l (m + suc n)) (l (m + n)))

length-right : (r : ℕ → ℕ) (q n : ℕ) → length (right_side r q (suc n)) ≡ suc (((r (suc q) - r q) + (r q - r (suc q))) + length (right_side r (suc q) n))
length-right r q n = ap suc (length-append (sideways (r q) (r (suc q))) (right_side r (suc q) n)) ∙ omega (arith, length-sideways (r q) (r (suc q)))

-- the parts of the chain
length-chain : (l r : ℕ → ℕ) (t k : ℕ)
    → length (chain_from_row l r t k) ≡ length (left_side l 0 k) + (((r 0 - l 0) + (l 0 - r 0)) + (length (right_side r 0 t) + (((l t - r t) + (r t - l t)) + suc (length (left_side l k (t - k))))))
length-chain l r t k =
    let e : List ℕ = 3 ∷ left_side l k (t - k) in
    let d = sideways (r t) (l t) ++ e in
    let c = right_side r 0 t ++ d in
    omega (arith, length-append (left_side l 0 k) (sideways (l 0) (r 0) ++ c), length-append (sideways (l 0) (r 0)) c, length-append (right_side r 0 t) d, length-append (sideways (r t) (l t)) e, length-sideways (l 0) (r 0), length-sideways (r t) (l t))

some_right : (r : ℕ → ℕ) (q n : ℕ) → 0 < length (right_side r q n)
some_right r q zero = omega arith
some_right r q (suc n) = omega arith

-- a step each way at least
pub chain_four : (l r : ℕ → ℕ) (t k : ℕ) → Piled l r t → 4 ≤ length (chain_from_row l r t k)
chain_four l r t k p = omega (arith, length-chain l r t k, some_right r 0 t, p.wide 0 (omega arith), p.wide t (omega arith))

-- ends that rise, and ends that fall
module _ (f : ℕ → ℕ) where
  abbrev Rises : ℕ → ℕ → Type 0
  Rises a n = (i : ℕ) → a ≤ i → i < a + n → f i ≤ f (suc i)

  abbrev pub Falls : ℕ → ℕ → Type 0
  Falls a n = (i : ℕ) → a ≤ i → i < a + n → f (suc i) ≤ f i

  level : (a : ℕ) → f (a + 0) ≡ f a
  level a = ap f (omega arith)

  next : (a n : ℕ) → f (a + suc n) ≡ f (suc (a + n))
  next a n = ap f (omega arith)

  rises_up : (a n : ℕ) → Rises a n → f a ≤ f (a + n)
  rises_up a zero h = omega (arith, level a)
  rises_up a (suc n) h = omega (arith, rises_up a n (λ i g k. h i g (omega arith)), h (a + n) (omega arith) (omega arith), next a n)

  pub falls_down : (a n : ℕ) → Falls a n → f (a + n) ≤ f a
  falls_down a zero h = omega (arith, level a)
  falls_down a (suc n) h = omega (arith, falls_down a n (λ i g k. h i g (omega arith)), h (a + n) (omega arith) (omega arith), next a n)

  left_falls : (a n : ℕ) → Falls a n → length (left_side f a n) + f (a + n) ≡ n + f a
  left_falls a zero h = omega (arith, level a)
  left_falls a (suc n) h = omega (arith, length-left f a n, left_falls a n (λ i g k. h i g (omega arith)), h (a + n) (omega arith) (omega arith), next a n)

  left_rises : (a n : ℕ) → Rises a n → length (left_side f a n) + f a ≡ n + f (a + n)
  left_rises a zero h = omega (arith, level a)
  left_rises a (suc n) h = omega (arith, length-left f a n, left_rises a n (λ i g k. h i g (omega arith)), h (a + n) (omega arith) (omega arith), next a n)

  right_falls : (n q : ℕ) → Falls q n → length (right_side f q n) + f (q + n) ≡ suc n + f q
  right_falls zero q h = omega (arith, level q)
  right_falls (suc n) q h = omega (arith, length-right f q n, right_falls n (suc q) (λ i g k. h i (omega arith) (omega arith)), h q (omega arith) (omega arith), shift)
    where
      shift : f (suc q + n) ≡ f (q + suc n)
      shift = ap f (omega arith)

  -- up to row j they rise, and after it they fall
  right_bulges : (n q j : ℕ) → q ≤ j → j ≤ q + n → ((i : ℕ) → q ≤ i → i < j → f i ≤ f (suc i)) → ((i : ℕ) → j ≤ i → i < q + n → f (suc i) ≤ f i)
      → length (right_side f q n) + (f q + f (q + n)) ≡ suc n + 2 * f j
  right_bulges zero q j a b up down = omega (arith, level q, same)
    where
      same : f j ≡ f q
      same = ap f (omega arith)
  right_bulges (suc n) q j a b up down =
      elim (dec_lt q j) [
        | yes g ↦ omega (arith, length-right f q n, right_bulges n (suc q) j g (omega arith) (λ i u v. up i (omega arith) v) (λ i u v. down i u (omega arith)), up q (omega arith) g, shift)
        | no g ↦ let e : j ≡ q = omega arith in omega (arith, right_falls (suc n) q (λ i u v. down i (omega (arith, e)) v), ap f e)
      ]
    where
      shift : f (suc q + n) ≡ f (q + suc n)
      shift = ap f (omega arith)

-- the least left end is that of row k, the greatest right end that of row j
module _ {l r : ℕ → ℕ} {t k j : ℕ} (b : Bulges l r t k j) where
  up : (f : ℕ → ℕ) (u v : ℕ) → u ≤ v → f (u + (v - u)) ≡ f v
  up f u v h = ap f (omega arith)

  pub bulge_least : (q : ℕ) → q ≤ t → l k ≤ l q
  bulge_least q h =
      elim (dec_lt q k) [
        | yes g ↦ omega (arith, falls_down l q (k - q) (λ i u v. b.left_falls i (omega arith)), up l q k (omega arith))
        | no g ↦ omega (arith, rises_up l k (q - k) (λ i u v. b.left_rises i u (omega arith)), up l k q (omega arith))
      ]

  pub bulge_most : (q : ℕ) → q ≤ t → r q ≤ r j
  bulge_most q h =
      elim (dec_lt q j) [
        | yes g ↦ omega (arith, rises_up r q (j - q) (λ i u v. b.right_rises i (omega arith)), up r q j (omega arith))
        | no g ↦ omega (arith, falls_down r j (q - j) (λ i u v. b.right_falls i u (omega arith)), up r j q (omega arith))
      ]

  -- twice the width and twice the height
  pub bulge_length : Piled l r t → length (chain_from_row l r t k) ≡ 2 * (r j - l k) + 2 * suc t
  bulge_length p =
      omega (
        arith,
        length-chain l r t k,
        left_falls l 0 k (λ i u v. b.left_falls i (omega arith)),
        right_bulges r t 0 j (omega arith) (omega (arith, b.right)) (λ i u v. b.right_rises i v) (λ i u v. b.right_falls i u (omega arith)),
        left_rises l k (t - k) (λ i u v. b.left_rises i u (omega (arith, b.left))),
        up l k t b.left,
        ap l (from k),
        ap r (from t),
        p.wide 0 (omega arith),
        p.wide t (omega arith),
        p.wide k b.left,
        bulge_most k b.left,
        b.left,
      )
    where
      from : (n : ℕ) → 0 + n ≡ n
      from n = omega arith

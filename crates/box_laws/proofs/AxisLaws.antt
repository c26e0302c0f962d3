-- A walk along one axis: its corners lie between the least and the greatest, and a pass that goes on finds both.
-- Assumes nothing.
use mathlib.Core.Path.{◌≡◌, refl, ap, ◌∙◌}
use mathlib.Core.List.{List, [], ◌∷◌, ◌++◌}
use Prim.Native.Nat.{ℕ, zero, suc, ◌+◌, ◌≤◌, ◌<◌, min, max}
use native.Mathlib.Omega.{arith}
use native.Mathlib.Numerals.{add-one}
use lib.ListN.{length, get_or, take}
use lib.Seq.{take-suc}
use Rattle.box_laws.specs.Box.{last_from, low_from, high_from}

module _ (f : ℕ → ℕ → ℕ) where
  last_snoc : (x : ℕ) (ds : List ℕ) (d : ℕ) → last_from f x (ds ++ (d ∷ [])) ≡ f (last_from f x ds) d
  unfolding last_from
  last_snoc x [] d = refl
  last_snoc x (e ∷ ds) d = last_snoc (f x e) ds d

  low_snoc : (x : ℕ) (ds : List ℕ) (d : ℕ) → low_from f x (ds ++ (d ∷ [])) ≡ min (low_from f x ds) (f (last_from f x ds) d)
  unfolding last_from low_from
  low_snoc x [] d = refl
  low_snoc x (e ∷ ds) d = omega (arith, low_snoc (f x e) ds d)

  high_snoc : (x : ℕ) (ds : List ℕ) (d : ℕ) → high_from f x (ds ++ (d ∷ [])) ≡ max (high_from f x ds) (f (last_from f x ds) d)
  unfolding last_from high_from
  high_snoc x [] d = refl
  high_snoc x (e ∷ ds) d = omega (arith, high_snoc (f x e) ds d)

  -- a corner lies between
  pub low_le : (x : ℕ) (ds : List ℕ) (k : ℕ) → low_from f x ds ≤ last_from f x (take k ds)
  unfolding last_from low_from
  low_le x [] zero = omega arith
  low_le x [] (suc k) = omega arith
  low_le x (d ∷ ds) zero = omega arith
  low_le x (d ∷ ds) (suc k) = omega (arith, low_le (f x d) ds k)

  pub high_ge : (x : ℕ) (ds : List ℕ) (k : ℕ) → last_from f x (take k ds) ≤ high_from f x ds
  unfolding last_from high_from
  high_ge x [] zero = omega arith
  high_ge x [] (suc k) = omega arith
  high_ge x (d ∷ ds) zero = omega arith
  high_ge x (d ∷ ds) (suc k) = omega (arith, high_ge (f x d) ds k)

  -- the next corner
  pub last-next : (x : ℕ) (ds : List ℕ) (i : ℕ) → i < length ds → last_from f x (take (i + 1) ds) ≡ f (last_from f x (take i ds)) (get_or ds i 0)
  last-next x ds i l = ap (last_from f x) (ap (λ (n : ℕ). take n ds) (add-one i) ∙ take-suc ds i 0 l) ∙ last_snoc x (take i ds) (get_or ds i 0)

  pub low-next : (x : ℕ) (ds : List ℕ) (i : ℕ) → i < length ds → low_from f x (take (i + 1) ds) ≡ min (low_from f x (take i ds)) (f (last_from f x (take i ds)) (get_or ds i 0))
  low-next x ds i l = ap (low_from f x) (ap (λ (n : ℕ). take n ds) (add-one i) ∙ take-suc ds i 0 l) ∙ low_snoc x (take i ds) (get_or ds i 0)

  pub high-next : (x : ℕ) (ds : List ℕ) (i : ℕ) → i < length ds → high_from f x (take (i + 1) ds) ≡ max (high_from f x (take i ds)) (f (last_from f x (take i ds)) (get_or ds i 0))
  high-next x ds i l = ap (high_from f x) (ap (λ (n : ℕ). take n ds) (add-one i) ∙ take-suc ds i 0 l) ∙ high_snoc x (take i ds) (get_or ds i 0)

  module _ (near : (x d : ℕ) → 0 < x → (x ≤ f x d + 1) × (f x d ≤ x + 1)) where
    -- a walk goes no farther than it has steps
    pub last-near : (x : ℕ) (ds : List ℕ) → length ds ≤ x → (x ≤ last_from f x ds + length ds) × (last_from f x ds ≤ x + length ds)
    unfolding last_from
    last-near x [] h = (omega arith, omega arith)
    last-near x (d ∷ ds) h =
        let n = near x d (omega arith) in
        let r = last-near (f x d) ds (omega (arith, n.0)) in
        (omega (arith, n.0, r.0), omega (arith, n.1, r.1))

    pub span_le : (x : ℕ) (ds : List ℕ) → length ds ≤ x → high_from f x ds ≤ low_from f x ds + length ds
    unfolding last_from low_from high_from
    span_le x [] h = omega arith
    span_le x (d ∷ ds) h =
        let n = near x d (omega arith) in
        omega (arith, n.0, n.1, low_le (f x d) ds 0, high_ge (f x d) ds 0, span_le (f x d) ds (omega (arith, n.0)))

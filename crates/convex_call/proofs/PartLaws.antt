-- The parts of a room, one after the other.
-- Assumes nothing.
use mathlib.Core.Bool.{Bool, true, false, ◌&&◌}
use mathlib.Core.List.{List, [], ◌∷◌}
use mathlib.Core.Logic.{◌⊎◌, inl, inr}
use mathlib.Core.Path.{◌≡◌, refl, sym, ap, ap₂, ◌∙◌}
use Prim.Native.Nat.{ℕ, suc, ◌+◌, ◌-◌, ◌%◌, ◌≤◌, ◌<◌}
use native.Mathlib.Decide.{dec_lt}
use native.Mathlib.Omega.{arith}
use borrow.Author.Tests.{le-leb, lt-leb}
use lib.Dec.{leb}
use lib.ListN.{length, get_or, take, drop, length-take, length-drop, get_or-eq_default}
use lib.Seq.{take_all, get_or-take, get_or-drop}
use Rattle.convex.specs.Parts.{turned_by}
use Rattle.convex_laws.specs.Level.{convex_part}
use Rattle.convex_laws.specs.Place.{place_of}
use Rattle.convex_laws.specs.Decide.{convex_at, convex_from}
use Rattle.box_laws.specs.Box.{Boxable}
use Rattle.convex_part.specs.Steps.{Digits, PartStore}

pub digits_slice : (ds : List ℕ) (n m : ℕ) → Digits ds → Digits (take n (drop m ds))
digits_slice ds n m d = record { digits = λ k. go k (dec_lt k n) }
  where
    go : (k : ℕ) → Dec (k < n) → get_or (take n (drop m ds)) k 0 < 4
    go k (yes h) = omega (arith, get_or-take n (drop m ds) k 0 h, get_or-drop m ds k 0, d.digits (m + k))
    go k (no h) = omega (arith, get_or-eq_default (take n (drop m ds)) 0 {n = k} (omega (arith, length-take n (drop m ds))))

-- steps of a chain that is not refused
pub digits_of : {ds : List ℕ} → Boxable ds → Digits ds
digits_of b = record { digits = b.digits }

-- a store serves shorter parts too, and after it was written in
pub store_less : {n m : ℕ} {ys ys' s s' : List ℕ} → PartStore n ys s → m ≤ n → length ys' ≡ length ys → length s' ≡ length s → PartStore m ys' s'
store_less p h e f = record { depths = omega (arith, p.depths); stack = omega (arith, p.stack); narrow = omega (arith, p.narrow) }

turned_none : (w : List ℕ) → Digits w → turned_by 0 w ≡ w
turned_none [] d = refl
turned_none (a ∷ w) d = ap₂ (λ (x : ℕ) (s : List ℕ). x ∷ s) (same a (d.digits 0)) (turned_none w (record { digits = λ k. d.digits (suc k) }))
  where
    same : (a : ℕ) → a < 4 → (a + 0) % 4 ≡ a
    same a h = omega arith

-- `and` with a first test that is known
and_false : (s t : Bool) → s ≡ false → false ≡ (s && t)
and_false s t e = sym (ap (λ (x : Bool). x && t) e)

and_true : (s t r : Bool) → s ≡ true → r ≡ t → r ≡ (s && t)
and_true s t r e f = f ∙ sym (ap (λ (x : Bool). x && t) e)

-- the decision on the part from place j to place k, turned back to the first
abbrev part_of : ℕ → ℕ → ℕ → List ℕ → Bool
part_of t j k ds = convex_part (turned_by t (take (k - j) (drop j ds)))

-- the test on a room by its two halves
module _ (ds : List ℕ) (j k l : ℕ) where
  abbrev rest : Bool
  rest = (convex_part (take j ds) && convex_part (turned_by 1 (take (k - j) (drop j ds)))) && (convex_part (turned_by 2 (take (l - k) (drop k ds))) && convex_part (turned_by 3 (drop l ds)))

  -- one of the places lies before the one that it is to follow
  pub late : (k < j) ⊎ ((j ≤ k) × (l < k)) → false ≡ convex_at j k l ds
  unfolding convex_at
  late (inl h) = sym (ap (λ (b : Bool). (b && leb k l) && rest) (lt-leb j k h))
  late (inr h) = sym (ap₂ (λ (a b : Bool). (a && b) && rest) (le-leb j k h.0) (lt-leb k l h.1))

  module _ (d : Digits ds) (g : j ≤ k) (h : k ≤ l) (i : l ≤ length ds) where
    abbrev pub first_half : Bool
    first_half = convex_part (turned_by 0 (take j ds)) && part_of 1 j k ds

    abbrev pub second_half : Bool
    second_half = part_of 2 k l ds && part_of 3 l (length ds) ds

    halves : convex_at j k l ds ≡ (first_half && second_half)
    unfolding convex_at
    halves =
        ap₂ (λ (a b : Bool). (a && b) && rest) (le-leb j k g) (le-leb k l h)
        ∙ ap₂ (λ (a b : List ℕ). (convex_part a && convex_part (turned_by 1 (take (k - j) (drop j ds)))) && (convex_part (turned_by 2 (take (l - k) (drop k ds))) && convex_part (turned_by 3 b))) start last
      where
        start : take j ds ≡ turned_by 0 (take j ds)
        start = sym (turned_none (take j ds) (digits_slice ds j 0 d))

        last : drop l ds ≡ take (length ds - l) (drop l ds)
        last = sym (take_all (length ds - l) (drop l ds) (omega (arith, length-drop l ds)))

    pub first_fails : (r : Bool) → r ≡ false → r ≡ first_half → r ≡ convex_at j k l ds
    first_fails r e f = e ∙ and_false first_half second_half (sym f ∙ e) ∙ sym halves

    pub second_tells : (r t : Bool) → r ≡ true → r ≡ first_half → t ≡ second_half → t ≡ convex_at j k l ds
    second_tells r t e f s = and_true first_half second_half t (sym f ∙ e) s ∙ sym halves

-- the places are those of the other extremal corners
pub west_told : (ds : List ℕ) (j k l : ℕ) (r : Bool) → j ≡ place_of 1 ds → k ≡ place_of 2 ds → l ≡ place_of 3 ds → r ≡ convex_at j k l ds → r ≡ convex_from ds
unfolding convex_from
west_told ds j k l r e f g h = h ∙ ap₂ (λ (a b : ℕ). convex_at a b l ds) e f ∙ ap (λ (n : ℕ). convex_at (place_of 1 ds) (place_of 2 ds) n ds) g

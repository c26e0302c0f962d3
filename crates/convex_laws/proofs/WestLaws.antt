-- The lowest corner on the left of a room has its neighbours to the east and to the north in the room. So it is none of the other three
-- extremal corners, and each of these stands at one place.
-- Assumes nothing.
use mathlib.Core.Path.{◌≡◌, refl, sym, ap, ◌∙◌, subst}
use mathlib.Core.List.{List, Memᴰ}
use mathlib.Core.Logic.{◌⊎◌, inl, inr}
use Prim.Native.Nat.{ℕ, zero, suc, ◌-◌, ◌≤◌}
use native.Mathlib.Omega.{arith}
use lib.ListN.{length, take, get_or}
use lib.Seq.{take-suc}
use lib.IntN.{ℤ, pos, pred_ℤ, ◌+ℤ◌, +ℤ_one, -ℤ_one}
use Rattle.int_laws.proofs.LinearLaws.{zarith, bal+, bal-}
use Rattle.grid.specs.declared.Corner.{Corner}
use Rattle.grid.specs.Grid.{corner, stepped, corners_from, end_from, corner_at}
use Rattle.grid.proofs.StepLaws.{end_from_snoc, corner_at_end}
use Rattle.trace.specs.Verdict.{IsRoom}
use Rattle.grid.proofs.CornerLaws.{corner_eq}
use Rattle.convex.specs.Parts.{LowestLeft, LeftmostTop, HighestRight, RightmostBottom, Extremal}
use Rattle.convex_laws.proofs.PlaceLaws.{Anti}
use Rattle.convex_laws.proofs.CycleLaws.{place_in, room_places}

-- p is the neighbour east of a, west, north or south of it
abbrev Beside : Corner → Corner → Type 0
Beside a p = ((p.1 ≡ a.1) × ((p.0 ≡ a.0 +ℤ pos 1) ⊎ (a.0 ≡ p.0 +ℤ pos 1))) ⊎ ((p.0 ≡ a.0) × ((p.1 ≡ a.1 +ℤ pos 1) ⊎ (a.1 ≡ p.1 +ℤ pos 1)))

back_one : (z : ℤ) → z ≡ pred_ℤ z +ℤ pos 1
back_one z = omega (zarith, sym (-ℤ_one z), bal- z (pos 1), bal+ (pred_ℤ z) (pos 1))

beside_step : (d : ℕ) (a : Corner) → Beside a (stepped d a)
beside_step zero a = inl (refl, inl (sym (+ℤ_one a.0)))
beside_step (suc zero) a = inr (refl, inl (sym (+ℤ_one a.1)))
beside_step (suc (suc zero)) a = inl (refl, inr (back_one a.0))
beside_step (suc (suc (suc d))) a = inr (refl, inr (back_one a.1))

beside_back : (a p : Corner) → Beside a p → Beside p a
beside_back a p (inl (e, inl f)) = inl (sym e, inr f)
beside_back a p (inl (e, inr f)) = inl (sym e, inl f)
beside_back a p (inr (e, inl f)) = inr (sym e, inr f)
beside_back a p (inr (e, inr f)) = inr (sym e, inl f)

abbrev east : Corner → Corner
east a = corner (a.0 +ℤ pos 1) a.1

abbrev north : Corner → Corner
north a = corner a.0 (a.1 +ℤ pos 1)

-- beside the lowest on the left lie only these two
two_ways : (a p : Corner) → LowestLeft a p → Beside a p → (p ≡ east a) ⊎ (p ≡ north a)
two_ways a p h (inl (e, inl f)) = inl (corner_eq p (east a) f e)
two_ways a p (inl h) (inl (e, inr f)) = let z : ⊥ = omega (zarith, bal+ p.0 (pos 1)) in absurd z
two_ways a p (inr h) (inl (e, inr f)) = let z : ⊥ = omega (zarith, h.0, bal+ p.0 (pos 1)) in absurd z
two_ways a p h (inr (e, inl f)) = inr (corner_eq p (north a) e f)
two_ways a p (inl h) (inr (e, inr f)) = let z : ⊥ = omega zarith in absurd z
two_ways a p (inr h) (inr (e, inr f)) = let z : ⊥ = omega (zarith, h.1, bal+ p.1 (pos 1)) in absurd z

module _ (c : Corner) (ds : List ℕ) (r : IsRoom c ds) (west : Extremal LowestLeft c ds c) where
  last_step : (n : ℕ) → length ds ≡ suc n → c ≡ stepped (get_or ds n 0) (corner_at c ds n)
  last_step n e = sym r.closed ∙ sym (corner_at_end c ds) ∙ ap (corner_at c ds) e ∙ ap (end_from c) (take-suc ds n 0 (omega arith)) ∙ end_from_snoc c (take n ds) (get_or ds n 0)

  first_step : corner_at c ds 1 ≡ stepped (get_or ds 0 0) c
  first_step = ap (end_from c) (take-suc ds 0 0 (omega (arith, r.four)))

  after : Beside c (corner_at c ds 1)
  after = subst (Beside c) (sym first_step) (beside_step (get_or ds 0 0) c)

  before : Beside c (corner_at c ds (length ds - 1))
  before = beside_back (corner_at c ds (length ds - 1)) c (subst (Beside (corner_at c ds (length ds - 1))) (sym (last_step (length ds - 1) (omega (arith, r.four)))) (beside_step (get_or ds (length ds - 1) 0) (corner_at c ds (length ds - 1))))

  apart : corner_at c ds 1 ≡ corner_at c ds (length ds - 1) → ⊥
  apart e = go 1 refl (room_places c ds r 1 (length ds - 1) (omega (arith, r.four)) (omega arith) e)
    where
      go : (i : ℕ) → i ≡ 1 → (i ≡ length ds - 1) ⊎ (((i ≡ 0) × (length ds - 1 ≡ length ds)) ⊎ ((i ≡ length ds) × (length ds - 1 ≡ 0))) → ⊥
      go i e (inl h) = omega (arith, r.four)
      go i e (inr (inl h)) = omega (arith, h.0)
      go i e (inr (inr h)) = omega (arith, h.0, r.four)

  ways : Memᴰ (east c) (corners_from c ds) × Memᴰ (north c) (corners_from c ds)
  ways = go (two_ways c (corner_at c ds 1) (west (corner_at c ds 1) one) after) (two_ways c (corner_at c ds (length ds - 1)) (west (corner_at c ds (length ds - 1)) last) before)
    where
      one : Memᴰ (corner_at c ds 1) (corners_from c ds)
      one = place_in c ds 1 (omega (arith, r.four))

      last : Memᴰ (corner_at c ds (length ds - 1)) (corners_from c ds)
      last = place_in c ds (length ds - 1) (omega arith)

      go : (corner_at c ds 1 ≡ east c) ⊎ (corner_at c ds 1 ≡ north c) → (corner_at c ds (length ds - 1) ≡ east c) ⊎ (corner_at c ds (length ds - 1) ≡ north c) → Memᴰ (east c) (corners_from c ds) × Memᴰ (north c) (corners_from c ds)
      go (inl e) (inl f) = absurd (apart (e ∙ sym f))
      go (inl e) (inr f) = (subst (λ (z : Corner). Memᴰ z (corners_from c ds)) e one, subst (λ (z : Corner). Memᴰ z (corners_from c ds)) f last)
      go (inr e) (inl f) = (subst (λ (z : Corner). Memᴰ z (corners_from c ds)) f last, subst (λ (z : Corner). Memᴰ z (corners_from c ds)) e one)
      go (inr e) (inr f) = absurd (apart (e ∙ sym f))

  -- the other three extremal corners are others
  pub north_other : Extremal LeftmostTop c ds c → ⊥
  north_other f = go (f (north c) ways.1)
    where
      go : LeftmostTop c (north c) → ⊥
      go (inl h) = omega (zarith, bal+ c.1 (pos 1))
      go (inr h) = omega (zarith, h.0, bal+ c.1 (pos 1))

  pub east_other : Extremal HighestRight c ds c → ⊥
  east_other f = go (f (east c) ways.0)
    where
      go : HighestRight c (east c) → ⊥
      go (inl h) = omega (zarith, bal+ c.0 (pos 1))
      go (inr h) = omega (zarith, h.0, bal+ c.0 (pos 1))

  pub south_other : Extremal RightmostBottom c ds c → ⊥
  south_other f = go (f (east c) ways.0)
    where
      go : RightmostBottom c (east c) → ⊥
      go (inl h) = omega zarith
      go (inr h) = omega (zarith, h.1, bal+ c.0 (pos 1))

  -- so there is one place for each
  pub one_place : (R : Corner → Corner → Type 0) → Anti R → (Extremal R c ds c → ⊥) → (i j : ℕ) → i ≤ length ds → j ≤ length ds → Extremal R c ds (corner_at c ds i) → Extremal R c ds (corner_at c ds j) → i ≡ j
  one_place R anti other i j h g f k = go (room_places c ds r i j h g (anti (corner_at c ds i) (corner_at c ds j) (f (corner_at c ds j) (place_in c ds j g)) (k (corner_at c ds i) (place_in c ds i h))))
    where
      begins : (m : ℕ) → m ≡ 0 → Extremal R c ds (corner_at c ds m) → ⊥
      begins m e x = other (subst (λ (n : ℕ). Extremal R c ds (corner_at c ds n)) e x)

      go : (i ≡ j) ⊎ (((i ≡ 0) × (j ≡ length ds)) ⊎ ((i ≡ length ds) × (j ≡ 0))) → i ≡ j
      go (inl e) = e
      go (inr (inl e)) = absurd (begins i e.0 f)
      go (inr (inr e)) = absurd (begins j e.1 k)

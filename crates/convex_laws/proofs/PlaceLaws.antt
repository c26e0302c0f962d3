-- The place with the least number is that of an extremal corner.
-- Assumes nothing.
use mathlib.Core.List.{List, [], ◌∷◌}
use mathlib.Core.Logic.{◌⊎◌, inl, inr}
use mathlib.Core.Path.{◌≡◌, refl, sym, ap, ◌∙◌, subst}
use Prim.Native.Nat.{ℕ, zero, suc, ◌+◌, ◌*◌, ◌-◌, ◌%◌, ◌≤◌, ◌<◌, min}
use native.Mathlib.Decide.{dec_lt}
use native.Mathlib.Numerals.{add-one}
use native.Mathlib.Omega.{arith}
use lib.IntN.{ℤ, pos, ◌+ℤ◌, ◌-ℤ◌}
use lib.ListN.{length, get_or, drop, length-drop}
use lib.Seq.{drop-cons}
use Rattle.int_laws.proofs.LinearLaws.{zarith, bal+}
use Rattle.grid.specs.declared.Corner.{Corner}
use Rattle.grid.specs.Grid.{corner, corner_at}
use Rattle.column_laws.specs.Columns.{middle, top, col_after, row_after}
use Rattle.grid.proofs.CornerLaws.{corner_eq}
use Rattle.room_thread_laws.specs.Threads.{Goes}
use Rattle.room_thread_laws.proofs.RoomLaws.{goes_start, goes_step}
use Rattle.convex.specs.Parts.{LowestLeft, LeftmostTop, HighestRight, RightmostBottom, ComesFirst, Extremal}
use Rattle.convex_laws.specs.Place.{rank, rank_at, least_from, place_of}
use Rattle.convex_laws.proofs.CycleLaws.{in_place}

-- two corners that come each before the other are one
abbrev pub Anti : (Corner → Corner → Type 0) → Type 0
Anti R = (a b : Corner) → R a b → R b a → a ≡ b

pub west_anti : Anti LowestLeft
west_anti a b (inl h) (inl g) = absurd (omega zarith)
west_anti a b (inl h) (inr g) = absurd (omega (zarith, g.0))
west_anti a b (inr h) (inl g) = absurd (omega (zarith, h.0))
west_anti a b (inr h) (inr g) = corner_eq a b h.0 (omega (zarith, h.1, g.1))

pub north_anti : Anti LeftmostTop
north_anti a b (inl h) (inl g) = absurd (omega zarith)
north_anti a b (inl h) (inr g) = absurd (omega (zarith, g.0))
north_anti a b (inr h) (inl g) = absurd (omega (zarith, h.0))
north_anti a b (inr h) (inr g) = corner_eq a b (omega (zarith, h.1, g.1)) h.0

pub east_anti : Anti HighestRight
east_anti a b (inl h) (inl g) = absurd (omega zarith)
east_anti a b (inl h) (inr g) = absurd (omega (zarith, g.0))
east_anti a b (inr h) (inl g) = absurd (omega (zarith, h.0))
east_anti a b (inr h) (inr g) = corner_eq a b h.0 (omega (zarith, h.1, g.1))

pub south_anti : Anti RightmostBottom
south_anti a b (inl h) (inl g) = absurd (omega zarith)
south_anti a b (inl h) (inr g) = absurd (omega (zarith, g.0))
south_anti a b (inr h) (inl g) = absurd (omega (zarith, h.0))
south_anti a b (inr h) (inr g) = corner_eq a b (omega (zarith, h.1, g.1)) h.0

-- so it is in the order of each extremal corner
pub first_anti : (i : ℕ) → Anti (ComesFirst i)
first_anti zero = west_anti
first_anti (suc zero) = north_anti
first_anti (suc (suc zero)) = east_anti
first_anti (suc (suc (suc i))) = south_anti

-- the place found is one of the walk, and no corner comes before the one there
pub record Found (R : Corner → Corner → Type 0) (c : Corner) (ds : List ℕ) (m : ℕ) : Type 0 where
  pub within : m ≤ length ds
  pub first : Extremal R c ds (corner_at c ds m)

-- by columns first, or by heights first
before : (x y x' y' : ℕ) → y < 65536 → y' < 65536 → x * 65536 + y ≤ x' * 65536 + y' → (x < x') ⊎ ((x ≡ x') × (y ≤ y'))
before x y x' y' h g l = elim (dec_lt x x') [ yes s ↦ inl s | no s ↦ inr (omega arith, omega arith) ]

module _ (X Y : ℤ) (x y x' y' : ℕ) (hx : x ≤ top) (hy : y ≤ top) (hx' : x' ≤ top) (hy' : y' ≤ top) where
  ordered : (t : ℕ) → rank t x y ≤ rank t x' y' → ComesFirst t (corner (X +ℤ pos x) (Y +ℤ pos y)) (corner (X +ℤ pos x') (Y +ℤ pos y'))
  ordered zero l = go (before x y x' y' (omega arith) (omega arith) l)
    where
      go : (x < x') ⊎ ((x ≡ x') × (y ≤ y')) → LowestLeft (corner (X +ℤ pos x) (Y +ℤ pos y)) (corner (X +ℤ pos x') (Y +ℤ pos y'))
      go (inl s) = inl (omega (zarith, bal+ X (pos x), bal+ X (pos x')))
      go (inr s) = inr (ap (λ (n : ℕ). X +ℤ pos n) s.0, omega (zarith, s.1, bal+ Y (pos y), bal+ Y (pos y')))
  ordered (suc zero) l = go (before (top - y) x (top - y') x' (omega arith) (omega arith) l)
    where
      go : (top - y < top - y') ⊎ ((top - y ≡ top - y') × (x ≤ x')) → LeftmostTop (corner (X +ℤ pos x) (Y +ℤ pos y)) (corner (X +ℤ pos x') (Y +ℤ pos y'))
      go (inl s) = inl (omega (zarith, bal+ Y (pos y), bal+ Y (pos y')))
      go (inr s) = inr (omega (zarith, s.0, bal+ Y (pos y), bal+ Y (pos y')), omega (zarith, s.1, bal+ X (pos x), bal+ X (pos x')))
  ordered (suc (suc zero)) l = go (before (top - x) (top - y) (top - x') (top - y') (omega arith) (omega arith) l)
    where
      go : (top - x < top - x') ⊎ ((top - x ≡ top - x') × (top - y ≤ top - y')) → HighestRight (corner (X +ℤ pos x) (Y +ℤ pos y)) (corner (X +ℤ pos x') (Y +ℤ pos y'))
      go (inl s) = inl (omega (zarith, bal+ X (pos x), bal+ X (pos x')))
      go (inr s) = inr (omega (zarith, s.0, bal+ X (pos x), bal+ X (pos x')), omega (zarith, s.1, bal+ Y (pos y), bal+ Y (pos y')))
  ordered (suc (suc (suc t))) l = go (before y (top - x) y' (top - x') (omega arith) (omega arith) l)
    where
      go : (y < y') ⊎ ((y ≡ y') × (top - x ≤ top - x')) → RightmostBottom (corner (X +ℤ pos x) (Y +ℤ pos y)) (corner (X +ℤ pos x') (Y +ℤ pos y'))
      go (inl s) = inl (omega (zarith, bal+ Y (pos y), bal+ Y (pos y')))
      go (inr s) = inr (ap (λ (n : ℕ). Y +ℤ pos n) s.0, omega (zarith, s.1, bal+ X (pos x), bal+ X (pos x')))

module _ (t : ℕ) (ds : List ℕ) (short : length ds ≤ middle) where
  -- place i has the number n
  record Stands (n i : ℕ) : Type 0 where
    x : ℕ
    y : ℕ
    goes : Goes ds middle x y i
    number : n ≡ rank_at t x y i

  -- n is the least number from place i on
  record Least (i n : ℕ) : Type 0 where
    j : ℕ
    within : j ≤ length ds
    stands : Stands n j
    least : (k : ℕ) → i ≤ k → k ≤ length ds → (m : ℕ) × (n ≤ m) × Stands m k

  least_one : (x y i : ℕ) → i ≡ length ds → Goes ds middle x y i → Least i (rank_at t x y i)
  least_one x y i e g = record {
    j = i;
    within = omega arith;
    stands = record { x = x; y = y; goes = g; number = refl };
    least = λ k h l. (rank_at t x y i, omega arith, record { x = x; y = y; goes = subst (Goes ds middle x y) (omega arith) g; number = ap (rank_at t x y) (omega arith) });
  }

  least_min : (x y i n : ℕ) → i < length ds → Goes ds middle x y i → Least (suc i) n → Least i (min (rank_at t x y i) n)
  least_min x y i n h g u = go (dec_lt (rank_at t x y i) n)
    where
      here : (k : ℕ) → i ≡ k → Stands (rank_at t x y i) k
      here k e = record { x = x; y = y; goes = subst (Goes ds middle x y) e g; number = ap (rank_at t x y) e }

      each : (b : ℕ) → b ≤ rank_at t x y i → b ≤ n → (k : ℕ) → i ≤ k → k ≤ length ds → (m : ℕ) × (b ≤ m) × Stands m k
      each b p q k s l = elim (dec_lt i k) [
        | yes w ↦ (let r = u.least k w l in (r.0, omega (arith, r.1), r.2))
        | no w ↦ (rank_at t x y i, p, here k (omega arith))
      ]

      go : Dec (rank_at t x y i < n) → Least i (min (rank_at t x y i) n)
      go (yes w) = let e : min (rank_at t x y i) n ≡ rank_at t x y i = omega arith in subst (Least i) (sym e) (record { j = i; within = omega arith; stands = here i refl; least = each (rank_at t x y i) (omega arith) (omega arith) })
      go (no w) = let e : min (rank_at t x y i) n ≡ n = omega arith in subst (Least i) (sym e) (record { j = u.j; within = u.within; stands = u.stands; least = each n (omega arith) (omega arith) })

  least_from_lem : (w : List ℕ) (x y i : ℕ) → drop i ds ≡ w → i ≤ length ds → Goes ds middle x y i → Least i (least_from t x y i w)
  unfolding least_from
  least_from_lem [] x y i e h g = least_one x y i (omega (arith, sym (length-drop i ds) ∙ ap length e)) g
  least_from_lem (d ∷ w) x y i e h g = least_min x y i (least_from t (col_after x d) (row_after y d) (suc i) w) l g (least_from_lem w (col_after x d) (row_after y d) (suc i) (sym (ap (drop 1) parts)) l next)
    where
      l : i < length ds
      l = omega (arith, sym (length-drop i ds) ∙ ap length e)

      parts : d ∷ w ≡ get_or ds i 0 ∷ drop (suc i) ds
      parts = sym e ∙ drop-cons ds i 0 l

      digit : d ≡ get_or ds i 0
      digit = ap (λ (s : List ℕ). get_or s 0 0) parts

      next : Goes ds middle (col_after x d) (row_after y d) (suc i)
      next = subst (Goes ds middle (col_after x d) (row_after y d)) (add-one i) (goes_step ds middle x y i g (col_after x d) (row_after y d) (ap (col_after x) digit) (ap (row_after y) digit) l short)

  -- columns and heights lie between 0 and the top
  goes_top : (x y i : ℕ) → i ≤ length ds → Goes ds middle x y i → (x ≤ top) × (y ≤ top)
  goes_top x y i h g = (omega (arith, g.east), omega (arith, g.north))

  goes_corner : (c : Corner) (x y i : ℕ) → Goes ds middle x y i → corner_at c ds i ≡ corner ((c.0 -ℤ pos middle) +ℤ pos x) ((c.1 -ℤ pos middle) +ℤ pos y)
  goes_corner c x y i g = corner_eq (corner_at c ds i) (corner ((c.0 -ℤ pos middle) +ℤ pos x) ((c.1 -ℤ pos middle) +ℤ pos y)) (g.corner c).0 (g.corner c).1

  least_found : (n : ℕ) → Least 0 n → (c : Corner) → Found (ComesFirst t) c ds (n % 32768)
  least_found n u c = subst (Found (ComesFirst t) c ds) (omega (arith, a.number, u.within)) (record { within = u.within; first = first })
    where
      a : Stands n u.j
      a = u.stands

      first : Extremal (ComesFirst t) c ds (corner_at c ds u.j)
      first p m = go (in_place c ds p m)
        where
          go : (k : ℕ) × (k ≤ length ds) × (p ≡ corner_at c ds k) → ComesFirst t (corner_at c ds u.j) p
          go (k, l, e) =
              let s = u.least k (omega arith) l in
              let b : Stands s.0 k = s.2 in
              let ha = goes_top a.x a.y u.j u.within a.goes in
              let hb = goes_top b.x b.y k l b.goes in
              subst (ComesFirst t (corner_at c ds u.j)) (sym (e ∙ goes_corner c b.x b.y k b.goes))
              (subst (λ (z : Corner). ComesFirst t z (corner ((c.0 -ℤ pos middle) +ℤ pos b.x) ((c.1 -ℤ pos middle) +ℤ pos b.y))) (sym (goes_corner c a.x a.y u.j a.goes))
              (ordered (c.0 -ℤ pos middle) (c.1 -ℤ pos middle) a.x a.y b.x b.y ha.0 ha.1 hb.0 hb.1 t (omega (arith, a.number, b.number, s.1, u.within))))

  pub place_of-found : (c : Corner) → Found (ComesFirst t) c ds (place_of t ds)
  unfolding place_of
  place_of-found = least_found (least_from t middle middle 0 ds) (least_from_lem ds middle middle 0 refl (omega arith) (goes_start ds middle))

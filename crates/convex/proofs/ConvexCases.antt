-- Small parts and rooms.
-- Assumes nothing.
use mathlib.Core.List.Memᴰ
use mathlib.Core.List.{List, [], ◌∷◌, Memᴰ}
use mathlib.Core.Logic.{inl, inr, ⊎_elim}
use mathlib.Core.Path.{◌≡◌, refl, sym, ap, subst}
use native.Mathlib.Omega.{arith}
use lib.IntN.{ℤ, pos, nat_abs}
use lib.Signed.{◌<ℤ◌}
use Rattle.grid.specs.declared.{Corner.Corner, Panel.Panel}
use Rattle.grid.specs.Grid.{corner, origin, panel_at, corners_from}
use Rattle.hull.specs.Hull.{cross}
use Rattle.convex.specs.Parts.{turned_by, clockwise, LowestLeft, LeftmostTop, HighestRight, RightmostBottom, Split, PartIs}
use Rattle.convex.specs.Convex.{Between}
use Rattle.convex.specs.Centres.{MeanOf}

-- one panel, travelled both ways: clockwise it goes north first
pub clockwise-back : clockwise origin (0 ∷ 1 ∷ 2 ∷ 3 ∷ []) ≡ 1 ∷ 0 ∷ 3 ∷ 2 ∷ []
clockwise-back = refl

pub clockwise-kept : clockwise origin (1 ∷ 0 ∷ 3 ∷ 2 ∷ []) ≡ 1 ∷ 0 ∷ 3 ∷ 2 ∷ []
clockwise-kept = refl

-- the letters of the second part, 0 and 3, become 1 and 0
pub second_turned : turned_by 1 (0 ∷ 3 ∷ []) ≡ 1 ∷ 0 ∷ []
second_turned = refl

-- a statement on each corner of a list
each : (P : Corner → Type 0) (l : List Corner) → Type 0
each P [] = Unit {0}
each P (c ∷ l) = P c × each P l

all_in : (P : Corner → Type 0) (l : List Corner) → each P l → (p : Corner) → Memᴰ p l → P p
unfolding each
all_in P [] h p m = absurd (Memᴰ.not-nil m)
all_in P (c ∷ l) h p m = ⊎_elim (λ e. subst P (sym e) h.0) (λ k. all_in P l h.1 p k) (Memᴰ.cases_cons m)

-- clockwise from its lowest corner on the left, one panel has a part for each wall
pub one-panel : Split origin (1 ∷ 0 ∷ 3 ∷ 2 ∷ []) (1 ∷ []) (0 ∷ []) (3 ∷ []) (2 ∷ [])
unfolding each
one-panel = record {
  before = [];
  after = 1 ∷ 0 ∷ 3 ∷ 2 ∷ [];
  whole = refl;
  round = refl;
  west = all_in (LowestLeft origin) (corners_from origin (1 ∷ 0 ∷ 3 ∷ 2 ∷ [])) (inr (refl, record { le = tt }), (inr (refl, record { le = tt }), (inl (record { lt = tt }), (inl (record { lt = tt }), (inr (refl, record { le = tt }), tt)))));
  north = all_in (LeftmostTop (corner (pos 0) (pos 1))) (corners_from origin (1 ∷ 0 ∷ 3 ∷ 2 ∷ [])) (inl (record { lt = tt }), (inr (refl, record { le = tt }), (inr (refl, record { le = tt }), (inl (record { lt = tt }), (inl (record { lt = tt }), tt)))));
  east = all_in (HighestRight (corner (pos 1) (pos 1))) (corners_from origin (1 ∷ 0 ∷ 3 ∷ 2 ∷ [])) (inl (record { lt = tt }), (inl (record { lt = tt }), (inr (refl, record { le = tt }), (inr (refl, record { le = tt }), (inl (record { lt = tt }), tt)))));
  south = all_in (RightmostBottom (corner (pos 1) (pos 0))) (corners_from origin (1 ∷ 0 ∷ 3 ∷ 2 ∷ [])) (inr (refl, record { le = tt }), (inl (record { lt = tt }), (inl (record { lt = tt }), (inr (refl, record { le = tt }), (inr (refl, record { le = tt }), tt)))));
}

-- two panels side by side, clockwise from the middle of their north wall: the second part, that wall, goes on over the start
pub second_part : PartIs 1 (corner (pos 1) (pos 1)) (0 ∷ 3 ∷ 2 ∷ 2 ∷ 1 ∷ 0 ∷ []) (0 ∷ 0 ∷ [])
unfolding each
second_part = record {
  before = 0 ∷ 3 ∷ 2 ∷ 2 ∷ 1 ∷ [];
  after = 0 ∷ [];
  rest = 3 ∷ 2 ∷ 2 ∷ 1 ∷ [];
  whole = refl;
  round = refl;
  more = omega arith;
  begins = all_in (LeftmostTop (corner (pos 0) (pos 1))) (corners_from (corner (pos 1) (pos 1)) (0 ∷ 3 ∷ 2 ∷ 2 ∷ 1 ∷ 0 ∷ [])) (inr (refl, record { le = tt }), (inr (refl, record { le = tt }), (inl (record { lt = tt }), (inl (record { lt = tt }), (inl (record { lt = tt }), (inr (refl, record { le = tt }), (inr (refl, record { le = tt }), tt)))))));
  ends = all_in (HighestRight (corner (pos 2) (pos 1))) (corners_from (corner (pos 1) (pos 1)) (0 ∷ 3 ∷ 2 ∷ 2 ∷ 1 ∷ 0 ∷ [])) (inl (record { lt = tt }), (inr (refl, record { le = tt }), (inr (refl, record { le = tt }), (inl (record { lt = tt }), (inl (record { lt = tt }), (inl (record { lt = tt }), (inl (record { lt = tt }), tt)))))));
}

-- the fourth ends where the first begins
pub fourth_part : PartIs 3 (corner (pos 1) (pos 1)) (0 ∷ 3 ∷ 2 ∷ 2 ∷ 1 ∷ 0 ∷ []) (2 ∷ 2 ∷ [])
unfolding each
fourth_part = record {
  before = 0 ∷ 3 ∷ [];
  after = 2 ∷ 2 ∷ 1 ∷ 0 ∷ [];
  rest = 1 ∷ 0 ∷ 0 ∷ 3 ∷ [];
  whole = refl;
  round = refl;
  more = omega arith;
  begins = all_in (RightmostBottom (corner (pos 2) (pos 0))) (corners_from (corner (pos 1) (pos 1)) (0 ∷ 3 ∷ 2 ∷ 2 ∷ 1 ∷ 0 ∷ [])) (inl (record { lt = tt }), (inl (record { lt = tt }), (inr (refl, record { le = tt }), (inr (refl, record { le = tt }), (inr (refl, record { le = tt }), (inl (record { lt = tt }), (inl (record { lt = tt }), tt)))))));
  ends = all_in (LowestLeft (corner (pos 0) (pos 0))) (corners_from (corner (pos 1) (pos 1)) (0 ∷ 3 ∷ 2 ∷ 2 ∷ 1 ∷ 0 ∷ [])) (inl (record { lt = tt }), (inl (record { lt = tt }), (inl (record { lt = tt }), (inl (record { lt = tt }), (inr (refl, record { le = tt }), (inr (refl, record { le = tt }), (inl (record { lt = tt }), tt)))))));
}

-- the part 10011: the grid point (1,2) lies off it, on the hull line from (0,1) to (2,3)
pub on_the_line : Between (corners_from origin (1 ∷ 0 ∷ 0 ∷ 1 ∷ 1 ∷ [])) (corner (pos 1) (pos 2))
unfolding cross each
on_the_line = record {
  a = corner (pos 0) (pos 1);
  b = corner (pos 2) (pos 3);
  from = Memᴰ.tail (Memᴰ.head refl);
  to = Memᴰ.tail (Memᴰ.tail (Memᴰ.tail (Memᴰ.tail (Memᴰ.tail (Memᴰ.head refl)))));
  left = record { lt = tt };
  right = record { lt = tt };
  under = record { le = tt };
  above = all_in (λ (p : Corner). p.0 ≡ pos 1 → p.1 <ℤ pos 2) (corners_from origin (1 ∷ 0 ∷ 0 ∷ 1 ∷ 1 ∷ [])) ((λ e. record { lt = tt }), ((λ e. record { lt = tt }), ((λ e. record { lt = tt }), ((λ e. record { lt = tt }), (apart (pos 2), (apart (pos 3), tt))))));
}
  where
    apart : (z : ℤ) → pos 2 ≡ pos 1 → z <ℤ pos 2
    apart z e = let n : ⊥ = omega (arith, ap nat_abs e) in absurd n

-- the mean of two panels, by columns and by rows
pub mean_of_two : MeanOf (panel_at (corner (pos 0) (pos 0)) ∷ panel_at (corner (pos 2) (pos 4)) ∷ []) (panel_at (corner (pos 1) (pos 2)))
mean_of_two = record { some = omega arith; mean_x = refl; mean_y = refl }

-- no panel is the mean of none
pub mean_of_none : (q : Panel) → MeanOf [] q → ⊥
mean_of_none q m = omega (arith, m.some)

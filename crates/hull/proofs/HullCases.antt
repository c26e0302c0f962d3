-- The hull and its call on small inputs, computed.
-- Assumes nothing.
use Rattle.std.specs.Prelude.{Err, Ok}
use mathlib.Core.Path.{◌≡◌, refl, sym, subst, ◌∙◌}
use mathlib.Core.List.Memᴰ
use mathlib.Core.List.{[], ◌∷◌, Memᴰ}
use mathlib.Core.Logic.{inr}
use lib.IntN.{pos}
use lib.Signed.{◌≤ℤ◌, ≤ℤ_refl}
use Rattle.grid.specs.declared.Corner.{Corner}
use Rattle.grid.specs.Grid.{corner, origin, Begins}
use Rattle.answer.specs.declared.Refusal.TheVariants.{BadDigit, HullRoom}
use Rattle.hull.specs.Hull.{cross, Left, HullIs}
use Rattle.hull.specs.Call.{hull_judged}

-- three in a line do not turn left
line_is_no_turn : ¬ Left origin (corner (pos 1) (pos 0)) (corner (pos 2) (pos 0))
unfolding cross
line_is_no_turn h = h.left.lt

-- east, then north: counterclockwise
east_then_north : Left origin (corner (pos 1) (pos 0)) (corner (pos 1) (pos 1))
unfolding cross
east_then_north = record { left = record { lt = tt } }

-- one corner gives one
pub hull_of_one : (c : Corner) → HullIs (c ∷ []) (c ∷ [])
hull_of_one c = record {
  starts = (Memᴰ.head refl, (λ q m. begin q m));
  corners = λ q. ((λ m. record { visited = m; u = pos 0; v = pos 0; most = λ p n d. alone p q n m d }), (λ e. e.visited));
  once = (Memᴰ.not-nil, tt);
  ccw = (tt, tt);
}
  where
    begin : (q : Corner) → Memᴰ q (c ∷ []) → Begins c q
    begin q (Memᴰ.head e) = inr (λ i. (sym e i).0, subst_le e)
      where
        subst_le : q ≡ c → c.1 ≤ℤ q.1
        subst_le e = subst (λ (z : Corner). c.1 ≤ℤ z.1) (sym e) (≤ℤ_refl c.1)
    begin q (Memᴰ.tail m) = absurd (Memᴰ.not-nil m)

    alone : {A : Type 0} (p q : Corner) → Memᴰ p (c ∷ []) → Memᴰ q (c ∷ []) → ¬ (p ≡ q) → A
    alone p q (Memᴰ.head e) (Memᴰ.head f) d = absurd (d (e ∙ sym f))
    alone p q (Memᴰ.head e) (Memᴰ.tail m) d = absurd (Memᴰ.not-nil m)
    alone p q (Memᴰ.tail m) n d = absurd (Memᴰ.not-nil m)

-- 8 comes last
digit_before-room : hull_judged origin (0 ∷ 4 ∷ []) 0 2 ≡ Err (BadDigit 1)
digit_before-room = refl

-- a corner needs two numbers
room_of_one-number : hull_judged origin [] 1 1 ≡ Err HullRoom
room_of_one-number = refl

room_of_two-numbers : hull_judged origin [] 2 1 ≡ Ok tt
room_of_two-numbers = refl

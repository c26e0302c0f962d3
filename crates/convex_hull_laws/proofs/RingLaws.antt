-- A convex room holds every panel whose centre lies in the convex hull of its centres: the panel is under each of the four parts, turned back to the first, and
-- what is under all four is inside.
-- Assumes nothing.
use mathlib.Core.Bool.{Bool, true, false}
use mathlib.Core.List.{List, ◌++◌, Memᴰ}
use mathlib.Core.Logic.{◌⊎◌, inl, inr, ⊎_elim}
use mathlib.Core.Path.{◌≡◌, refl, sym, ap, ◌∙◌, subst}
use Prim.Native.Nat.{ℕ, zero, suc, ◌+◌, ◌%◌, ◌<◌}
use native.Mathlib.Omega.{arith}
use lib.IntN.{ℤ, pos, suc_ℤ, nat_abs, pred-suc, ◌+ℤ◌, ◌-ℤ◌}
use lib.Signed.{◌<ℤ◌, ◌≤ℤ◌}
use Rattle.int_laws.proofs.LinearLaws.{zarith, bal+, le_or_lt}
use Rattle.int_laws.proofs.NextLaws.{bal_suc, bal_pred, above}
use Rattle.lists.specs.Lists.{Below}
use Rattle.grid.specs.declared.{Corner.Corner, Panel.Panel}
use Rattle.grid.specs.Grid.{corner, panel_at, stepped, corners_from, end_from, legs_from}
use Rattle.grid.proofs.StepLaws.{end_from-append, stepped-back}
use Rattle.trace.specs.Verdict.{IsRoom, sweep_from}
use Rattle.trace.proofs.VerdictLaws.{area_room}
use Rattle.panels.specs.Inside.{Inside, left_of, right_of, EachStep, InsideRight}
use Rattle.room_laws.proofs.RoomLaws.{room_sign}
use Rattle.outline.specs.Outline.{walked}
use Rattle.outline_laws.proofs.EdgeLaws.{walked_edge}
use Rattle.outline_room_laws.proofs.OutsideLaws.{inside-same}
use Rattle.outline_room_laws.proofs.SideLaws.{each_edge}
use Rattle.convex.specs.Centres.{InHull}
use Rattle.convex.specs.Parts.{turned_by}
use Rattle.convex.specs.Convex.{ConvexPart}
use Rattle.convex_laws.proofs.TurnLaws.{below_parts}
use Rattle.convex_hull_laws.proofs.StepLaws.{rises_over, climbs_north, west_step}
use Rattle.convex_hull_laws.proofs.OrderLaws.{legs_append, legs_left, legs_right, steps_leg, leg_letter, leg_end, keeps_letters, reach, reach_end, leg_order}
use Rattle.convex_laws.proofs.SplitLaws.{turned_none}
use Rattle.convex_hull_laws.proofs.UnderLaws.{Under, under_mean}

-- ---- the orders of the four parts

abbrev First : Corner → Corner → Type 0
First u w = (u.0 ≤ℤ w.0) × (u.1 ≤ℤ w.1)

abbrev Second : Corner → Corner → Type 0
Second u w = (u.0 ≤ℤ w.0) × (w.1 ≤ℤ u.1)

abbrev Third : Corner → Corner → Type 0
Third u w = (w.0 ≤ℤ u.0) × (w.1 ≤ℤ u.1)

abbrev Fourth : Corner → Corner → Type 0
Fourth u w = (w.0 ≤ℤ u.0) × (u.1 ≤ℤ w.1)

le_self : (z : ℤ) → z ≤ℤ z
le_self z = omega zarith

le_over : {x y z : ℤ} → x ≤ℤ y → y ≤ℤ z → x ≤ℤ z
le_over h g = omega (zarith, h, g)

first_step : (d : ℕ) → d < 4 → (d + 0) % 4 < 2 → (q : Corner) → First q (stepped d q)
first_step zero h l q = (omega (zarith, bal_suc q.0), le_self q.1)
first_step (suc zero) h l q = (le_self q.0, omega (zarith, bal_suc q.1))
first_step (suc (suc d)) h l q = absurd (omega (arith, h, l))

second_step : (d : ℕ) → d < 4 → (d + 1) % 4 < 2 → (q : Corner) → Second q (stepped d q)
second_step zero h l q = (omega (zarith, bal_suc q.0), le_self q.1)
second_step (suc zero) h l q = absurd (omega (arith, l))
second_step (suc (suc zero)) h l q = absurd (omega (arith, l))
second_step (suc (suc (suc d))) h l q = (le_self q.0, omega (zarith, bal_pred q.1))

third_step : (d : ℕ) → d < 4 → (d + 2) % 4 < 2 → (q : Corner) → Third q (stepped d q)
third_step zero h l q = absurd (omega (arith, l))
third_step (suc zero) h l q = absurd (omega (arith, l))
third_step (suc (suc zero)) h l q = (omega (zarith, bal_pred q.0), le_self q.1)
third_step (suc (suc (suc d))) h l q = (le_self q.0, omega (zarith, bal_pred q.1))

fourth_step : (d : ℕ) → d < 4 → (d + 3) % 4 < 2 → (q : Corner) → Fourth q (stepped d q)
fourth_step zero h l q = absurd (omega (arith, l))
fourth_step (suc zero) h l q = (le_self q.0, omega (zarith, bal_suc q.1))
fourth_step (suc (suc zero)) h l q = (omega (zarith, bal_pred q.0), le_self q.1)
fourth_step (suc (suc (suc d))) h l q = absurd (omega (arith, h, l))

-- ---- four convex parts, once round clockwise

pub record Ring (a : Corner) (one two three four : List ℕ) : Type 0 where
  pub room : IsRoom a (one ++ (two ++ (three ++ four)))
  pub below : Below 4 (one ++ (two ++ (three ++ four)))
  pub sign : sweep_from a (one ++ (two ++ (three ++ four))) <ℤ pos 0
  pub first : ConvexPart one
  pub second : ConvexPart (turned_by 1 two)
  pub third : ConvexPart (turned_by 2 three)
  pub fourth : ConvexPart (turned_by 3 four)

module _ (a : Corner) (one two three four : List ℕ) (r : Ring a one two three four) where
  abbrev ws : List ℕ
  ws = one ++ (two ++ (three ++ four))

  abbrev n : Corner
  n = end_from a one

  abbrev e : Corner
  e = end_from n two

  abbrev s : Corner
  s = end_from e three

  right : InsideRight a ws
  right = (room_sign a ws r.room).1.0 (subst (λ (z : ℤ). z <ℤ pos 0) (sym (area_room a ws r.room)) r.sign)

  ends : end_from s four ≡ a
  ends = sym (end_from-append a one (two ++ (three ++ four)) ∙ end_from-append n two (three ++ four) ∙ end_from-append e three four) ∙ r.room.closed

  below_one : Below 4 one
  below_one = (below_parts one (two ++ (three ++ four)) r.below).0

  below_rest : Below 4 (two ++ (three ++ four))
  below_rest = (below_parts one (two ++ (three ++ four)) r.below).1

  below_two : Below 4 two
  below_two = (below_parts two (three ++ four) below_rest).0

  below_three : Below 4 three
  below_three = (below_parts three four (below_parts two (three ++ four) below_rest).1).0

  below_four : Below 4 four
  below_four = (below_parts three four (below_parts two (three ++ four) below_rest).1).1

  keeps_one : EachStep (λ d q. First q (stepped d q)) a one
  keeps_one = keeps_letters First 0 first_step a one below_one (subst (Below 2) (sym (turned_none one below_one)) r.first.letters)

  keeps_two : EachStep (λ d q. Second q (stepped d q)) n two
  keeps_two = keeps_letters Second 1 second_step n two below_two r.second.letters

  keeps_three : EachStep (λ d q. Third q (stepped d q)) e three
  keeps_three = keeps_letters Third 2 third_step e three below_three r.third.letters

  keeps_four : EachStep (λ d q. Fourth q (stepped d q)) s four
  keeps_four = keeps_letters Fourth 3 fourth_step s four below_four r.fourth.letters

  first-over : (x y z : Corner) → First x y → First y z → First x z
  first-over x y z f g = (le_over f.0 g.0, le_over f.1 g.1)

  second_over : (x y z : Corner) → Second x y → Second y z → Second x z
  second_over x y z f g = (le_over f.0 g.0, le_over g.1 f.1)

  third_over : (x y z : Corner) → Third x y → Third y z → Third x z
  third_over x y z f g = (le_over g.0 f.0, le_over g.1 f.1)

  fourth_over : (x y z : Corner) → Fourth x y → Fourth y z → Fourth x z
  fourth_over x y z f g = (le_over g.0 f.0, le_over f.1 g.1)

  both_self : (x : Corner) → (x.0 ≤ℤ x.0) × (x.1 ≤ℤ x.1)
  both_self x = (le_self x.0, le_self x.1)

  -- in which part a leg of a step lies
  leg_part : (d : ℕ) → d < 4 → (p : Corner) → Memᴰ (p, stepped d p) (legs_from a ws)
      → (Memᴰ (p, stepped d p) (legs_from a one) × ((d + 0) % 4 < 2)) ⊎ ((Memᴰ (p, stepped d p) (legs_from n two) × ((d + 1) % 4 < 2)) ⊎ ((Memᴰ (p, stepped d p) (legs_from e three) × ((d + 2) % 4 < 2)) ⊎ (Memᴰ (p, stepped d p) (legs_from s four) × ((d + 3) % 4 < 2))))
  leg_part d h p m =
      ⊎_elim
      (λ x. inl (x, leg_letter 0 a one below_one (subst (Below 2) (sym (turned_none one below_one)) r.first.letters) d h p x))
      (λ y. inr (⊎_elim
      (λ x. inl (x, leg_letter 1 n two below_two r.second.letters d h p x))
      (λ z. inr (⊎_elim
      (λ x. inl (x, leg_letter 2 e three below_three r.third.letters d h p x))
      (λ x. inr (x, leg_letter 3 s four below_four r.fourth.letters d h p x))
      (legs_append e three four (p, stepped d p) z)))
      (legs_append n two (three ++ four) (p, stepped d p) y)))
      (legs_append a one (two ++ (three ++ four)) (p, stepped d p) m)

  -- each panel inside is under the first part
  under_first : (x : Panel) → Inside a ws x → Under (corners_from a one) x
  under_first x i = go (west_step a ws r.room.closed r.below right (corner x.0 x.1) i)
    where
      go : (q : Corner) × (q.0 ≤ℤ x.0) × (q.1 ≡ x.1) × Memᴰ (q, stepped 1 q) (legs_from a ws) → Under (corners_from a one) x
      go (q, l, y, m) = by (leg_part 1 (omega arith) q m)
        where
          by : (Memᴰ (q, stepped 1 q) (legs_from a one) × ((1 + 0) % 4 < 2)) ⊎ ((Memᴰ (q, stepped 1 q) (legs_from n two) × ((1 + 1) % 4 < 2)) ⊎ ((Memᴰ (q, stepped 1 q) (legs_from e three) × ((1 + 2) % 4 < 2)) ⊎ (Memᴰ (q, stepped 1 q) (legs_from s four) × ((1 + 3) % 4 < 2)))) → Under (corners_from a one) x
          by (inl z) = (stepped 1 q, leg_end a one q (stepped 1 q) z.0, l, omega (zarith, y, bal_suc q.1))
          by (inr (inl z)) = absurd (omega (arith, z.1))
          by (inr (inr (inl z))) = absurd (omega (arith, z.1))
          by (inr (inr (inr z))) =
              let f = reach_end Fourth both_self fourth_over s four keeps_four (stepped 1 q) (leg_end s four q (stepped 1 q) z.0) in
              (a, Memᴰ.head refl, omega (zarith, l, f.0, ap (λ (c : Corner). c.0) ends), omega (zarith, y, bal_suc q.1, f.1, ap (λ (c : Corner). c.1) ends))

  pub under_one : (q : Panel) → InHull (Inside a ws) q → Under (corners_from a one) q
  under_one q h = under_mean a one r.first h.panels q h.mean (λ x m. under_first x (h.all x m))

  -- what is under all four parts is inside
  module _ (q : Panel) (u : Under (corners_from a one) q) (p1 : Corner) (m1 : Memᴰ p1 (corners_from n two)) (x1 : q.0 <ℤ p1.0) (y1 : q.1 <ℤ p1.1) (p2 : Corner) (m2 : Memᴰ p2 (corners_from e three)) (x2 : q.0 <ℤ p2.0) (y2 : p2.1 ≤ℤ q.1) (p3 : Corner) (m3 : Memᴰ p3 (corners_from s four)) (x3 : p3.0 ≤ℤ q.0) (y3 : p3.1 ≤ℤ q.1) where
    -- a step north in its row, not right of it
    step_north : (c : Corner) × (c.0 ≤ℤ q.0) × (c.1 ≡ q.1) × Memᴰ (c, stepped 1 c) (legs_from a ws)
    step_north = go (le_or_lt a.1 q.1)
      where
        go : (a.1 ≤ℤ q.1) ⊎ (q.1 <ℤ a.1) → (c : Corner) × (c.0 ≤ℤ q.0) × (c.1 ≡ q.1) × Memᴰ (c, stepped 1 c) (legs_from a ws)
        go (inl h) =
            let t = rises_over (λ c. c.1) 1 climbs_north q.1 a one h (omega (zarith, u.3, (reach_end First both_self first-over a one keeps_one u.0 u.1).1)) in
            let m = steps_leg a one 1 t.0 t.1 t.3 in
            (t.0, ⊎_elim (λ o. absurd (omega (zarith, o.1, t.2, u.3))) (λ o. omega (zarith, o.0, u.2)) (leg_order First both_self first-over a one keeps_one t.0 (stepped 1 t.0) m u.0 u.1), t.2, legs_left a one (two ++ (three ++ four)) (t.0, stepped 1 t.0) m)
        go (inr h) =
            let t = rises_over (λ c. c.1) 1 climbs_north q.1 s four (omega (zarith, y3, (reach Fourth both_self fourth_over s four keeps_four p3 m3).1)) (omega (zarith, h, ap (λ (c : Corner). c.1) ends)) in
            let m = steps_leg s four 1 t.0 t.1 t.3 in
            (t.0, ⊎_elim (λ o. omega (zarith, o.0, x3)) (λ o. absurd (omega (zarith, o.1, t.2, y3, bal_suc t.0.1))) (leg_order Fourth both_self fourth_over s four keeps_four t.0 (stepped 1 t.0) m p3 m3), t.2, legs_right a one (two ++ (three ++ four)) (t.0, stepped 1 t.0) (legs_right n two (three ++ four) (t.0, stepped 1 t.0) (legs_right e three four (t.0, stepped 1 t.0) m)))

    -- a step south in its row is right of it
    steps_south : (c : Corner) → c.1 ≡ suc_ℤ q.1 → Memᴰ (c, stepped 3 c) (legs_from a ws) → q.0 <ℤ c.0
    steps_south c y m = go (leg_part 3 (omega arith) c m)
      where
        go : (Memᴰ (c, stepped 3 c) (legs_from a one) × ((3 + 0) % 4 < 2)) ⊎ ((Memᴰ (c, stepped 3 c) (legs_from n two) × ((3 + 1) % 4 < 2)) ⊎ ((Memᴰ (c, stepped 3 c) (legs_from e three) × ((3 + 2) % 4 < 2)) ⊎ (Memᴰ (c, stepped 3 c) (legs_from s four) × ((3 + 3) % 4 < 2)))) → q.0 <ℤ c.0
        go (inl z) = absurd (omega (arith, z.1))
        go (inr (inl z)) = ⊎_elim (λ o. omega (zarith, o.0, x1)) (λ o. absurd (omega (zarith, o.1, y1, y, bal_pred c.1, bal_suc q.1))) (leg_order Second both_self second_over n two keeps_two c (stepped 3 c) z.0 p1 m1)
        go (inr (inr (inl z))) = ⊎_elim (λ o. absurd (omega (zarith, o.1, y2, y, bal_suc q.1))) (λ o. omega (zarith, o.0, x2)) (leg_order Third both_self third_over e three keeps_three c (stepped 3 c) z.0 p2 m2)
        go (inr (inr (inr z))) = absurd (omega (arith, z.1))

    sides : (d : ℕ) → d < 4 → (c : Corner) → Memᴰ (c, stepped d c) (legs_from a ws) → Inside a ws (right_of d c)
    sides d h c m = (each_edge (λ d q. Inside a ws (right_of d q) × (Inside a ws (left_of d q) → ⊥)) a ws r.below right c d h m).0

    -- from there to the east
    eastward : (i : ℕ) (x : ℤ) → Inside a ws (panel_at (corner x q.1)) → (x +ℤ pos i) ≤ℤ q.0 → Inside a ws (panel_at (corner (x +ℤ pos i) q.1))
    eastward zero x t l = let z : x ≡ x +ℤ pos 0 = omega (zarith, bal+ x (pos 0)) in subst (λ (y : ℤ). Inside a ws (panel_at (corner y q.1))) z t
    eastward (suc i) x t l = let z : suc_ℤ x +ℤ pos i ≡ x +ℤ pos (suc i) = omega (zarith, bal_suc x, bal+ (suc_ℤ x) (pos i), bal+ x (pos (suc i))) in subst (λ (y : ℤ). Inside a ws (panel_at (corner y q.1))) z (eastward i (suc_ℤ x) (go (walked a ws c 1) refl) (omega (zarith, l, z)))
      where
        c : Corner
        c = corner (suc_ℤ x) q.1

        near : Inside a ws (left_of 1 c)
        near = subst (λ (y : ℤ). Inside a ws (panel_at (corner y q.1))) (sym (pred-suc x)) t

        far : c.0 ≤ℤ q.0
        far = omega (zarith, l, bal_suc x, bal+ x (pos (suc i)))

        go : (b : Bool) → walked a ws c 1 ≡ b → Inside a ws (right_of 1 c)
        go false w = (inside-same a ws r.room.closed 1 c w).1 near
        go true w = ⊎_elim (sides 1 (omega arith) c) (λ m. absurd (omega (zarith, far, steps_south (stepped 1 c) refl (subst (λ (y : Corner). Memᴰ (stepped 1 c, y) (legs_from a ws)) (sym (stepped-back 1 c)) m)))) (walked_edge a ws c 1 w)

    pub under_all : Inside a ws q
    under_all =
        let t = step_north in
        let i = nat_abs (q.0 -ℤ t.0.0) in
        let z : q.0 ≡ t.0.0 +ℤ pos i = above t.0.0 q.0 t.1 in
        subst (λ (x : ℤ). Inside a ws (panel_at (corner x q.1))) (sym z) (eastward i t.0.0 (subst (λ (y : ℤ). Inside a ws (panel_at (corner t.0.0 y))) t.2 (sides 1 (omega arith) t.0 t.3)) (omega (zarith, z)))

-- The first part of a room that holds every panel whose centre lies in the convex hull of its centres has no step west and none south: with one, two
-- steps north would leave one row, or two steps east one column, and the panels inside would have a gap there.
-- Assumes nothing.
use mathlib.Core.List.{List, [], ◌∷◌, ◌++◌, Memᴰ, append_assoc}
use mathlib.Core.Logic.{◌⊎◌, inl, inr, ⊎_elim}
use mathlib.Core.Path.{◌≡◌, refl, sym, ap, ◌∙◌, subst}
use Prim.Native.Nat.{ℕ, zero, suc, ◌<◌, ◌≤◌}
use native.Mathlib.Omega.{arith}
use lib.IntN.{ℤ, pred_ℤ, suc-pred}
use lib.ListN.{length, get_or, length-append}
use lib.Signed.{◌<ℤ◌, ◌≤ℤ◌}
use Rattle.int_laws.proofs.LinearLaws.{zarith, le_or_lt}
use Rattle.int_laws.proofs.NextLaws.{bal_suc, bal_pred}
use Rattle.lists.specs.Lists.{Below}
use Rattle.grid.specs.declared.{Corner.Corner}
use Rattle.grid.specs.Grid.{corner, panel_at, stepped, corners_from, end_from, legs_from}
use Rattle.grid.proofs.StepLaws.{end_from-append}
use Rattle.trace.specs.Verdict.{IsRoom}
use Rattle.grid.proofs.CornerLaws.{corner_eq}
use Rattle.panels.specs.Inside.{Inside, left_of, right_of, InsideRight}
use Rattle.convex.specs.Parts.{LowestLeft, LeftmostTop, Extremal}
use Rattle.convex_hull_laws.proofs.MeanLaws.{Filled, row_gap, column_gap}
use Rattle.convex_hull_laws.proofs.StepLaws.{StepsAt, steps-later, steps-left, steps-right, each_place, steps_visited, leg_visited, rises_over, climbs_north, climbs_east, west_step, north_step}

below_at : (m : ℕ) (ds : List ℕ) → 0 < m → Below m ds → (k : ℕ) → get_or ds k 0 < m
below_at m [] h b k = omega arith
below_at m (d ∷ ds) h b zero = b.0
below_at m (d ∷ ds) h b (suc k) = below_at m ds h b.1 k

-- each letter is so, wherever a list is split
below_split : (m : ℕ) (pre w : List ℕ) → ((u v : List ℕ) (d : ℕ) → u ++ (d ∷ v) ≡ pre ++ w → d < m) → Below m w
below_split m pre [] f = tt
below_split m pre (d ∷ w) f = (f pre w d refl, below_split m (pre ++ (d ∷ [])) w (λ u v e z. f u v e (z ∙ append_assoc pre (d ∷ []) w)))

module _ (a : Corner) (ws : List ℕ) (room : IsRoom a ws) (below : Below 4 ws) (right : InsideRight a ws) (filled : Filled (Inside a ws)) where
  pub sides : (d : ℕ) (p : Corner) (k : ℕ) → StepsAt a ws d p k → Inside a ws (right_of d p) × (Inside a ws (left_of d p) → ⊥)
  sides d p k s = each_place (λ d q. Inside a ws (right_of d q) × (Inside a ws (left_of d q) → ⊥)) a ws right d p k s

  -- two places have two corners
  apart : (d e : ℕ) (p q : Corner) (j k : ℕ) → StepsAt a ws d p j → StepsAt a ws e q k → j < k → p ≡ q → ⊥
  apart d e p q j k s t l z = let m = room.only j k (record { earlier = l; within = omega (arith, t.within); equal = s.from ∙ z ∙ sym t.from }) in omega (arith, m.1, t.within)

  -- one step north in a row
  one-north : (p q : Corner) (j k : ℕ) → StepsAt a ws 1 p j → StepsAt a ws 1 q k → j < k → p.1 ≡ q.1 → ⊥
  one-north p q j k s t l e = go (le_or_lt p.0 q.0) (le_or_lt q.0 p.0)
    where
      gap : (p q : Corner) → p.0 <ℤ q.0 → p.1 ≡ q.1 → Inside a ws (panel_at p) → Inside a ws (panel_at q) → Inside a ws (left_of 1 q)
      gap p q h z i i' = row_gap (Inside a ws) filled p.0 q.0 q.1 h (subst (λ (y : ℤ). Inside a ws (panel_at (corner p.0 y))) z i) i'

      go : (p.0 ≤ℤ q.0) ⊎ (q.0 <ℤ p.0) → (q.0 ≤ℤ p.0) ⊎ (p.0 <ℤ q.0) → ⊥
      go (inr h) g = (sides 1 p j s).1 (gap q p h (sym e) (sides 1 q k t).0 (sides 1 p j s).0)
      go (inl h) (inr g) = (sides 1 q k t).1 (gap p q g e (sides 1 p j s).0 (sides 1 q k t).0)
      go (inl h) (inl g) = apart 1 1 p q j k s t l (corner_eq p q (omega (zarith, h, g)) e)

  -- one step east in a column
  one-east : (p q : Corner) (j k : ℕ) → StepsAt a ws 0 p j → StepsAt a ws 0 q k → j < k → p.0 ≡ q.0 → ⊥
  one-east p q j k s t l e = go (le_or_lt p.1 q.1) (le_or_lt q.1 p.1)
    where
      gap : (p q : Corner) → p.1 <ℤ q.1 → p.0 ≡ q.0 → Inside a ws (right_of 0 p) → Inside a ws (right_of 0 q) → Inside a ws (left_of 0 p)
      gap p q h z i i' = subst (λ (y : ℤ). Inside a ws (panel_at (corner p.0 y))) (suc-pred p.1) (column_gap (Inside a ws) filled p.0 (pred_ℤ p.1) (pred_ℤ q.1) (omega (zarith, h, bal_pred p.1, bal_pred q.1)) i (subst (λ (x : ℤ). Inside a ws (panel_at (corner x (pred_ℤ q.1)))) (sym z) i'))

      go : (p.1 ≤ℤ q.1) ⊎ (q.1 <ℤ p.1) → (q.1 ≤ℤ p.1) ⊎ (p.1 <ℤ q.1) → ⊥
      go (inr h) g = (sides 0 q k t).1 (gap q p h (sym e) (sides 0 q k t).0 (sides 0 p j s).0)
      go (inl h) (inr g) = (sides 0 p j s).1 (gap p q g e (sides 0 p j s).0 (sides 0 q k t).0)
      go (inl h) (inl g) = apart 0 0 p q j k s t l (corner_eq p q e (omega (zarith, h, g)))

  module _ (w rest : List ℕ) (whole : w ++ rest ≡ ws) (more : 0 < length rest) (west : Extremal LowestLeft a ws a) (north : Extremal LeftmostTop a ws (end_from a w)) where
    abbrev n : Corner
    n = end_from a w

    -- the lowest corner on the left is left to the north
    starts : StepsAt a ws 1 a 0
    starts = go (get_or ws 0 0) refl (below_at 4 ws (omega arith) below 0)
      where
        go : (d : ℕ) → get_or ws 0 0 ≡ d → d < 4 → StepsAt a ws 1 a 0
        go d e l = by d (record { within = omega (arith, room.four); way = e; from = refl }) l
          where
            by : (d : ℕ) → StepsAt a ws d a 0 → d < 4 → StepsAt a ws 1 a 0
            by zero s l = absurd (low (west_step a ws room.closed below right (corner a.0 (pred_ℤ a.1)) (sides 0 a 0 s).0))
              where
                low : (q : Corner) × (q.0 ≤ℤ a.0) × (q.1 ≡ pred_ℤ a.1) × Memᴰ (q, stepped 1 q) (legs_from a ws) → ⊥
                low (q, x, y, m) = ⊎_elim (λ h. omega (zarith, h, x)) (λ h. omega (zarith, h.1, y, bal_pred a.1)) (west q (leg_visited a ws 1 q m))
            by (suc zero) s l = s
            by (suc (suc zero)) s l = absurd (⊎_elim (λ h. omega (zarith, h, bal_pred a.0)) (λ h. omega (zarith, h.0, bal_pred a.0)) (west (stepped 2 a) (steps_visited a ws 2 a 0 s).1))
            by (suc (suc (suc zero))) s l = absurd (⊎_elim (λ h. omega (zarith, h)) (λ h. omega (zarith, h.1, bal_pred a.1)) (west (stepped 3 a) (steps_visited a ws 3 a 0 s).1))
            by (suc (suc (suc (suc d)))) s l = absurd (omega arith)

    -- the leftmost corner on top is left to the east
    pub turns : (j : ℕ) × (length w ≤ j) × StepsAt a ws 0 n j
    turns = go (get_or rest 0 0) refl
      where
        at : (d : ℕ) → get_or rest 0 0 ≡ d → (j : ℕ) × (length w ≤ j) × StepsAt a ws d n j
        at d e = let r = steps-right a w rest d n 0 (record { within = more; way = e; from = refl }) in (r.0, omega (arith, r.1), subst (λ (l : List ℕ). StepsAt a l d n r.0) whole r.2)

        go : (d : ℕ) → get_or rest 0 0 ≡ d → (j : ℕ) × (length w ≤ j) × StepsAt a ws 0 n j
        go zero e = at 0 e
        go (suc zero) e = let s = at 1 e in absurd (⊎_elim (λ h. omega (zarith, h, bal_suc n.1)) (λ h. omega (zarith, h.0, bal_suc n.1)) (north (stepped 1 n) (steps_visited a ws 1 n s.0 s.2).1))
        go (suc (suc zero)) e = let s = at 2 e in absurd (⊎_elim (λ h. omega (zarith, h)) (λ h. omega (zarith, h.1, bal_pred n.0)) (north (stepped 2 n) (steps_visited a ws 2 n s.0 s.2).1))
        go (suc (suc (suc d))) e = let s = at (suc (suc (suc d))) e in absurd (high (north_step a ws room.closed below right (corner (pred_ℤ n.0) n.1) (sides (suc (suc (suc d))) n s.0 s.2).0))
          where
            high : (q : Corner) × (q.0 ≡ pred_ℤ n.0) × (n.1 ≤ℤ q.1) × Memᴰ (q, stepped 0 q) (legs_from a ws) → ⊥
            high (q, x, y, m) = ⊎_elim (λ h. omega (zarith, h, y)) (λ h. omega (zarith, h.1, x, bal_pred n.0)) (north q (leg_visited a ws 0 q m))

    -- a letter of the part, and what comes before and after it
    module _ (u v : List ℕ) (d : ℕ) (split : u ++ (d ∷ v) ≡ w) where
      abbrev p : Corner
      p = end_from a u

      all : u ++ (d ∷ (v ++ rest)) ≡ ws
      all = sym (append_assoc u (d ∷ v) rest) ∙ ap (λ (l : List ℕ). l ++ rest) split ∙ whole

      ends : end_from (stepped d p) v ≡ n
      ends = sym (end_from-append a u (d ∷ v)) ∙ ap (end_from a) split

      here : StepsAt a ws d p (length u)
      here = let r = steps-right a u (d ∷ (v ++ rest)) d p 0 (record { within = omega arith; way = refl; from = refl }) in let e : r.0 ≡ length u = omega (arith, r.1) in subst (StepsAt a ws d p) e (subst (λ (l : List ℕ). StepsAt a l d p r.0) all r.2)

      early : (e : ℕ) (q : Corner) (k : ℕ) → StepsAt a u e q k → StepsAt a ws e q k
      early e q k s = subst (λ (l : List ℕ). StepsAt a l e q k) all (steps-left a u (d ∷ (v ++ rest)) e q k s)

      late : (e : ℕ) (q : Corner) (k : ℕ) → StepsAt (stepped d p) v e q k → (j : ℕ) × (length u < j) × StepsAt a ws e q j
      late e q k s =
          let r = steps-right a u (d ∷ (v ++ rest)) e q (suc k) (steps-later p d (v ++ rest) (steps-left (stepped d p) v rest e q k s)) in
          (r.0, omega (arith, r.1), subst (λ (l : List ℕ). StepsAt a l e q r.0) all r.2)

      visited : Memᴰ p (corners_from a ws) × Memᴰ (stepped d p) (corners_from a ws)
      visited = steps_visited a ws d p (length u) here

      top : (q : Corner) → Memᴰ q (corners_from a ws) → q.1 ≤ℤ n.1
      top q m = ⊎_elim (λ h. omega (zarith, h)) (λ h. omega (zarith, h.0)) (north q m)

      far : (q : Corner) → Memᴰ q (corners_from a ws) → a.0 ≤ℤ q.0
      far q m = ⊎_elim (λ h. omega (zarith, h)) (λ h. omega (zarith, h.0)) (west q m)

      no_south : d ≡ 3 → ⊥
      no_south e = go (le_or_lt a.1 (pred_ℤ p.1))
        where
          down : (stepped d p).1 ≡ pred_ℤ p.1
          down = ap (λ (x : ℕ). (stepped x p).1) e

          go : (a.1 ≤ℤ pred_ℤ p.1) ⊎ (pred_ℤ p.1 <ℤ a.1) → ⊥
          go (inl h) =
              let s = rises_over (λ q. q.1) 1 climbs_north (pred_ℤ p.1) a u h (omega (zarith, bal_pred p.1)) in
              let t = rises_over (λ q. q.1) 1 climbs_north (pred_ℤ p.1) (stepped d p) v (omega (zarith, down)) (omega (zarith, bal_pred p.1, top p visited.0, ap (λ (q : Corner). q.1) ends)) in
              let r = late 1 t.0 t.1 t.3 in
              one-north s.0 t.0 s.1 r.0 (early 1 s.0 s.1 s.3) r.2 (omega (arith, s.3.within, r.1)) (s.2 ∙ sym t.2)
          go (inr h) =
              let t = rises_over (λ q. q.1) 1 climbs_north a.1 (stepped d p) v (omega (zarith, down, h)) (omega (zarith, bal_suc a.1, top (stepped 1 a) (steps_visited a ws 1 a 0 starts).1, ap (λ (q : Corner). q.1) ends)) in
              let r = late 1 t.0 t.1 t.3 in
              one-north a t.0 0 r.0 starts r.2 (omega (arith, r.1)) (sym t.2)

      no_west : d ≡ 2 → ⊥
      no_west e = go (le_or_lt n.0 (pred_ℤ p.0))
        where
          back : (stepped d p).0 ≡ pred_ℤ p.0
          back = ap (λ (x : ℕ). (stepped x p).0) e

          go : (n.0 ≤ℤ pred_ℤ p.0) ⊎ (pred_ℤ p.0 <ℤ n.0) → ⊥
          go (inr h) =
              let s = rises_over (λ q. q.0) 0 climbs_east (pred_ℤ p.0) a u (omega (zarith, back, far (stepped d p) visited.1)) (omega (zarith, bal_pred p.0)) in
              let t = rises_over (λ q. q.0) 0 climbs_east (pred_ℤ p.0) (stepped d p) v (omega (zarith, back)) (omega (zarith, h, ap (λ (q : Corner). q.0) ends)) in
              let r = late 0 t.0 t.1 t.3 in
              one-east s.0 t.0 s.1 r.0 (early 0 s.0 s.1 s.3) r.2 (omega (arith, s.3.within, r.1)) (s.2 ∙ sym t.2)
          go (inl h) =
              let s = rises_over (λ q. q.0) 0 climbs_east n.0 a u (far n (steps_visited a ws 0 n turns.0 turns.2).0) (omega (zarith, h, bal_pred p.0)) in
              one-east s.0 n s.1 turns.0 (early 0 s.0 s.1 s.3) turns.2 (omega (arith, s.3.within, turns.1, length-append u (d ∷ v), ap length split)) s.2

      letter : d < 2
      letter = by d refl (below_at 4 ws (omega arith) below (length u))
        where
          by : (x : ℕ) → x ≡ d → get_or ws (length u) 0 < 4 → d < 2
          by zero z l = omega arith
          by (suc zero) z l = omega arith
          by (suc (suc zero)) z l = absurd (no_west (sym z))
          by (suc (suc (suc zero))) z l = absurd (no_south (sym z))
          by (suc (suc (suc (suc x)))) z l = absurd (omega (arith, z, l, here.way))

    pub letters : Below 2 w
    letters = below_split 2 [] w (λ u v d e. letter u v d e)

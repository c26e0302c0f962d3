-- The first part of such a room is convex: a grid point between it and its upper convex hull would be the upper left corner of a panel in a triangle of panels
-- inside.
-- Assumes nothing.
use mathlib.Core.List.Memᴰ
use mathlib.Core.List.{List, [], ◌∷◌, ◌++◌, append_assoc, Memᴰ}
use mathlib.Core.Logic.{⊎_elim}
use mathlib.Core.Path.{◌≡◌, refl, sym, ap, ◌∙◌, subst}
use Prim.Native.Nat.{ℕ, zero, suc, ◌<◌}
use native.Mathlib.Omega.{arith}
use lib.IntN.{ℤ, pos, pred_ℤ, suc-pred, ◌+ℤ◌, ◌-ℤ◌, ◌*ℤ◌, -ℤ_one, +ℤ_idl}
use lib.ListN.{length, take, drop, take-append-drop}
use lib.Signed.{◌<ℤ◌, ◌≤ℤ◌}
use Rattle.int_laws.proofs.LinearLaws.{zarith, bal+}
use Rattle.int_laws.proofs.NextLaws.{bal_suc, bal_pred}
use Rattle.int_laws.proofs.RingLaws.{ring, v, k, ◌⊕◌, ◌⊖◌, ◌⊗◌}
use Rattle.int_laws.proofs.SignLaws.{h≤, hw, ◌⊞◌, ◌⊠◌, by≤}
use Rattle.lists.specs.Lists.{Below}
use Rattle.grid.specs.declared.{Corner.Corner}
use Rattle.grid.specs.Grid.{corner, origin, panel_at, stepped, corners_from, end_from}
use Rattle.trace.specs.Verdict.{IsRoom}
use Rattle.hull.specs.Hull.{cross}
use Rattle.grid.proofs.CornerLaws.{corner_eq}
use Rattle.panels.specs.Inside.{Inside, InsideRight}
use Rattle.area_laws.proofs.ImageLaws.{moved, move}
use Rattle.convex.specs.Parts.{LowestLeft, LeftmostTop, Extremal}
use Rattle.convex.specs.Convex.{Between, ConvexPart}
use Rattle.convex_laws.proofs.CycleLaws.{in_place, cut_in}
use Rattle.convex_laws.proofs.TurnLaws.{image_in, map_same}
use Rattle.convex_hull_laws.proofs.MeanLaws.{Filled, column_gap, under_line}
use Rattle.convex_hull_laws.proofs.StepLaws.{StepsAt, steps-later, steps-left, steps_visited, rises_over, climbs_east}
use Rattle.convex_hull_laws.proofs.LetterLaws.{sides, turns, letters}

-- the corner in whose column a part of letters 0 and 1 is highest is left to the east
tops : (P : Corner → Type 0) (c : Corner) (w : List ℕ) → Below 2 w → ((q : Corner) (j : ℕ) → StepsAt c w 0 q j → P q) → P (end_from c w) → (p : Corner) → Memᴰ p (corners_from c w) → (q : Corner) × (q.0 ≡ p.0) × (p.1 ≤ℤ q.1) × P q
tops P c [] b f e p m = (c, ap (λ (x : Corner). x.0) (sym z), omega (zarith, ap (λ (x : Corner). x.1) z), e)
  where
    z : p ≡ c
    z = Memᴰ.eq_of_singleton m
tops P c (zero ∷ w) b f e p m =
    ⊎_elim
    (λ z. (c, ap (λ (x : Corner). x.0) (sym z), omega (zarith, ap (λ (x : Corner). x.1) z), f c 0 (record { within = omega arith; way = refl; from = refl })))
    (λ t. tops P (stepped 0 c) w b.1 (λ q j s. f q (suc j) (steps-later c 0 w s)) e p t)
    (Memᴰ.cases_cons m)
tops P c (suc zero ∷ w) b f e p m =
    ⊎_elim
    (λ z. let r = tops P (stepped 1 c) w b.1 (λ q j s. f q (suc j) (steps-later c 1 w s)) e (stepped 1 c) (Memᴰ.head refl) in (r.0, r.1 ∙ ap (λ (x : Corner). x.0) (sym z), omega (zarith, ap (λ (x : Corner). x.1) z, r.2, bal_suc c.1), r.3))
    (λ t. tops P (stepped 1 c) w b.1 (λ q j s. f q (suc j) (steps-later c 1 w s)) e p t)
    (Memᴰ.cases_cons m)
tops P c (suc (suc d) ∷ w) b f e p m = absurd (omega (arith, b.0))

-- a point on or below a straight line is on or below the line between higher ends, all taken one lower
chord : (a b q : Corner) (s t : ℤ) → a.0 <ℤ q.0 → q.0 <ℤ b.0 → cross a b q ≤ℤ pos 0 → a.1 ≤ℤ s → b.1 ≤ℤ t
    → ((b.0 -ℤ a.0) *ℤ pred_ℤ q.1) ≤ℤ (((b.0 -ℤ q.0) *ℤ pred_ℤ s) +ℤ ((q.0 -ℤ a.0) *ℤ pred_ℤ t))
unfolding cross
chord a b q s t la lb under hs ht =
    subst (λ (z : ℤ). ((b.0 -ℤ a.0) *ℤ z) ≤ℤ (((b.0 -ℤ q.0) *ℤ pred_ℤ s) +ℤ ((q.0 -ℤ a.0) *ℤ pred_ℤ t))) (-ℤ_one q.1)
    (subst (λ (z : ℤ). ((b.0 -ℤ a.0) *ℤ (q.1 -ℤ pos 1)) ≤ℤ (((b.0 -ℤ q.0) *ℤ z) +ℤ ((q.0 -ℤ a.0) *ℤ pred_ℤ t))) (-ℤ_one s)
    (subst (λ (z : ℤ). ((b.0 -ℤ a.0) *ℤ (q.1 -ℤ pos 1)) ≤ℤ (((b.0 -ℤ q.0) *ℤ (s -ℤ pos 1)) +ℤ ((q.0 -ℤ a.0) *ℤ z))) (-ℤ_one t)
    (by≤ ((v 1 ⊖ v 0) ⊗ (v 5 ⊖ k (pos 1))) ((v 1 ⊖ v 2) ⊗ (v 6 ⊖ k (pos 1)) ⊕ (v 2 ⊖ v 0) ⊗ (v 7 ⊖ k (pos 1)))
    (h≤ 8 ρ ((v 1 ⊖ v 0) ⊗ (v 5 ⊖ v 3) ⊖ (v 4 ⊖ v 3) ⊗ (v 2 ⊖ v 0)) (k (pos 0)) under ⊞ hw 8 ρ (v 2) (v 1) lb ⊠ h≤ 8 ρ (v 3) (v 6) hs ⊞ hw 8 ρ (v 0) (v 2) la ⊠ h≤ 8 ρ (v 4) (v 7) ht) tt)))
  where
    ρ : List ℤ
    ρ = a.0 ∷ b.0 ∷ q.0 ∷ a.1 ∷ b.1 ∷ q.1 ∷ s ∷ t ∷ []

pub cross-moved : (x y : ℤ) (a b q : Corner) → cross (moved x y a) (moved x y b) (moved x y q) ≡ cross a b q
unfolding cross
cross-moved x y a b q = ring 8 (a.0 ∷ b.0 ∷ q.0 ∷ a.1 ∷ b.1 ∷ q.1 ∷ x ∷ y ∷ [])
    ((v 1 ⊕ v 6 ⊖ (v 0 ⊕ v 6)) ⊗ (v 5 ⊕ v 7 ⊖ (v 3 ⊕ v 7)) ⊖ (v 4 ⊕ v 7 ⊖ (v 3 ⊕ v 7)) ⊗ (v 2 ⊕ v 6 ⊖ (v 0 ⊕ v 6)))
    ((v 1 ⊖ v 0) ⊗ (v 5 ⊖ v 3) ⊖ (v 4 ⊖ v 3) ⊗ (v 2 ⊖ v 0)) tt

-- the corners of a walk from another start
move_in : (x y : ℤ) (c : Corner) (w : List ℕ) (p : Corner) → Memᴰ p (corners_from c w) → Memᴰ (moved x y p) (corners_from (moved x y c) w)
move_in x y c [] p m = Memᴰ.head (ap (moved x y) (Memᴰ.eq_of_singleton m))
move_in x y c (d ∷ w) p m =
    ⊎_elim
    (λ e. Memᴰ.head (ap (moved x y) e))
    (λ t. Memᴰ.tail (subst (λ (z : Corner). Memᴰ (moved x y p) (corners_from z w)) (sym ((move x y).carries d c)) (move_in x y (stepped d c) w p t)))
    (Memᴰ.cases_cons m)

-- the part from (0,0), moved to where it lies
module _ (a : Corner) (w : List ℕ) where
  abbrev pub there : Corner → Corner
  there = moved a.0 a.1

  at-start : there origin ≡ a
  at-start = corner_eq (there origin) a (+ℤ_idl a.0) (+ℤ_idl a.1)

  pub moved_in : (p : Corner) → Memᴰ p (corners_from origin w) → Memᴰ (there p) (corners_from a w)
  moved_in p m = subst (λ (c : Corner). Memᴰ (there p) (corners_from c w)) at-start (move_in a.0 a.1 origin w p m)

  pub moved_out : (p : Corner) → Memᴰ p (corners_from a w) → (q : Corner) × Memᴰ q (corners_from origin w) × (p ≡ there q)
  moved_out p m = image_in (move a.0 a.1) origin w p (subst (λ (l : List ℕ). Memᴰ p (corners_from (there origin) l)) (sym (map_same w)) (subst (λ (c : Corner). Memᴰ p (corners_from c w)) (sym at-start) m))

module _ (a : Corner) (ws : List ℕ) (room : IsRoom a ws) (below : Below 4 ws) (right : InsideRight a ws) (filled : Filled (Inside a ws)) (w rest : List ℕ) (whole : w ++ rest ≡ ws) (more : 0 < length rest) (west : Extremal LowestLeft a ws a) (north : Extremal LeftmostTop a ws (end_from a w)) where
  two_letters : Below 2 w
  two_letters = letters a ws room below right filled w rest whole more west north

  -- the corner is left to the east
  abbrev Eastward : Corner → Type 0
  Eastward q = (j : ℕ) × StepsAt a ws 0 q j

  eastward : (q : Corner) (j : ℕ) → StepsAt a w 0 q j → Eastward q
  eastward q j s = (j, subst (λ (l : List ℕ). StepsAt a l 0 q j) whole (steps-left a w rest 0 q j s))

  top : (p : Corner) → Memᴰ p (corners_from a w) → (q : Corner) × (q.0 ≡ p.0) × (p.1 ≤ℤ q.1) × Eastward q
  top = tops Eastward a w two_letters eastward (let r = turns a ws room below right filled w rest whole more west north in (r.0, r.2))

  beside : (q : Corner) → Eastward q → Inside a ws (panel_at (corner q.0 (pred_ℤ q.1))) × (Inside a ws (panel_at q) → ⊥)
  beside q e = sides a ws room below right filled 0 q e.0 e.1

  from_start : (p : Corner) → Memᴰ p (corners_from a w) → a.0 ≤ℤ p.0
  from_start p m =
      let i = in_place a w p m in
      let z : take i.0 w ++ (drop i.0 w ++ rest) ≡ ws = sym (append_assoc (take i.0 w) (drop i.0 w) rest) ∙ ap (λ (l : List ℕ). l ++ rest) (take-append-drop i.0 w) ∙ whole in
      let y : a.0 ≤ℤ (end_from a (take i.0 w)).0 = ⊎_elim (λ h. omega (zarith, h)) (λ h. omega (zarith, h.0)) (west (end_from a (take i.0 w)) (cut_in a ws (take i.0 w) (drop i.0 w ++ rest) z)) in
      subst (λ (q : Corner). a.0 ≤ℤ q.0) (sym i.2) y

  -- a column that the part passes
  pass : (x : ℤ) (p : Corner) → Memᴰ p (corners_from a w) → a.0 ≤ℤ x → x <ℤ p.0 → (q : Corner) × (q.0 ≡ x) × Memᴰ q (corners_from a w) × Eastward q
  pass x p m l h =
      let i = in_place a w p m in
      let r = rises_over (λ q. q.0) 0 climbs_east x a (take i.0 w) l (subst (λ (z : Corner). x <ℤ z.0) i.2 h) in
      let s : StepsAt a w 0 r.0 r.1 = subst (λ (u : List ℕ). StepsAt a u 0 r.0 r.1) (take-append-drop i.0 w) (steps-left a (take i.0 w) (drop i.0 w) 0 r.0 r.1 r.3) in
      (r.0, r.2, (steps_visited a w 0 r.0 r.1 s).0, eastward r.0 r.1 s)

  none_between : (q : Corner) → Between (corners_from origin w) q → ⊥
  none_between q t = go (top (there a w t.a) (moved_in a w t.a t.from)) (top (there a w t.b) (moved_in a w t.b t.to)) (pass (there a w q).0 (there a w t.b) (moved_in a w t.b t.to) (omega (zarith, left, from_start (there a w t.a) (moved_in a w t.a t.from))) right')
    where
      left : (there a w t.a).0 <ℤ (there a w q).0
      left = omega (zarith, t.left, bal+ t.a.0 a.0, bal+ q.0 a.0)

      right' : (there a w q).0 <ℤ (there a w t.b).0
      right' = omega (zarith, t.right, bal+ t.b.0 a.0, bal+ q.0 a.0)

      go : (p : Corner) × (p.0 ≡ (there a w t.a).0) × ((there a w t.a).1 ≤ℤ p.1) × Eastward p → (p : Corner) × (p.0 ≡ (there a w t.b).0) × ((there a w t.b).1 ≤ℤ p.1) × Eastward p → (p : Corner) × (p.0 ≡ (there a w q).0) × Memᴰ p (corners_from a w) × Eastward p → ⊥
      go (p, px, py, pe) (r, rx, ry, re) (m, mx, mm, me) =
          (beside m me).1 (subst (λ (y : ℤ). Inside a ws (panel_at (corner m.0 y))) (suc-pred m.1) (column_gap (Inside a ws) filled m.0 (pred_ℤ m.1) (pred_ℤ (there a w q).1) (omega (zarith, low, bal_pred m.1, bal_pred (there a w q).1)) (beside m me).0 (subst (λ (x : ℤ). Inside a ws (panel_at (corner x (pred_ℤ (there a w q).1)))) (sym mx) inner)))
        where
          low : m.1 <ℤ (there a w q).1
          low =
              let o = moved_out a w m mm in
              let x : o.0.0 ≡ q.0 = omega (zarith, mx, ap (λ (z : Corner). z.0) o.2, bal+ o.0.0 a.0, bal+ q.0 a.0) in
              omega (zarith, t.above o.0 o.1 x, ap (λ (z : Corner). z.1) o.2, bal+ o.0.1 a.1, bal+ q.1 a.1)

          inner : Inside a ws (panel_at (corner (there a w q).0 (pred_ℤ (there a w q).1)))
          inner = under_line (Inside a ws) filled
              (panel_at (corner (there a w t.a).0 (pred_ℤ p.1))) (panel_at (corner (there a w t.b).0 (pred_ℤ r.1))) (panel_at (corner (there a w q).0 (pred_ℤ m.1))) (panel_at (corner (there a w q).0 (pred_ℤ (there a w q).1)))
              (subst (λ (x : ℤ). Inside a ws (panel_at (corner x (pred_ℤ p.1)))) px (beside p pe).0)
              (subst (λ (x : ℤ). Inside a ws (panel_at (corner x (pred_ℤ r.1)))) rx (beside r re).0)
              (subst (λ (x : ℤ). Inside a ws (panel_at (corner x (pred_ℤ m.1)))) mx (beside m me).0)
              left right' refl (omega (zarith, low, bal_pred m.1, bal_pred (there a w q).1))
              (chord (there a w t.a) (there a w t.b) (there a w q) p.1 r.1 left right' (subst (λ (z : ℤ). z ≤ℤ pos 0) (sym (cross-moved a.0 a.1 t.a t.b q)) t.under) py ry)

  pub first_convex : ConvexPart w
  first_convex = record { letters = two_letters; none = none_between }

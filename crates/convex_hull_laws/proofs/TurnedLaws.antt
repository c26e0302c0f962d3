-- The panels inside a closed walk are the same from another of its corners and the other way round, and turn with it.
-- Assumes nothing.
use mathlib.Core.Bool.{Bool, true, false, not, ◌&&◌, true≢false}
use mathlib.Core.List.{List, [], ◌∷◌, ◌++◌, map, Memᴰ}
use mathlib.Core.Logic.{◌↔◌}
use mathlib.Core.Path.{◌≡◌, refl, sym, ap, ap₂, ◌∙◌, subst}
use Prim.Native.Nat.{ℕ, zero, suc, ◌+◌, ◌%◌}
use native.Mathlib.Omega.{arith}
use lib.IntN.{ℤ, pos, suc_ℤ, pred_ℤ, neg_ℤ, nat_abs, pred-suc, neg_ℤ-neg_ℤ, ◌+ℤ◌, ◌-ℤ◌}
use lib.ListN.{take, length-map}
use lib.Signed.{lt_z, ◌<ℤ◌, ◌≤ℤ◌}
use Rattle.int_laws.proofs.LinearLaws.{zarith, bal+, bal-}
use Rattle.int_laws.proofs.NextLaws.{bal_suc, false_lt}
use Rattle.int_laws.proofs.RangeLaws.{abs_nat}
use Rattle.lists.specs.Lists.{count, tally}
use Rattle.lists.proofs.CountLaws.{count_never}
use Rattle.lists.proofs.GatherLaws.{and_left}
use Rattle.lists.proofs.FindLaws.{count-append, bool_agree}
use Rattle.grid.specs.declared.{Corner.Corner, Panel.Panel}
use Rattle.grid.specs.Grid.{corner, panel_at, eq_z, same, stepped, end_from, corner_at, back}
use Rattle.grid.proofs.CornerLaws.{same_sound, same_refl, eq_z_sound, corner_eq}
use Rattle.grid.proofs.StepLaws.{end_from-append, stepped-back}
use Rattle.trace.specs.Verdict.{IsRoom}
use Rattle.panels.specs.Edges.{Edge, edge_of, edges_from, beside, surplus_of}
use Rattle.panels.specs.Box.{box_of}
use Rattle.panels.specs.Inside.{edges_beside, Inside, left_of, right_of}
use Rattle.panels.specs.Moved.{turned, backward}
use Rattle.area_laws.proofs.AreaLaws.{surplus_inside}
use Rattle.area_laws.proofs.BoxLaws.{box_holds, box_met, edges_held}
use Rattle.area_laws.proofs.ImageLaws.{end_image, turn}
use Rattle.area_laws.proofs.MovedLaws.{end_backward}
use Rattle.room_laws.proofs.AcrossLaws.{along, walks, across}
use Rattle.convex_laws.proofs.TurnLaws.{quarter, image_in}

-- ---- the edges of two walks, one after the other

beside-append : (c : Corner) (u v : List ℕ) (p : Panel) → edges_beside c (u ++ v) p ≡ edges_beside c u p + edges_beside (end_from c u) v p
beside-append c [] v p = omega arith
beside-append c (d ∷ u) v p =
    let f : Edge → Bool = λ e. beside p e.foot in
    omega (arith, count-append f (edge_of d c) (edges_from (stepped d c) (u ++ v)), count-append f (edge_of d c) (edges_from (stepped d c) u), beside-append (stepped d c) u v p)

pub inside_cycle : (c : Corner) (u v : List ℕ) → end_from c (u ++ v) ≡ c → (p : Panel) → Inside c (u ++ v) p ↔ Inside (end_from c u) (v ++ u) p
inside_cycle c u v closed p = (λ i. omega (arith, i, e), λ i. omega (arith, i, e))
  where
    e : edges_beside (end_from c u) (v ++ u) p ≡ edges_beside c (u ++ v) p
    e = omega (arith, beside-append c u v p, beside-append (end_from c u) v u p, ap (λ (q : Corner). edges_beside q u p) (sym (end_from-append c u v) ∙ closed))

-- ---- walked backwards

beside_back : (d : ℕ) (c : Corner) (p : Panel) → edges_beside (stepped d c) (back d ∷ []) p ≡ edges_beside c (d ∷ []) p
beside_back zero c p = refl
beside_back (suc zero) c p = ap (λ (q : Corner). tally (beside p q) + 0) (stepped-back 1 c)
beside_back (suc (suc zero)) c p = refl
beside_back (suc (suc (suc d))) c p = refl

beside-backward : (c : Corner) (ds : List ℕ) (p : Panel) → edges_beside (end_from c ds) (backward ds) p ≡ edges_beside c ds p
beside-backward c [] p = refl
beside-backward c (d ∷ ds) p =
    omega (arith, beside-append (end_from (stepped d c) ds) (backward ds) (back d ∷ []) p, beside-backward (stepped d c) ds p, ap (λ (q : Corner). edges_beside q (back d ∷ []) p) (end_backward (stepped d c) ds), beside_back d c p, beside-append c (d ∷ []) ds p)

pub inside-backward : (c : Corner) (ds : List ℕ) → end_from c ds ≡ c → (p : Panel) → Inside c ds p ↔ Inside c (backward ds) p
inside-backward c ds closed p = (λ i. omega (arith, i, e), λ i. omega (arith, i, e))
  where
    e : edges_beside c (backward ds) p ≡ edges_beside c ds p
    e = ap (λ (q : Corner). edges_beside q (backward ds) p) (sym closed) ∙ beside-backward c ds p

-- ---- a quarter turn

quarter-one : (a b : Corner) → quarter a ≡ quarter b → a ≡ b
quarter-one a b e = corner_eq a b (ap (λ (q : Corner). q.1) e) (sym (neg_ℤ-neg_ℤ a.1) ∙ ap (λ (q : Corner). neg_ℤ q.0) e ∙ neg_ℤ-neg_ℤ b.1)

along-turned : (e d : ℕ) → along (turned e) (turned d) ≡ along e d
along-turned zero zero = refl
along-turned zero (suc zero) = refl
along-turned zero (suc (suc zero)) = refl
along-turned zero (suc (suc (suc d))) = refl
along-turned (suc zero) zero = refl
along-turned (suc zero) (suc zero) = refl
along-turned (suc zero) (suc (suc zero)) = refl
along-turned (suc zero) (suc (suc (suc d))) = refl
along-turned (suc (suc zero)) zero = refl
along-turned (suc (suc zero)) (suc zero) = refl
along-turned (suc (suc zero)) (suc (suc zero)) = refl
along-turned (suc (suc zero)) (suc (suc (suc d))) = refl
along-turned (suc (suc (suc e))) zero = refl
along-turned (suc (suc (suc e))) (suc zero) = refl
along-turned (suc (suc (suc e))) (suc (suc zero)) = refl
along-turned (suc (suc (suc e))) (suc (suc (suc d))) = refl

same-turned : (a b : Corner) → same (quarter a) (quarter b) ≡ same a b
same-turned a b = bool_agree (same (quarter a) (quarter b)) (same a b)
    (λ e. ap (same a) (sym (quarter-one a b (same_sound (quarter a) (quarter b) e))) ∙ same_refl a)
    (λ e. ap (λ (q : Corner). same (quarter a) (quarter q)) (sym (same_sound a b e)) ∙ same_refl (quarter a))

walks-turned : (c : Corner) (ds : List ℕ) (d : ℕ) (v : Corner) → walks (quarter c) (map turned ds) (turned d) (quarter v) ≡ walks c ds d v
walks-turned c [] d v = refl
walks-turned c (e ∷ ds) d v =
    ap₂ ◌+◌ (ap tally (ap₂ (λ (x y : Bool). x && y) (along-turned e d) (same-turned c v)))
    (ap (λ (q : Corner). walks q (map turned ds) (turned d) (quarter v)) (turn.carries e c) ∙ walks-turned (stepped e c) ds d v)

-- the panel turned with its corners: its upper left corner becomes the lower left one
abbrev pub turned_panel : Panel → Panel
turned_panel p = panel_at (corner (pred_ℤ (neg_ℤ p.1)) p.0)

module _ (c : Corner) (ds : List ℕ) (closed : end_from c ds ≡ c) where
  abbrev c' : Corner
  c' = quarter c

  abbrev ds' : List ℕ
  ds' = map turned ds

  closed_turned : end_from c' ds' ≡ c'
  closed_turned = end_image turn c ds ∙ ap quarter closed

  -- no edge beside a panel
  surplus_none : (c : Corner) (ds : List ℕ) (p : Panel) → ((e : Edge) → Memᴰ e (edges_from c ds) → beside p e.foot ≡ false) → surplus_of c ds p ≡ pos 0
  surplus_none c ds p f = ap₂ (λ (m n : ℕ). pos m -ℤ pos n) (none (λ b. b)) (none not)
    where
      none : (t : Bool → Bool) → count (λ e. beside p e.foot && t e.north) (edges_from c ds) ≡ 0
      none t = count_never (λ e. beside p e.foot && t e.north) (edges_from c ds) (λ e m. ap (λ (b : Bool). b && t e.north) (f e m))

  far-east : (p : Panel) → (box_of c ds).east ≤ℤ p.0 → surplus_of c ds p ≡ pos 0
  far-east p h = surplus_none c ds p (λ e m. ap (λ (b : Bool). eq_z e.foot.1 p.1 && b) (false_lt p.0 e.foot.0 (omega (zarith, h, (edges_held (box_of c ds) c ds (box_holds c ds) e m).east))) ∙ and_false (eq_z e.foot.1 p.1))
    where
      and_false : (b : Bool) → (b && false) ≡ false
      and_false true = refl
      and_false false = refl

  far-north : (p : Panel) → (box_of c ds).east ≤ℤ p.0 → surplus_of c' ds' (turned_panel p) ≡ pos 0
  far-north p h = surplus_none c' ds' (turned_panel p) (λ e m. other e (edges_held (box_of c' ds') c' ds' (box_holds c' ds') e m).north)
    where
      top : (box_of c' ds').north ≤ℤ (box_of c ds).east
      top =
          let m = (box_met c' ds').3 in
          let q = image_in turn c ds m.0 m.1 in
          omega (zarith, m.2, ap (λ (z : Corner). z.1) q.2, (box_holds c ds q.0 q.1).east)

      other : (e : Edge) → e.foot.1 <ℤ (box_of c' ds').north → beside (turned_panel p) e.foot ≡ false
      other e l = bool_agree (beside (turned_panel p) e.foot) false (λ b. absurd (omega (zarith, eq_z_sound e.foot.1 p.0 (and_left (eq_z e.foot.1 p.0) (lt_z (pred_ℤ (neg_ℤ p.1)) e.foot.0) b), l, top, h))) (λ b. absurd (true≢false (sym b)))

  -- from one panel to the next on its west side
  next_west : (v : Corner) → surplus_of c ds (right_of 1 v) ≡ surplus_of c' ds' (turned_panel (right_of 1 v)) → surplus_of c ds (left_of 1 v) ≡ surplus_of c' ds' (turned_panel (left_of 1 v))
  next_west v e =
      let f = across c ds closed 1 v in
      let g = across c' ds' closed_turned 2 (quarter v) in
      let a = walks-turned c ds 1 v in
      let b : walks c' ds' 0 (stepped 2 (quarter v)) ≡ walks c ds 3 (stepped 1 v) = ap (λ (q : Corner). walks c' ds' 0 q) (turn.carries 1 v) ∙ walks-turned c ds 3 (stepped 1 v) in
      omega (
        zarith,
        e,
        f,
        g,
        a,
        b,
        bal+ (surplus_of c ds (left_of 1 v)) (pos (walks c ds 3 (stepped 1 v))),
        bal+ (surplus_of c ds (right_of 1 v)) (pos (walks c ds 1 v)),
        bal+ (surplus_of c' ds' (left_of 2 (quarter v))) (pos (walks c' ds' 0 (stepped 2 (quarter v)))),
        bal+ (surplus_of c' ds' (right_of 2 (quarter v))) (pos (walks c' ds' 2 (quarter v))),
      )

  surplus_turned : (n : ℕ) (x y : ℤ) → (box_of c ds).east ≤ℤ (x +ℤ pos n) → surplus_of c ds (panel_at (corner x y)) ≡ surplus_of c' ds' (turned_panel (panel_at (corner x y)))
  surplus_turned zero x y h = let l : (box_of c ds).east ≤ℤ x = omega (zarith, h, bal+ x (pos 0)) in far-east (panel_at (corner x y)) l ∙ sym (far-north (panel_at (corner x y)) l)
  surplus_turned (suc n) x y h =
      subst (λ (z : ℤ). surplus_of c ds (panel_at (corner z y)) ≡ surplus_of c' ds' (turned_panel (panel_at (corner z y)))) (pred-suc x)
      (next_west (corner (suc_ℤ x) y) (surplus_turned n (suc_ℤ x) y (omega (zarith, h, bal_suc x, bal+ x (pos (suc n)), bal+ (suc_ℤ x) (pos n)))))

  pub inside-turned : (p : Panel) → Inside c ds p ↔ Inside c' ds' (turned_panel p)
  inside-turned p = (
    λ i. (surplus_inside c' ds' (turned_panel p)).1 (ap (λ (z : ℤ). nat_abs z % 2) (sym e) ∙ (surplus_inside c ds p).0 i),
    λ i. (surplus_inside c ds p).1 (ap (λ (z : ℤ). nat_abs z % 2) e ∙ (surplus_inside c' ds' (turned_panel p)).0 i),
  )
    where
      n : ℕ
      n = nat_abs ((box_of c ds).east -ℤ p.0)

      e : surplus_of c ds p ≡ surplus_of c' ds' (turned_panel p)
      e = surplus_turned n p.0 p.1 (omega (zarith, bal- (box_of c ds).east p.0, bal+ p.0 (pos n), abs_nat ((box_of c ds).east -ℤ p.0)))

-- ---- a room turned is a room

take-map : (t : ℕ → ℕ) (k : ℕ) (l : List ℕ) → take k (map t l) ≡ map t (take k l)
take-map t zero l = refl
take-map t (suc k) [] = refl
take-map t (suc k) (x ∷ l) = ap (λ (m : List ℕ). t x ∷ m) (take-map t k l)

pub room-turned : (c : Corner) (ds : List ℕ) → IsRoom c ds → IsRoom (quarter c) (map turned ds)
room-turned c ds r = record {
  four = omega (arith, r.four, length-map ds turned);
  closed = closed_turned c ds r.closed;
  only = λ j k t. (let m = r.only j k (record { earlier = t.earlier; within = omega (arith, t.within, length-map ds turned); equal = quarter-one (corner_at c ds j) (corner_at c ds k) (sym (at j) ∙ t.equal ∙ at k) }) in (m.0, m.1 ∙ sym (length-map ds turned)));
}
  where
    at : (k : ℕ) → corner_at (quarter c) (map turned ds) k ≡ quarter (corner_at c ds k)
    at k = ap (end_from (quarter c)) (take-map turned k ds) ∙ end_image turn c (take k ds)

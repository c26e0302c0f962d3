-- What the area of a room counts. A room has its inside on the left of every step, and its area is the number of panels
-- inside it; or on the right, and its area is that number's negative.
-- Assumes nothing.
use mathlib.Core.List.{List, [], ◌∷◌}
use mathlib.Core.Logic.{◌⊎◌, ◌↔◌, inl, inr, ⊎_elim, ⊎_map}
use mathlib.Core.Path.{◌≡◌, refl, ap, sym, ◌∙◌}
use Prim.Native.Nat.{ℕ, ◌<◌}
use native.Mathlib.Omega.{arith}
use lib.IntN.{pos, negsuc, neg_ℤ, nat_abs}
use lib.ListN.{length}
use lib.Signed.{◌<ℤ◌}
use Rattle.int_laws.proofs.LinearLaws.{zarith, neg_nat}
use Rattle.int_laws.proofs.RangeLaws.{abs_neg}
use Rattle.int_laws.proofs.RingLaws.{ring, v, k, ◌⊗◌, ⊝}
use Rattle.grid.specs.declared.{Corner.Corner, Panel.Panel}
use Rattle.grid.specs.Grid.{stepped, end_from}
use Rattle.trace.specs.Verdict.{IsRoom, area_of}
use Rattle.panels.specs.Edges.{surplus_of}
use Rattle.panels.specs.Inside.{panels_inside, ListsInside, left_of, right_of, EachStep, InsideLeft, InsideRight}
use Rattle.area_laws.proofs.AreaLaws.{area_panels}
use Rattle.room_laws.proofs.KeepsLaws.{Keeps, room_keeps}
use Rattle.room_laws.proofs.InsideLaws.{odd-inside, zero_outside, sum_inside, inside_listed, inside_some}

each_step : {P Q : ℕ → Corner → Type 0} → ((d : ℕ) (q : Corner) → P d q → Q d q) → (c : Corner) (ds : List ℕ) → EachStep P c ds → EachStep Q c ds
each_step f c [] h = tt
each_step f c (d ∷ ds) h = (f d c h.0, each_step f (stepped d c) ds h.1)

module _ (c : Corner) (ds : List ℕ) where
  left-inside : Keeps (pos 0) c ds → InsideLeft c ds
  left-inside g = each_step (λ d q h. (odd-inside c ds (pos 1) refl (left_of d q) h.1, zero_outside c ds (right_of d q) h.0)) c ds g.sides

  right-inside : Keeps (negsuc 0) c ds → InsideRight c ds
  right-inside g = each_step (λ d q h. (odd-inside c ds (negsuc 0) refl (right_of d q) h.0, zero_outside c ds (left_of d q) h.1)) c ds g.sides

-- the inside is not on both sides, and on either there is a panel
not_both : (c : Corner) (ds : List ℕ) → 0 < length ds → InsideLeft c ds → InsideRight c ds → ⊥
not_both c [] h l r = omega arith
not_both c (d ∷ ds) h l r = l.0.1 r.0.0

some_inside : (c : Corner) (ds : List ℕ) → 0 < length ds → end_from c ds ≡ c → InsideLeft c ds ⊎ InsideRight c ds → 0 < panels_inside c ds
some_inside c [] h e s = absurd (omega arith)
some_inside c (d ∷ ds) h e s = ⊎_elim (λ l. inside_some c (d ∷ ds) e (left_of d c) l.0.0) (λ r. inside_some c (d ∷ ds) e (right_of d c) r.0.0) s

module _ (c : Corner) (ds : List ℕ) (r : IsRoom c ds) where
  some : 0 < length ds
  some = omega (arith, r.four)

  keeps : Keeps (pos 0) c ds ⊎ Keeps (negsuc 0) c ds
  keeps = room_keeps c ds r

  pub room_surplus : ((p : Panel) → (surplus_of c ds p ≡ pos 0) ⊎ (surplus_of c ds p ≡ pos 1)) ⊎ ((p : Panel) → (surplus_of c ds p ≡ pos 0) ⊎ (surplus_of c ds p ≡ negsuc 0))
  room_surplus = ⊎_map (λ g. g.panels) (λ g p. ⊎_elim inr inl (g.panels p)) keeps

  pub room-counts : (InsideLeft c ds × (area_of c ds ≡ pos (panels_inside c ds))) ⊎ (InsideRight c ds × (area_of c ds ≡ neg_ℤ (pos (panels_inside c ds))))
  room-counts =
      let n = pos (panels_inside c ds) in
      ⊎_map
      (λ g. (left-inside c ds g, area_panels c ds r ∙ sum_inside c ds (pos 1) refl g.panels ∙ ring 1 (n ∷ []) (k (pos 1) ⊗ v 0) (v 0) tt))
      (λ g. (right-inside c ds g, area_panels c ds r ∙ sum_inside c ds (negsuc 0) refl (λ p. ⊎_elim inr inl (g.panels p)) ∙ ring 1 (n ∷ []) (k (negsuc 0) ⊗ v 0) (⊝ (v 0)) tt))
      keeps

  pub room_magnitude : nat_abs (area_of c ds) ≡ panels_inside c ds
  room_magnitude = ⊎_elim (λ g. ap nat_abs g.1) (λ g. ap nat_abs g.1 ∙ abs_neg (pos (panels_inside c ds))) room-counts

  pub room_some : 0 < panels_inside c ds
  room_some = some_inside c ds some r.closed (⊎_map (λ g. g.0) (λ g. g.0) room-counts)

  pub room_sign : (pos 0 <ℤ area_of c ds ↔ InsideLeft c ds) × (area_of c ds <ℤ pos 0 ↔ InsideRight c ds)
  room_sign =
      let n = neg_nat (pos (panels_inside c ds)) in
      ⊎_elim
      (λ g. ((λ h. g.0, λ l. omega (zarith, g.1, room_some)), (λ h. absurd (omega (zarith, g.1)), λ l. absurd (not_both c ds some g.0 l))))
      (λ g. ((λ h. absurd (omega (zarith, g.1, n)), λ l. absurd (not_both c ds some l g.0)), (λ h. g.0, λ l. omega (zarith, g.1, n, room_some))))
      room-counts

  pub room_panels : (ps : List Panel) → ListsInside c ds ps → nat_abs (area_of c ds) ≡ length ps
  room_panels ps l = room_magnitude ∙ sym (inside_listed c ds r.closed ps l)

-- The outline of a room has the room's inside on its left: it goes counterclockwise.
-- Assumes nothing.
use mathlib.Core.Bool.{true}
use mathlib.Core.List.{List, [], ◌∷◌, Memᴰ}
use mathlib.Core.Logic.{◌⊎◌, inl, inr, ⊎_elim}
use mathlib.Core.Path.{◌≡◌, refl, ap, ap₂, sym, ◌∙◌, subst}
use Prim.Native.Nat.{ℕ, ◌<◌}
use Rattle.lists.specs.Lists.{Below}
use Rattle.grid.specs.declared.{Corner.Corner, Panel.Panel}
use Rattle.grid.specs.Grid.{stepped, legs_from, back}
use Rattle.grid.proofs.StepLaws.{back_small, stepped-back, stepped_inj}
use Rattle.trace.specs.Verdict.{IsRoom}
use Rattle.panels.specs.Inside.{Inside, left_of, right_of, EachStep}
use Rattle.room_laws.proofs.CornerLaws.{left_back, right-back}
use Rattle.room_laws.proofs.RoomLaws.{room-counts}
use Rattle.outline.specs.Outline.{walked, home_of, OutlineIs}
use Rattle.outline_laws.proofs.EdgeLaws.{Way, walked_edge}
use Rattle.outline_laws.proofs.OutlineLaws.{ways_of, outline_ways}
use Rattle.outline_laws.proofs.FewLaws.{edge_of, ways_below}
use Rattle.outline_room_laws.specs.Outside.{Outside}
use Rattle.outline_room_laws.proofs.OutsideLaws.{outline_outside, outside_not_inside}

-- what holds of each step holds of each way, and the other way round
module _ (P : ℕ → Corner → Type 0) where
  pub each_way : (p : Corner) (es : List ℕ) → EachStep P p es → (y : Way) → Memᴰ y (ways_of p es) → P y.1 y.0
  each_way p [] f y m = absurd (mathlib.Core.List.Memᴰ.not-nil m)
  each_way p (d ∷ es) f y m = ⊎_elim (λ e. subst (λ (z : Way). P z.1 z.0) (sym e) f.0) (λ t. each_way (stepped d p) es f.1 y t) (mathlib.Core.List.Memᴰ.cases_cons m)

  way_each : (p : Corner) (es : List ℕ) → ((y : Way) → Memᴰ y (ways_of p es) → P y.1 y.0) → EachStep P p es
  way_each p [] f = tt
  way_each p (d ∷ es) f = (f (p, d) (mathlib.Core.List.Memᴰ.head refl), way_each (stepped d p) es (λ y m. f y (mathlib.Core.List.Memᴰ.tail m)))

  -- of the step along an edge
  pub each_edge : (c : Corner) (ds : List ℕ) → Below 4 ds → EachStep P c ds → (v : Corner) (d : ℕ) → d < 4 → Memᴰ (v, stepped d v) (legs_from c ds) → P d v
  each_edge c ds b f v d h m =
      let k = edge_of c ds (v, stepped d v) m in
      let q : k.0.0 ≡ v = sym (ap (λ (e : Corner × Corner). e.0) k.2) in
      let x : k.0.1 ≡ d = stepped_inj k.0.1 d v (ways_below c ds b k.0 k.1) h (ap (stepped k.0.1) (sym q) ∙ sym (ap (λ (e : Corner × Corner). e.1) k.2)) in
      subst (λ (z : Way). P z.1 z.0) (ap₂ (λ (a : Corner) (i : ℕ). (a, i)) q x) (each_way c ds f k.0 k.1)

module _ (c : Corner) (ds : List ℕ) (r : IsRoom c ds) (b : Below 4 ds) where
  -- one panel is inside and the other is not
  abbrev Parts : Panel → Panel → Type 0
  Parts p q = Inside c ds p × (Inside c ds q → ⊥)

  -- so it is on both sides of each step
  parted : EachStep (λ d v. Parts (left_of d v) (right_of d v)) c ds ⊎ EachStep (λ d v. Parts (right_of d v) (left_of d v)) c ds
  parted = ⊎_elim (λ k. inl k.0) (λ k. inr k.0) (room-counts c ds r)

  -- of the two panels beside a walked edge one is inside and the other is not
  pub walked_parts : (v : Corner) (d : ℕ) → d < 4 → walked c ds v d ≡ true → Parts (left_of d v) (right_of d v) ⊎ Parts (right_of d v) (left_of d v)
  walked_parts v d h w = ⊎_elim forth against (walked_edge c ds v d w)
    where
      forth : Memᴰ (v, stepped d v) (legs_from c ds) → Parts (left_of d v) (right_of d v) ⊎ Parts (right_of d v) (left_of d v)
      forth m = ⊎_elim (λ f. inl (each_edge (λ d v. Parts (left_of d v) (right_of d v)) c ds b f v d h m)) (λ f. inr (each_edge (λ d v. Parts (right_of d v) (left_of d v)) c ds b f v d h m)) parted

      against : Memᴰ (stepped d v, v) (legs_from c ds) → Parts (left_of d v) (right_of d v) ⊎ Parts (right_of d v) (left_of d v)
      against m =
          let n : Memᴰ (stepped d v, stepped (back d) (stepped d v)) (legs_from c ds) = subst (λ (x : Corner). Memᴰ (stepped d v, x) (legs_from c ds)) (sym (stepped-back d v)) m in
          ⊎_elim
          (λ f. inr (turn (λ p q. Parts p q) (right-back d v) (left_back d v) (each_edge (λ d v. Parts (left_of d v) (right_of d v)) c ds b f (stepped d v) (back d) (back_small d) n)))
          (λ f. inl (turn (λ p q. Parts p q) (left_back d v) (right-back d v) (each_edge (λ d v. Parts (right_of d v) (left_of d v)) c ds b f (stepped d v) (back d) (back_small d) n)))
          parted
        where
          turn : (T : Panel → Panel → Type 0) {p p' q q' : Panel} → p ≡ p' → q ≡ q' → T p q → T p' q'
          turn T {p} {p'} {q} {q'} e f t = subst (λ (x : Panel). T x q') e (subst (T p) f t)

  pub room-left : {es : List ℕ} → OutlineIs c ds es → EachStep (λ d v. Inside c ds (left_of d v) × (Inside c ds (right_of d v) → ⊥)) (home_of c ds) es
  room-left {es} o = way_each (λ d v. Parts (left_of d v) (right_of d v)) (home_of c ds) es sides
    where
      sides : (y : Way) → Memᴰ y (ways_of (home_of c ds) es) → Parts (left_of y.1 y.0) (right_of y.1 y.0)
      sides y m =
          let w = outline_ways o y m in
          let n = outside_not_inside c ds r.closed (right_of y.1 y.0) (each_way (λ d v. Outside c ds (right_of d v)) (home_of c ds) es (outline_outside o) y m) in
          ⊎_elim (λ p. p) (λ p. absurd (n p.0)) (walked_parts y.0 y.1 w.0 w.1)

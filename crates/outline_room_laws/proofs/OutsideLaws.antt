-- The panel on the right of every step of an outline lies outside the walk. What lies outside a closed walk is not inside it.
-- Assumes nothing.
use mathlib.Core.Bool.{Bool, true, false, true≢false}
use mathlib.Core.List.{List, [], ◌∷◌, Memᴰ}
use mathlib.Core.Logic.{inl, inr, ⊎_elim, ◌↔◌}
use mathlib.Core.Path.{◌≡◌, refl, ap, ap₂, sym, ◌∙◌, subst}
use Prim.Native.Nat.{ℕ, zero, suc, ◌%◌, ◌<◌}
use native.Mathlib.Omega.{arith}
use lib.IntN.{ℤ, pos, nat_abs, pred_ℤ, ◌+ℤ◌}
use lib.ListN.{length}
use lib.Signed.{◌≤ℤ◌, ◌<ℤ◌}
use Rattle.int_laws.proofs.LinearLaws.{zarith, bal+}
use Rattle.int_laws.proofs.NextLaws.{bal_pred}
use Rattle.grid.specs.declared.{Corner.Corner, Panel.Panel}
use Rattle.grid.specs.Grid.{same, stepped, end_from, legs_from, back, Begins}
use Rattle.grid.proofs.CornerLaws.{same_sound}
use Rattle.grid.proofs.StepLaws.{stepped-back}
use Rattle.steps.specs.Turns.{step_after}
use Rattle.panels.specs.Edges.{surplus_of}
use Rattle.panels.specs.Inside.{Inside, left_of, right_of, EachStep}
use Rattle.area_laws.proofs.AreaLaws.{surplus_inside}
use Rattle.area_laws.proofs.BoxLaws.{box_met}
use Rattle.room_laws.proofs.AcrossLaws.{along, walks, across}
use Rattle.room_laws.proofs.CornerLaws.{along_one, right-back, never}
use Rattle.room_laws.proofs.InsideLaws.{inside_held}
use Rattle.outline.specs.Outline.{walked, home_of, first_way, onward, path_from, OutlineIs}
use Rattle.outline_laws.proofs.EdgeLaws.{edge_walked}
use Rattle.outline_laws.proofs.TurnLaws.{onward_small}
use Rattle.outline_laws.proofs.HomeLaws.{home_least, home_ways}
use Rattle.outline_laws.proofs.RoundLaws.{ways}
use Rattle.outline_room_laws.specs.Outside.{Outside}
use Rattle.outline_room_laws.specs.Outside as out

-- the four panels at a corner, from the right of the way by which it is reached round to the left: each has the next on the other side of an edge
sides : (d : ℕ) → d < 4 → (q : Corner)
    → (left_of (back d) q ≡ right_of (step_after d 3) q) × (left_of (step_after d 3) q ≡ right_of (step_after d 0) q) × (left_of (step_after d 0) q ≡ right_of (step_after d 1) q) × (left_of (step_after d 1) q ≡ right_of (step_after d 2) q)
sides zero h q = (refl, refl, refl, refl)
sides (suc zero) h q = (refl, refl, refl, refl)
sides (suc (suc zero)) h q = (refl, refl, refl, refl)
sides (suc (suc (suc zero))) h q = (refl, refl, refl, refl)
sides (suc (suc (suc (suc d)))) h q = absurd (omega arith)

-- what holds of a panel, and of every panel that is reached from it across edges that were not walked
module _ (c : Corner) (ds : List ℕ) (P : Panel → Type 0) (over : (d : ℕ) (q : Corner) → walked c ds q d ≡ false → P (right_of d q) → P (left_of d q)) where
  -- from right to left, as far as no edge was walked
  by-turns : (d : ℕ) → d < 4 → (q : Corner) → P (left_of (back d) q) → (r s l : Bool) → walked c ds q (step_after d 3) ≡ r → walked c ds q (step_after d 0) ≡ s → walked c ds q (step_after d 1) ≡ l
      → P (right_of (onward (walked c ds q) d) q)
  by-turns d h q o r s l er es el = go r s er es el
    where
      first : P (right_of (step_after d 3) q)
      first = subst P (sides d h q).0 o

      second : walked c ds q (step_after d 3) ≡ false → P (right_of (step_after d 0) q)
      second e = subst P (sides d h q).1 (over (step_after d 3) q e first)

      third : walked c ds q (step_after d 3) ≡ false → walked c ds q (step_after d 0) ≡ false → P (right_of (step_after d 1) q)
      third e f = subst P (sides d h q).2 (over (step_after d 0) q f (second e))

      fourth : walked c ds q (step_after d 3) ≡ false → walked c ds q (step_after d 0) ≡ false → walked c ds q (step_after d 1) ≡ false → P (right_of (step_after d 2) q)
      fourth e f g = subst P (sides d h q).3 (over (step_after d 1) q g (third e f))

      go : (r s : Bool) → walked c ds q (step_after d 3) ≡ r → walked c ds q (step_after d 0) ≡ s → walked c ds q (step_after d 1) ≡ l → P (right_of (onward (walked c ds q) d) q)
      go true s er es el = rw er first
      go false true er es el = rw (er, es) (second er)
      go false false er es el = last l el
        where
          last : (l : Bool) → walked c ds q (step_after d 1) ≡ l → P (right_of (onward (walked c ds q) d) q)
          last true el = rw (er, es, el) (third er es)
          last false el = rw (er, es, el) (fourth er es el)

  -- it holds on the right of each step that keeps to the right, if it does of the step before
  pub onward-right : (d : ℕ) → d < 4 → (p : Corner) → P (right_of d p) → P (right_of (onward (walked c ds (stepped d p)) d) (stepped d p))
  onward-right d h p o =
      let q = stepped d p in
      by-turns d h q (subst P (sym (right-back d p)) o) (walked c ds q (step_after d 3)) (walked c ds q (step_after d 0)) (walked c ds q (step_after d 1)) refl refl refl

module _ (c : Corner) (ds : List ℕ) where
  path_outside : (n : ℕ) (p : Corner) (d : ℕ) → d < 4 → Outside c ds (right_of d p) → EachStep (λ e q. Outside c ds (right_of e q)) p (path_from c ds n p d)
  path_outside zero p d h o = tt
  path_outside (suc n) p d h o = (o, path_outside n (stepped d p) (onward (walked c ds (stepped d p)) d) (onward_small (walked c ds (stepped d p)) d) (onward-right c ds (Outside c ds) (λ e q w r. out.across e q w r) d h p o))

  -- below and left of the lowest of the leftmost corners
  beyond : Outside c ds (right_of 3 (home_of c ds))
  beyond = out.west (right_of 3 (home_of c ds)) (λ q m. left (home_of c ds) q (home_least c ds q m))
    where
      left : (h q : Corner) → Begins h q → pred_ℤ h.0 <ℤ q.0
      left h q (inl l) = omega (zarith, bal_pred h.0)
      left h q (inr l) = omega (zarith, l.0, bal_pred h.0)

  below : Outside c ds (right_of 0 (home_of c ds))
  below = out.across 3 (home_of c ds) (home_ways c ds 3 (omega arith)) beyond

  start_outside : (first_way c ds < 4) × Outside c ds (right_of (first_way c ds) (home_of c ds))
  start_outside =
      ⊎_elim
      (λ k. rw k.1 (omega arith, below))
      (λ k. rw k.1 (omega arith, out.across 0 (home_of c ds) k.0 below))
      (ways c ds)

-- the panel on the right of each step of the outline lies outside the walk
pub outline_outside : {c : Corner} {ds es : List ℕ} → OutlineIs c ds es → EachStep (λ d q. Outside c ds (right_of d q)) (home_of c ds) es
outline_outside {c} {ds} {es} o =
    let s = start_outside c ds in
    subst (EachStep (λ d q. Outside c ds (right_of d q)) (home_of c ds)) (sym o.path) (path_outside c ds (length es) (home_of c ds) (first_way c ds) s.0 s.1)

-- ---- closed walks

-- an edge that was not walked is not taken
not_taken : (c : Corner) (ds : List ℕ) (d : ℕ) (v : Corner) → (Memᴰ (v, stepped d v) (legs_from c ds) → ⊥) → walks c ds d v ≡ 0
not_taken c [] d v f = refl
not_taken c (e ∷ ds) d v f = omega (arith, never (along e d) (same c v) here, not_taken (stepped e c) ds d v (λ m. f (Memᴰ.tail m)))
  where
    here : along e d ≡ true → same c v ≡ true → ⊥
    here a s =
        let p : c ≡ v = same_sound c v s in
        f (Memᴰ.head (ap₂ (λ (x y : Corner). (x, y)) (sym p) (sym (along_one (λ n. stepped n v) (λ n. refl) e d a) ∙ ap (stepped e) (sym p))))

module _ (c : Corner) (ds : List ℕ) (closed : end_from c ds ≡ c) where
  -- across an edge that was not walked the surplus stays
  surplus_across : (d : ℕ) (q : Corner) → walked c ds q d ≡ false → surplus_of c ds (left_of d q) ≡ surplus_of c ds (right_of d q)
  surplus_across d q w =
      let a = not_taken c ds d q (λ m. true≢false (sym (edge_walked c ds q d (inl m)) ∙ w)) in
      let b = not_taken c ds (back d) (stepped d q) (λ m. true≢false (sym (edge_walked c ds q d (inr (subst (λ (x : Corner). Memᴰ (stepped d q, x) (legs_from c ds)) (stepped-back d q) m))) ∙ w)) in
      let t : surplus_of c ds (left_of d q) +ℤ pos 0 ≡ surplus_of c ds (right_of d q) +ℤ pos 0 = sym (ap (λ (n : ℕ). surplus_of c ds (left_of d q) +ℤ pos n) b) ∙ across c ds closed d q ∙ ap (λ (n : ℕ). surplus_of c ds (right_of d q) +ℤ pos n) a in
      omega (zarith, t, bal+ (surplus_of c ds (left_of d q)) (pos 0), bal+ (surplus_of c ds (right_of d q)) (pos 0))

  -- so what lies inside does
  pub inside-same : (d : ℕ) (q : Corner) → walked c ds q d ≡ false → Inside c ds (right_of d q) ↔ Inside c ds (left_of d q)
  inside-same d q w = (
    λ i. (surplus_inside c ds (left_of d q)).1 (ap (λ (z : ℤ). nat_abs z % 2) (surplus_across d q w) ∙ (surplus_inside c ds (right_of d q)).0 i),
    λ i. (surplus_inside c ds (right_of d q)).1 (ap (λ (z : ℤ). nat_abs z % 2) (sym (surplus_across d q w)) ∙ (surplus_inside c ds (left_of d q)).0 i),
  )

  pub outside_not_inside : (p : Panel) → Outside c ds p → Inside c ds p → ⊥
  outside_not_inside p (out.west _ f) i =
      let h = inside_held c ds closed p i in
      let m = (box_met c ds).0 in
      bad h.west (f m.0 m.1) m.2
    where
      bad : {a b w : ℤ} → w ≤ℤ a → a <ℤ b → b ≡ w → ⊥
      bad l g e = omega (zarith, l, g, e)
  outside_not_inside _ (out.across d q w o) i = outside_not_inside (right_of d q) o ((inside-same d q w).1 i)

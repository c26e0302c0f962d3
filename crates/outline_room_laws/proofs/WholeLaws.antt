-- The outline passes every walked edge that has the outside on its right. What is shown of each way along a walked edge is that the outline takes it, or
-- that the panel on its right is inside the outline: so it is of the first way, of the way on from such a way, and of its way back; and these lead everywhere.
-- Assumes nothing.
use mathlib.Core.Bool.{Bool, true, false, ◌&&◌, true≢false}
use mathlib.Core.List.Memᴰ
use mathlib.Core.List.{List, [], ◌∷◌, Memᴰ}
use mathlib.Core.Logic.{◌⊎◌, inl, inr, ⊎_elim, ◌↔◌}
use mathlib.Core.Path.{◌≡◌, refl, ap, ap₂, sym, ◌∙◌, subst}
use Prim.Native.Nat.{ℕ, zero, suc, ◌+◌, ◌-◌, ◌%◌, ◌<◌}
use native.Mathlib.Decide.{dec_lt}
use native.Mathlib.Omega.{arith}
use borrow.Author.Tests.{eqb-true, eq-eqb}
use lib.Dec.{eqb}
use lib.IntN.{ℤ, pos, negsuc, nat_abs, suc_ℤ, ◌+ℤ◌, ◌-ℤ◌, +ℤ_one, +ℤ_idr}
use lib.ListN.{length}
use lib.Signed.{◌≤ℤ◌, ◌<ℤ◌}
use Rattle.int_laws.proofs.LinearLaws.{zarith, bal+, bal-}
use Rattle.int_laws.proofs.NextLaws.{bal_pred}
use Rattle.int_laws.proofs.RangeLaws.{abs_nat}
use Rattle.lists.specs.Lists.{Distinct, Below, any, tally}
use Rattle.lists.proofs.GatherLaws.{any→mem, not_mem}
use Rattle.lists.proofs.FindLaws.{bool_agree}
use Rattle.grid.specs.declared.{Corner.Corner, Panel.Panel}
use Rattle.grid.specs.Grid.{corner, panel_at, same, stepped, corners_from, legs_from, back}
use Rattle.grid.proofs.CornerLaws.{same_sound, same_refl}
use Rattle.grid.proofs.StepLaws.{back-mod, back_small, back-back, stepped-back, stepped_inj}
use Rattle.steps.specs.Turns.{step_after}
use Rattle.panels.specs.Edges.{surplus_of}
use Rattle.panels.specs.Box.{box_of}
use Rattle.panels.specs.Inside.{Inside, left_of, right_of}
use Rattle.area_laws.proofs.AreaLaws.{surplus_inside}
use Rattle.area_laws.proofs.BoxLaws.{box_holds}
use Rattle.room_laws.proofs.AcrossLaws.{walks, across}
use Rattle.room_laws.proofs.AcrossLaws as across_laws
use Rattle.room_laws.proofs.CornerLaws.{left_back, right-back, never}
use Rattle.outline.specs.Outline.{walked, home_of, first_way, onward, OutlineIs}
use Rattle.outline_laws.proofs.OrbitLaws.{after, after_suc, after-mem, mem-after, orbit}
use Rattle.outline_laws.proofs.EdgeLaws.{Way, Edge, along, same_way, same_way_sound, same_way_refl, walked_edge, edge_walked, edge_turned, walked-back, walked_visited}
use Rattle.outline_laws.proofs.HomeLaws.{home_visited}
use Rattle.outline_laws.proofs.PathLaws.{next, On}
use Rattle.outline_laws.proofs.RoundLaws.{start, Round}
use Rattle.outline_laws.proofs.OutlineLaws.{ways_of, outline_orbit, outline_round, outline_ways, outline_once_way, outline_closed, outline_below}
use Rattle.outline_laws.proofs.FewLaws.{edge_of, outline_walked}
use Rattle.outline_laws.proofs.BetweenLaws.{some_step}
use Rattle.outline_room_laws.specs.Outside.{Outside}
use Rattle.outline_room_laws.specs.Outside as out
use Rattle.outline_room_laws.proofs.OutsideLaws.{onward-right, outline_outside, inside-same, outside_not_inside}
use Rattle.outline_room_laws.proofs.SideLaws.{each_way}

-- ---- how often a step is taken by a list of steps that takes no way twice

back_inj : (e d : ℕ) → e < 4 → d < 4 → eqb (back e) (back d) ≡ true → e ≡ d
back_inj e d h g t = sym (back-back e h) ∙ ap back (eqb-true (back e) (back d) t) ∙ back-back d g

taken_none : (p : Corner) (es : List ℕ) → Below 4 es → (v : Corner) (d : ℕ) → d < 4 → (Memᴰ (v, d) (ways_of p es) → ⊥) → walks p es d v ≡ 0
taken_none p [] b v d h f = refl
taken_none p (e ∷ es) b v d h f = omega (arith, never (across_laws.along e d) (same p v) here, taken_none (stepped e p) es b.1 v d h (λ m. f (Memᴰ.tail m)))
  where
    here : across_laws.along e d ≡ true → same p v ≡ true → ⊥
    here a s = f (Memᴰ.head (ap₂ (λ (x : Corner) (y : ℕ). (x, y)) (sym (same_sound p v s)) (sym (back_inj e d b.0 h a))))

taken_once : (p : Corner) (es : List ℕ) → Below 4 es → Distinct (ways_of p es) → (v : Corner) (d : ℕ) → d < 4 → Memᴰ (v, d) (ways_of p es) → walks p es d v ≡ 1
taken_once p [] b u v d h m = absurd (Memᴰ.not-nil m)
taken_once p (e ∷ es) b u v d h m = ⊎_elim here (λ t. later t (taken_once (stepped e p) es b.1 u.1 v d h t)) (Memᴰ.cases_cons m)
  where
    here : ◌≡◌ {A = Way} (v, d) (p, e) → walks p (e ∷ es) d v ≡ 1
    here z =
        let q : v ≡ p = ap (λ (y : Way). y.0) z in
        let x : d ≡ e = ap (λ (y : Way). y.1) z in
        let a : across_laws.along e d ≡ true = eq-eqb (back e) (back d) (ap back (sym x)) in
        let s : same p v ≡ true = ap (same p) q ∙ same_refl p in
        omega (arith, ap tally (ap₂ (λ (i j : Bool). i && j) a s), taken_none (stepped e p) es b.1 v d h (λ t. u.0 (subst (λ (y : Way). Memᴰ y (ways_of (stepped e p) es)) z t)))

    later : Memᴰ (v, d) (ways_of (stepped e p) es) → walks (stepped e p) es d v ≡ 1 → walks p (e ∷ es) d v ≡ 1
    later t w = omega (arith, never (across_laws.along e d) (same p v) apart, w)
      where
        apart : across_laws.along e d ≡ true → same p v ≡ true → ⊥
        apart a s = u.0 (subst (λ (y : Way). Memᴰ y (ways_of (stepped e p) es)) (ap₂ (λ (x : Corner) (y : ℕ). (x, y)) (sym (same_sound p v s)) (sym (back_inj e d b.0 h a))) t)

-- one more than an even number is odd
odd-next : (z : ℤ) → (nat_abs z % 2 ≡ 1 → ⊥) → nat_abs (z +ℤ pos 1) % 2 ≡ 1
odd-next z f = ap (λ (w : ℤ). nat_abs w % 2) (+ℤ_one z) ∙ by z f
  where
    by : (z : ℤ) → (nat_abs z % 2 ≡ 1 → ⊥) → nat_abs (suc_ℤ z) % 2 ≡ 1
    by (pos n) f = elim (dec_lt 0 (n % 2)) [ yes h ↦ absurd (f (omega (arith, h))) | no h ↦ omega (arith, h) ]
    by (negsuc zero) f = absurd (f refl)
    by (negsuc (suc n)) f =
        let g : suc (suc n) % 2 ≡ 1 → ⊥ = f in
        let t : suc n % 2 ≡ 1 = elim (dec_lt 0 (n % 2)) [ yes h ↦ absurd (g (omega (arith, h))) | no h ↦ omega (arith, h) ] in
        t

-- ---- the walked edges of a corner, one after another to the left

-- a statement on the walked directions at a corner that goes on from each to the one by which a path goes on that came back by it
module _ (w : ℕ → Bool) (Q : ℕ → Type 0) (on : (d : ℕ) → d < 4 → w d ≡ true → Q d → Q (onward w (back d))) where
  -- one, two and three turns to the left of d
  left : (d t u : ℕ) → d < 4 → (t + 2) % 4 ≡ u → step_after (back d) t ≡ step_after d u
  left d t u h e = ap (λ (x : ℕ). step_after x t) (back-mod d h) ∙ omega (arith, e)

  one_left : (d : ℕ) → d < 4 → w d ≡ true → Q d → w (step_after d 1) ≡ true → Q (step_after d 1)
  one_left d h a q r =
      let e = left d 3 1 h refl in
      let x : w (step_after (back d) 3) ≡ true = ap w e ∙ r in
      let z : onward w (back d) ≡ step_after d 1 = rw x e in
      subst Q z (on d h a q)

  two-left : (d : ℕ) → d < 4 → w d ≡ true → Q d → w (step_after d 1) ≡ false → w (step_after d 2) ≡ true → Q (step_after d 2)
  two-left d h a q r s =
      let e = left d 0 2 h refl in
      let x : w (step_after (back d) 3) ≡ false = ap w (left d 3 1 h refl) ∙ r in
      let y : w (step_after (back d) 0) ≡ true = ap w e ∙ s in
      let z : onward w (back d) ≡ step_after d 2 = rw (x, y) e in
      subst Q z (on d h a q)

  three-left : (d : ℕ) → d < 4 → w d ≡ true → Q d → w (step_after d 1) ≡ false → w (step_after d 2) ≡ false → w (step_after d 3) ≡ true → Q (step_after d 3)
  three-left d h a q r s t =
      let e = left d 1 3 h refl in
      let x : w (step_after (back d) 3) ≡ false = ap w (left d 3 1 h refl) ∙ r in
      let y : w (step_after (back d) 0) ≡ false = ap w (left d 0 2 h refl) ∙ s in
      let v : w (step_after (back d) 1) ≡ true = ap w e ∙ t in
      let z : onward w (back d) ≡ step_after d 3 = rw (x, y, v) e in
      subst Q z (on d h a q)

  -- a turn more
  more : (d t u v : ℕ) → (t + u) % 4 ≡ v → step_after (step_after d t) u ≡ step_after d v
  more d t u v e = omega (arith, e)

  -- so it is so of all of them
  all_left : (d : ℕ) → d < 4 → w d ≡ true → Q d → (e : ℕ) → e < 4 → w e ≡ true → Q e
  all_left d h a q e g b = by ((e + (4 - d)) % 4) refl
    where
      at : (t : ℕ) → (e + (4 - d)) % 4 ≡ t → step_after d t ≡ e
      at t z = omega (arith, z)

      first : w (step_after d 1) ≡ true → Q (step_after d 1)
      first r = one_left d h a q r

      second : w (step_after d 2) ≡ true → (r : Bool) → w (step_after d 1) ≡ r → Q (step_after d 2)
      second s true r = subst Q (more d 1 1 2 refl) (one_left (step_after d 1) (omega arith) r (first r) (ap w (more d 1 1 2 refl) ∙ s))
      second s false r = two-left d h a q r s

      third : w (step_after d 3) ≡ true → (r s : Bool) → w (step_after d 1) ≡ r → w (step_after d 2) ≡ s → Q (step_after d 3)
      third t r true er s = subst Q (more d 2 1 3 refl) (one_left (step_after d 2) (omega arith) s (second s r er) (ap w (more d 2 1 3 refl) ∙ t))
      third t true false r s = subst Q (more d 1 2 3 refl) (two-left (step_after d 1) (omega arith) r (first r) (ap w (more d 1 1 2 refl) ∙ s) (ap w (more d 1 2 3 refl) ∙ t))
      third t false false r s = three-left d h a q r s t

      by : (t : ℕ) → (e + (4 - d)) % 4 ≡ t → Q e
      by zero z = subst Q (omega (arith, z)) q
      by (suc zero) z = subst Q (at 1 z) (first (ap w (at 1 z) ∙ b))
      by (suc (suc zero)) z = subst Q (at 2 z) (second (ap w (at 2 z) ∙ b) (w (step_after d 1)) refl)
      by (suc (suc (suc zero))) z = subst Q (at 3 z) (third (ap w (at 3 z) ∙ b) (w (step_after d 1)) (w (step_after d 2)) refl refl)
      by (suc (suc (suc (suc t)))) z = absurd (omega (arith, z))

-- ---- the outline and what is outside

-- each way of a list of steps has its leg
leg_of : (p : Corner) (es : List ℕ) (y : Way) → Memᴰ y (ways_of p es) → Memᴰ (y.0, stepped y.1 y.0) (legs_from p es)
leg_of p [] y m = absurd (Memᴰ.not-nil m)
leg_of p (d ∷ es) y m = ⊎_elim (λ e. Memᴰ.head (ap (λ (z : Way). (z.0, stepped z.1 z.0)) e)) (λ t. Memᴰ.tail (leg_of (stepped d p) es y t)) (Memᴰ.cases_cons m)

module _ {c : Corner} {ds es : List ℕ} (o : OutlineIs c ds es) where
  abbrev h : Corner
  h = home_of c ds

  -- the outline takes the way
  abbrev Taken : Way → Type 0
  Taken y = Memᴰ y (ways_of h es)

  -- or the panel on its right is inside the outline
  abbrev Fine : Way → Type 0
  Fine y = Taken y ⊎ Inside h es (right_of y.1 y.0)

  -- it visits no other corners, and walks no other edges
  corners-kept : (p : Corner) (fs : List ℕ) → Memᴰ p (corners_from c ds) → ((y : Way) → Memᴰ y (ways_of p fs) → On c ds y) → (q : Corner) → Memᴰ q (corners_from p fs) → Memᴰ q (corners_from c ds)
  corners-kept p [] v f q m = subst (λ (x : Corner). Memᴰ x (corners_from c ds)) (sym (Memᴰ.eq_of_singleton m)) v
  corners-kept p (d ∷ fs) v f q m =
      ⊎_elim
      (λ e. subst (λ (x : Corner). Memᴰ x (corners_from c ds)) (sym e) v)
      (λ t. corners-kept (stepped d p) fs (walked_visited c ds p d (f (p, d) (Memᴰ.head refl)).1).1 (λ y n. f y (Memᴰ.tail n)) q t)
      (Memᴰ.cases_cons m)

  unwalked : (q : Corner) (d : ℕ) → walked c ds q d ≡ false → walked h es q d ≡ false
  unwalked q d w = bool_agree (walked h es q d) false (λ t. absurd (true≢false (sym (edge_walked c ds q d (edge (walked_edge h es q d t))) ∙ w))) (λ e. absurd (true≢false (sym e)))
    where
      edge : Edge h es q (stepped d q) → Edge c ds q (stepped d q)
      edge (inl m) = outline_walked o q (stepped d q) m
      edge (inr m) = edge_turned c ds (stepped d q) q (outline_walked o (stepped d q) q m)

  outside_kept : (p : Panel) → Outside c ds p → Outside h es p
  outside_kept _ (out.west p f) = out.west p (λ q m. f q (corners-kept h es (home_visited c ds) (outline_ways o) q m))
  outside_kept _ (out.across d q w x) = out.across d q (unwalked q d w) (outside_kept (right_of d q) x)

  not_inside : (p : Panel) → Outside c ds p → Inside h es p → ⊥
  not_inside p x = outside_not_inside h es (outline_closed o) p (outside_kept p x)

  right_outside : (y : Way) → Taken y → Outside c ds (right_of y.1 y.0)
  right_outside y m = each_way (λ d q. Outside c ds (right_of d q)) h es (outline_outside o) y m

  round : (y : Way) → On c ds y → Round c ds (length es)
  round y w = outline_round o (some_step c ds y.0 y.1 w.1)

  -- the way on
  next_taken : (y : Way) → Taken y → Taken (next c ds y)
  next_taken y m =
      let r = round y (outline_ways o y m) in
      let k = mem-after (next c ds) (length es) (start c ds) (subst (Memᴰ y) (outline_orbit o) m) in
      let e : next c ds y ≡ after (next c ds) (suc k.0) (start c ds) = ap (next c ds) k.2 ∙ sym (after_suc (next c ds) k.0 (start c ds)) in
      subst (Memᴰ (next c ds y)) (sym (outline_orbit o))
      (elim (dec_lt (suc k.0) (length es)) [
        | yes l ↦ subst (λ (z : Way). Memᴰ z (orbit (next c ds) (length es) (start c ds))) (sym e) (after-mem (next c ds) (length es) (suc k.0) (start c ds) l)
        | no l ↦ (let n : suc k.0 ≡ length es = omega (arith, k.1) in subst (λ (z : Way). Memᴰ z (orbit (next c ds) (length es) (start c ds))) (sym (e ∙ ap (λ (i : ℕ). after (next c ds) i (start c ds)) n ∙ r.again)) (after-mem (next c ds) (length es) 0 (start c ds) r.some))
      ])

  next_fine : (y : Way) → On c ds y → Fine y → Fine (next c ds y)
  next_fine y w (inl m) = inl (next_taken y m)
  next_fine y w (inr i) = inr (onward-right c ds (Inside h es) (λ d q u. (inside-same h es (outline_closed o) d q (unwalked q d u)).0) y.1 w.0 y.0 i)

  -- the way back
  back_fine : (v : Corner) (d : ℕ) → On c ds (v, d) → Fine (v, d) → Fine (stepped d v, back d)
  back_fine v d w f = go (any (same_way (stepped d v, back d)) (ways_of h es)) refl
    where
      left : surplus_of h es (left_of d v) +ℤ pos (walks h es (back d) (stepped d v)) ≡ surplus_of h es (right_of d v) +ℤ pos (walks h es d v)
      left = across h es (outline_closed o) d v

      -- across an edge that is not taken back
      odd : walks h es (back d) (stepped d v) ≡ 0 → nat_abs (surplus_of h es (right_of d v) +ℤ pos (walks h es d v)) % 2 ≡ 1 → Inside h es (left_of d v)
      odd a b = (surplus_inside h es (left_of d v)).1 (ap (λ (z : ℤ). nat_abs z % 2) (sym (+ℤ_idr (surplus_of h es (left_of d v))) ∙ ap (λ (n : ℕ). surplus_of h es (left_of d v) +ℤ pos n) (sym a) ∙ left) ∙ b)

      by : walks h es (back d) (stepped d v) ≡ 0 → Fine (v, d) → Inside h es (left_of d v)
      by a (inl m) = odd a (ap (λ (n : ℕ). nat_abs (surplus_of h es (right_of d v) +ℤ pos n) % 2) (taken_once h es (outline_below o) (outline_once_way o) v d w.0 m) ∙ odd-next (surplus_of h es (right_of d v)) (λ t. not_inside (right_of d v) (right_outside (v, d) m) ((surplus_inside h es (right_of d v)).1 t)))
      by a (inr i) = odd a (ap (λ (n : ℕ). nat_abs (surplus_of h es (right_of d v) +ℤ pos n) % 2) (taken_none h es (outline_below o) v d w.0 (λ m. not_inside (right_of d v) (right_outside (v, d) m) i)) ∙ ap (λ (z : ℤ). nat_abs z % 2) (+ℤ_idr (surplus_of h es (right_of d v))) ∙ (surplus_inside h es (right_of d v)).0 i)

      go : (t : Bool) → any (same_way (stepped d v, back d)) (ways_of h es) ≡ t → Fine (stepped d v, back d)
      go true e = inl (any→mem same_way same_way_sound same_way_refl (stepped d v, back d) (ways_of h es) e)
      go false e = inr (subst (Inside h es) (sym (left_back d v)) (by (taken_none h es (outline_below o) (stepped d v) (back d) (back_small d) (not_mem same_way same_way_sound same_way_refl (stepped d v, back d) (ways_of h es) e)) f))

  -- all ways from a corner
  abbrev AllFine : Corner → Type 0
  AllFine v = (d : ℕ) → d < 4 → walked c ds v d ≡ true → Fine (v, d)

  around : (v : Corner) (d : ℕ) → On c ds (v, d) → Fine (v, d) → AllFine v
  around v d w f = all_left (walked c ds v) (λ e. Fine (v, e)) on d w.0 w.1 f
    where
      on : (e : ℕ) → e < 4 → walked c ds v e ≡ true → Fine (v, e) → Fine (v, onward (walked c ds v) (back e))
      on e l b g = subst (λ (z : Corner). Fine (z, onward (walked c ds z) (back e))) (stepped-back e v) (next_fine (stepped e v, back e) (back_small e, walked-back c ds v e b) (back_fine v e (l, b) g))

  -- and from its neighbours
  beyond : (v : Corner) (d : ℕ) → On c ds (v, d) → AllFine v → AllFine (stepped d v)
  beyond v d w f = around (stepped d v) (back d) (back_small d, walked-back c ds v d w.1) (back_fine v d w (f d w.0 w.1))

  -- along a part of the walk
  spread : (p : Corner) (fs : List ℕ) → ((e : Corner × Corner) → Memᴰ e (legs_from p fs) → Memᴰ e (legs_from c ds)) → (q : Corner) → Memᴰ q (corners_from p fs) → (AllFine p → AllFine q) × (AllFine q → AllFine p)
  spread p [] g q m = let e = Memᴰ.eq_of_singleton m in (subst AllFine (sym e), subst AllFine e)
  spread p (d ∷ fs) g q m = ⊎_elim (λ e. (subst AllFine (sym e), subst AllFine e)) (λ t. let k = spread (stepped d p) fs (λ e n. g e (Memᴰ.tail n)) q t in (λ f. k.0 (there f), λ f. back' (k.1 f))) (Memᴰ.cases_cons m)
    where
      same_step : stepped (back (back d)) p ≡ stepped d p
      same_step = along d p

      w : walked c ds p (back (back d)) ≡ true
      w = edge_walked c ds p (back (back d)) (subst (Edge c ds p) (sym same_step) (inl (g (p, stepped d p) (Memᴰ.head refl))))

      there : AllFine p → AllFine (stepped d p)
      there f = subst AllFine same_step (beyond p (back (back d)) (back_small (back d), w) f)

      back' : AllFine (stepped d p) → AllFine p
      back' f = subst AllFine (stepped-back d p) (beyond (stepped d p) (back d) (back_small d, edge_walked c ds (stepped d p) (back d) (subst (Edge c ds (stepped d p)) (sym (stepped-back d p)) (inr (g (p, stepped d p) (Memᴰ.head refl))))) f)

  -- so each way along a walked edge is taken, or has the inside on its right
  all_fine : (v : Corner) (d : ℕ) → On c ds (v, d) → Fine (v, d)
  all_fine v d w =
      let r = round (v, d) w in
      let first : Taken (start c ds) = subst (Memᴰ (start c ds)) (sym (outline_orbit o)) (after-mem (next c ds) (length es) 0 (start c ds) r.some) in
      let at_home : AllFine h = around h (first_way c ds) r.on (inl first) in
      let at-start : AllFine c = (spread c ds (λ e n. n) h (home_visited c ds)).1 at_home in
      (spread c ds (λ e n. n) v (walked_visited c ds v d w.1).0).0 at-start d w.0 w.1

  -- the outline passes an edge in a direction exactly if the edge was walked and the outside is on its right
  pub outline_whole : (v : Corner) (d : ℕ) → d < 4 → Memᴰ (v, stepped d v) (legs_from h es) ↔ ((walked c ds v d ≡ true) × Outside c ds (right_of d v))
  outline_whole v d l = (λ m. let t = taken m in ((outline_ways o (v, d) t).1, right_outside (v, d) t), λ k. leg_of h es (v, d) (borders k.0 k.1))
    where
      taken : Memᴰ (v, stepped d v) (legs_from h es) → Taken (v, d)
      taken m =
          let k = edge_of h es (v, stepped d v) m in
          let q : k.0.0 ≡ v = sym (ap (λ (e : Corner × Corner). e.0) k.2) in
          let x : k.0.1 ≡ d = stepped_inj k.0.1 d v (outline_ways o k.0 k.1).0 l (ap (stepped k.0.1) (sym q) ∙ sym (ap (λ (e : Corner × Corner). e.1) k.2)) in
          subst Taken (ap₂ (λ (a : Corner) (i : ℕ). (a, i)) q x) k.1

      borders : walked c ds v d ≡ true → Outside c ds (right_of d v) → Taken (v, d)
      borders w x = ⊎_elim (λ m. m) (λ i. absurd (not_inside (right_of d v) x i)) (all_fine v d (l, w))

  -- a panel is outside or inside the outline: from column to column, from the west of all corners on
  either : (n : ℕ) (p : Corner) → p.0 <ℤ ((box_of c ds).west +ℤ pos n) → Outside c ds (panel_at p) ⊎ Inside h es (panel_at p)
  either zero p l = inl (out.west (panel_at p) (λ q m. west q m (box_holds c ds q m).west))
    where
      west : (q : Corner) → Memᴰ q (corners_from c ds) → (box_of c ds).west ≤ℤ q.0 → p.0 <ℤ q.0
      west q m k = omega (zarith, l, k, bal+ (box_of c ds).west (pos 0))
  either (suc n) p l = by (walked c ds p 1) refl (either n (stepped 2 p) (omega (zarith, l, bal_pred p.0, bal+ (box_of c ds).west (pos n), bal+ (box_of c ds).west (pos (suc n)))))
    where
      by : (t : Bool) → walked c ds p 1 ≡ t → Outside c ds (panel_at (stepped 2 p)) ⊎ Inside h es (panel_at (stepped 2 p)) → Outside c ds (panel_at p) ⊎ Inside h es (panel_at p)
      by true e k = ⊎_elim (λ m. inl (right_outside (p, 1) m)) inr (all_fine p 1 (omega arith, e))
      by false e (inr i) = inr ((inside-same h es (outline_closed o) 1 p (unwalked p 1 e)).1 i)
      by false e (inl x) = inl (subst (Outside c ds) (right-back 1 p) (out.across 3 (stepped 1 p) (apart (walked c ds (stepped 1 p) 3) refl) (subst (Outside c ds) (sym (left_back 1 p)) x)))
        where
          apart : (t : Bool) → walked c ds (stepped 1 p) 3 ≡ t → walked c ds (stepped 1 p) 3 ≡ false
          apart false f = f
          apart true f = absurd (true≢false (sym (ap (λ (q : Corner). walked c ds q 1) (sym (stepped-back 1 p)) ∙ walked-back c ds (stepped 1 p) 3 f) ∙ e))

  -- what is outside is what is not inside the outline
  pub outside_exactly : (p : Panel) → Outside c ds p ↔ (Inside h es p → ⊥)
  outside_exactly p = (not_inside p, λ f. ⊎_elim (λ x. x) (λ i. absurd (f i)) (either (nat_abs (p.0 -ℤ (box_of c ds).west) + 1) (corner p.0 p.1) far))
    where
      far : p.0 <ℤ ((box_of c ds).west +ℤ pos (nat_abs (p.0 -ℤ (box_of c ds).west) + 1))
      far = omega (zarith, bal- p.0 (box_of c ds).west, bal+ (box_of c ds).west (pos (nat_abs (p.0 -ℤ (box_of c ds).west) + 1)), abs_nat (p.0 -ℤ (box_of c ds).west))

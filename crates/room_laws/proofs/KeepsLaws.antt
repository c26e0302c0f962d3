-- The surplus of a room is 0 or 1 at every panel, or it is 0 or -1 at every panel.
-- Assumes nothing.
use mathlib.Core.Bool.{Bool, true, false, not, ◌&&◌}
use mathlib.Core.List.{List, [], ◌∷◌}
use mathlib.Core.Logic.{◌⊎◌, inl, inr, ⊎_elim, ⊎_map}
use mathlib.Core.Path.{◌≡◌, refl, ap, ap₂, sym, ◌∙◌, subst}
use Prim.Native.Nat.{ℕ, zero, suc, ◌<◌}
use native.Mathlib.Omega.{arith}
use lib.IntN.{ℤ, pos, negsuc, suc_ℤ, nat_abs, ◌+ℤ◌, ◌-ℤ◌, pred-suc}
use lib.Signed.{◌≤ℤ◌}
use Rattle.int_laws.proofs.LinearLaws.{zarith, bal+, bal-}
use Rattle.int_laws.proofs.RangeLaws.{abs_nat}
use Rattle.int_laws.proofs.NextLaws.{bal_suc, false_lt, sucℤ_one}
use Rattle.lists.specs.Lists.{tally, count}
use Rattle.lists.proofs.CountLaws.{count_never}
use Rattle.lists.proofs.GatherLaws.{and_left, and_right}
use Rattle.grid.specs.declared.{Corner.Corner, Panel.Panel}
use Rattle.grid.specs.Grid.{corner, panel_at, same, stepped}
use Rattle.grid.proofs.CornerLaws.{same_sound}
use Rattle.trace.specs.Verdict.{IsRoom}
use Rattle.trace.proofs.VisitLaws.{room_distinct}
use Rattle.panels.specs.Edges.{Edge, edges_from, beside, surplus_of}
use Rattle.panels.specs.Box.{box_of}
use Rattle.panels.proofs.BesideLaws.{beside_past}
use Rattle.area_laws.proofs.BoxLaws.{box_holds, edges_held}
use Rattle.panels.specs.Inside.{left_of, right_of}
use Rattle.room_laws.proofs.AcrossLaws.{along, walks, across_north}
use Rattle.room_laws.proofs.CornerLaws.{along_one, left_back, right-back}
use Rattle.room_laws.proofs.RoundLaws.{Sided, round-sided}

-- the walk has surplus z on the right of every step and one more on the left, and no panel has another surplus
pub record Keeps (z : ℤ) (c : Corner) (ds : List ℕ) : Type 0 where
  pub sides : Sided (surplus_of c ds) z c ds
  pub panels : (p : Panel) → (surplus_of c ds p ≡ z) ⊎ (surplus_of c ds p ≡ suc_ℤ z)

-- a step that is taken has its sides
walked : (W : Panel → ℤ) (z : ℤ) (c : Corner) (ds : List ℕ) (d : ℕ) (v : Corner) → Sided W z c ds → 0 < walks c ds d v → (W (right_of d v) ≡ z) × (W (left_of d v) ≡ suc_ℤ z)
walked W z c [] d v s h = absurd (omega arith)
walked W z c (e ∷ ds) d v s h = by (along e d && same c v) refl (λ k. walked W z (stepped e c) ds d v s.1 k)
  where
    at : (f : ℕ → Corner → Panel) → ((q : Corner) (n : ℕ) → f (suc (suc (suc n))) q ≡ f 3 q) → (along e d && same c v) ≡ true → W (f d v) ≡ W (f e c)
    at f south t = ap W (sym (along_one (λ n. f n c) (south c) e d (and_left (along e d) (same c v) t) ∙ ap (f d) (same_sound c v (and_right (along e d) (same c v) t))))

    by : (b : Bool) → (along e d && same c v) ≡ b → (0 < walks (stepped e c) ds d v → (W (right_of d v) ≡ z) × (W (left_of d v) ≡ suc_ℤ z)) → (W (right_of d v) ≡ z) × (W (left_of d v) ≡ suc_ℤ z)
    by true t ih = (at right_of (λ q n. refl) t ∙ s.0.0, at left_of (λ q n. refl) t ∙ s.0.1)
    by false t ih = ih (omega (arith, ap tally t))

-- far to the east the surplus is 0
surplus_past : (c : Corner) (ds : List ℕ) (p : Panel) → (box_of c ds).east ≤ℤ p.0 → surplus_of c ds p ≡ pos 0
surplus_past c ds p h = ap₂ (λ (n s : ℕ). pos n -ℤ pos s) (none (λ e. e.north)) (none (λ e. not e.north))
  where
    none : (t : Edge → Bool) → count (λ e. beside p e.foot && t e) (edges_from c ds) ≡ 0
    none t = count_never (λ e. beside p e.foot && t e) (edges_from c ds)
        (λ e m. ap (λ (b : Bool). b && t e) (beside_past p e.foot (false_lt p.0 e.foot.0 (omega (zarith, h, (edges_held (box_of c ds) c ds (box_holds c ds) e m).east)))))

-- one of two values, z and one more
abbrev Near : ℤ → ℤ → Type 0
Near z w = (w ≡ z) ⊎ (w ≡ suc_ℤ z)

module _ (c : Corner) (ds : List ℕ) (z : ℤ) (sided : Sided (surplus_of c ds) z c ds) where
  abbrev W : Panel → ℤ
  W = surplus_of c ds

  -- the panels on both sides of a vertical edge have one surplus, or the two of the sides of steps
  crossing : (v : Corner) → (W (left_of 1 v) ≡ W (right_of 1 v)) ⊎ (Near z (W (left_of 1 v)) × Near z (W (right_of 1 v)))
  crossing v = by (walks c ds 1 v) refl (walks c ds 3 (stepped 1 v)) refl
    where
      by : (n : ℕ) → walks c ds 1 v ≡ n → (s : ℕ) → walks c ds 3 (stepped 1 v) ≡ s → (W (left_of 1 v) ≡ W (right_of 1 v)) ⊎ (Near z (W (left_of 1 v)) × Near z (W (right_of 1 v)))
      by zero e zero f = inl (omega (zarith, across_north c ds v, e, f, bal+ (W (left_of 1 v)) (pos (walks c ds 3 (stepped 1 v))), bal+ (W (right_of 1 v)) (pos (walks c ds 1 v))))
      by (suc n) e s f = let k = walked W z c ds 1 v sided (omega arith) in inr (inr k.1, inl k.0)
      by zero e (suc s) f =
          let k = walked W z c ds 3 (stepped 1 v) sided (omega arith) in
          inr (inl (ap W (sym (left_back 1 v)) ∙ k.0), inr (ap W (sym (right-back 1 v)) ∙ k.1))

  -- no edge lies further east, or the surplus is that of a step's side, and 0 is too
  abbrev Settled : Panel → Type 0
  Settled p = (W p ≡ pos 0) ⊎ (Near z (W p) × Near z (pos 0))

  near : {w x : ℤ} → w ≡ x → Near z x → Near z w
  near e = ⊎_map (λ h. e ∙ h) (λ h. e ∙ h)

  settled_west : (v : Corner) → Settled (right_of 1 v) → Settled (left_of 1 v)
  settled_west v s = by (crossing v) s
    where
      by : (W (left_of 1 v) ≡ W (right_of 1 v)) ⊎ (Near z (W (left_of 1 v)) × Near z (W (right_of 1 v))) → Settled (right_of 1 v) → Settled (left_of 1 v)
      by (inl e) (inl h) = inl (e ∙ h)
      by (inl e) (inr h) = inr (near e h.0, h.1)
      by (inr k) (inl h) = inr (k.0, near (sym h) k.1)
      by (inr k) (inr h) = inr (k.0, h.1)

  settled_within : (n : ℕ) (q : Corner) → (box_of c ds).east ≤ℤ (q.0 +ℤ pos n) → Settled (panel_at q)
  settled_within zero q h = inl (surplus_past c ds (panel_at q) (omega (zarith, bal+ q.0 (pos 0))))
  settled_within (suc n) q h =
      subst Settled (ap (λ (x : ℤ). panel_at (corner x q.1)) (pred-suc q.0))
      (settled_west (stepped 0 q) (settled_within n (stepped 0 q) (omega (zarith, bal+ q.0 (pos (suc n)), bal+ (suc_ℤ q.0) (pos n), bal_suc q.0))))

  settled : (p : Panel) → Settled p
  settled p =
      let k = (box_of c ds).east in
      settled_within (nat_abs (k -ℤ p.0)) (corner p.0 p.1) (omega (zarith, abs_nat (k -ℤ p.0), bal- k p.0, bal+ p.0 (pos (nat_abs (k -ℤ p.0)))))

  -- so 0 is one of the two if some panel has one of them
  near_zero : (p : Panel) → W p ≡ z → Near z (pos 0)
  near_zero p e = ⊎_elim (λ h. inl (sym h ∙ e)) (λ h. h.1) (settled p)

  all_near : Near z (pos 0) → (p : Panel) → Near z (W p)
  all_near o p = ⊎_elim (λ h. near h o) (λ h. h.0) (settled p)

-- a room keeps its inside on the left, with surplus 1, or on the right, with surplus -1
pub room_keeps : (c : Corner) (ds : List ℕ) → IsRoom c ds → Keeps (pos 0) c ds ⊎ Keeps (negsuc 0) c ds
room_keeps c [] r = absurd (omega (arith, r.four))
room_keeps c (d ∷ ds) r = ⊎_map (λ e. keeps (pos 0) (sym e)) (λ e. keeps (negsuc 0) (sucℤ_one z (negsuc 0) (sym e))) zero_near
  where
    z : ℤ
    z = surplus_of c (d ∷ ds) (right_of d c)

    sided : Sided (surplus_of c (d ∷ ds)) z c (d ∷ ds)
    sided = round-sided c d ds (record { closed = r.closed; once = room_distinct c d ds r }) (omega (arith, r.four))

    zero_near : Near z (pos 0)
    zero_near = near_zero c (d ∷ ds) z sided (right_of d c) refl

    keeps : (x : ℤ) → z ≡ x → Keeps x c (d ∷ ds)
    keeps x e = subst (λ (y : ℤ). Keeps y c (d ∷ ds)) e (record { sides = sided; panels = all_near c (d ∷ ds) z sided zero_near })

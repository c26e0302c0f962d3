-- A walk moved, turned or mirrored. `sweep_image` is the argument once: each step's share becomes s times what it was and the change of a value P
-- of the corner, which comes to nothing on a closed walk.
-- Assumes nothing.
use mathlib.Core.List.{List, [], ◌∷◌, map}
use mathlib.Core.Path.{◌≡◌, refl, ap, ap₂, sym, ◌∙◌}
use Prim.Native.Nat.{ℕ, zero, suc}
use lib.IntN.{ℤ, pos, negsuc, neg_ℤ, ◌+ℤ◌, ◌-ℤ◌, ◌*ℤ◌, suc_ℤ-+ℤ, pred_ℤ-+ℤ, neg_ℤ-suc_ℤ, neg_ℤ-pred_ℤ, +ℤ_idr}
use Rattle.int_laws.proofs.RingLaws.{ring, v, k, ◌⊕◌, ◌⊖◌, ◌⊗◌, ⊝}
use Rattle.grid.specs.declared.Corner.{Corner}
use Rattle.grid.specs.Grid.{corner, stepped, end_from}
use Rattle.trace.specs.Verdict.{sweep_from}
use Rattle.panels.specs.Moved.{turned, mirrored, flipped}
use Rattle.area_laws.proofs.SweepLaws.{straight}

-- t carries the steps as f carries the corners
pub record Image (f : Corner → Corner) (t : ℕ → ℕ) (s : ℤ) (P : Corner → ℤ) : Type 0 where
  pub carries : (d : ℕ) (c : Corner) → stepped (t d) (f c) ≡ f (stepped d c)
  pub shares : (d : ℕ) (c : Corner) → (f c).0 *ℤ ((f (stepped d c)).1 -ℤ (f c).1) ≡ (s *ℤ (c.0 *ℤ ((stepped d c).1 -ℤ c.1))) +ℤ (P (stepped d c) -ℤ P c)

module _ {f : Corner → Corner} {t : ℕ → ℕ} {s : ℤ} {P : Corner → ℤ} (i : Image f t s P) where
  pub end_image : (c : Corner) (ds : List ℕ) → end_from (f c) (map t ds) ≡ f (end_from c ds)
  end_image c [] = refl
  end_image c (d ∷ ds) = ap (λ (p : Corner). end_from p (map t ds)) (i.carries d c) ∙ end_image (stepped d c) ds

  sweep_image : (c : Corner) (ds : List ℕ) → sweep_from (f c) (map t ds) ≡ (s *ℤ sweep_from c ds) +ℤ (P (end_from c ds) -ℤ P c)
  sweep_image c [] = ring 2 (s ∷ P c ∷ []) (k (pos 0)) (v 0 ⊗ k (pos 0) ⊕ (v 1 ⊖ v 1)) tt
  sweep_image c (d ∷ ds) =
      let e = stepped d c in
      ap (λ (p : Corner). ((f c).0 *ℤ (p.1 -ℤ (f c).1)) +ℤ sweep_from p (map t ds)) (i.carries d c)
      ∙ ap₂ ◌+ℤ◌ (i.shares d c) (sweep_image e ds)
      ∙ ring 6 (s ∷ (c.0 *ℤ (e.1 -ℤ c.1)) ∷ sweep_from e ds ∷ P c ∷ P e ∷ P (end_from e ds) ∷ [])
      (v 0 ⊗ v 1 ⊕ (v 4 ⊖ v 3) ⊕ (v 0 ⊗ v 2 ⊕ (v 5 ⊖ v 4))) (v 0 ⊗ (v 1 ⊕ v 2) ⊕ (v 5 ⊖ v 3)) tt

  sweep_closed : (c : Corner) (ds : List ℕ) → end_from c ds ≡ c → sweep_from (f c) (map t ds) ≡ s *ℤ sweep_from c ds
  sweep_closed c ds e =
      sweep_image c ds
      ∙ ap (λ (p : Corner). (s *ℤ sweep_from c ds) +ℤ (P p -ℤ P c)) e
      ∙ ring 3 (s ∷ sweep_from c ds ∷ P c ∷ []) (v 0 ⊗ v 1 ⊕ (v 2 ⊖ v 2)) (v 0 ⊗ v 1) tt

one : (z : ℤ) → pos 1 *ℤ z ≡ z
one z = ring 1 (z ∷ []) (k (pos 1) ⊗ v 0) (v 0) tt

minus_one : (z : ℤ) → negsuc 0 *ℤ z ≡ neg_ℤ z
minus_one z = ring 1 (z ∷ []) (k (negsuc 0) ⊗ v 0) (⊝ (v 0)) tt

-- moved by (x,y)
module _ (x y : ℤ) where
  abbrev pub moved : Corner → Corner
  moved p = corner (p.0 +ℤ x) (p.1 +ℤ y)

  carries : (d : ℕ) (c : Corner) → stepped d (moved c) ≡ moved (stepped d c)
  carries zero c = ap (λ (z : ℤ). corner z (c.1 +ℤ y)) (sym (suc_ℤ-+ℤ c.0 x))
  carries (suc zero) c = ap (corner (c.0 +ℤ x)) (sym (suc_ℤ-+ℤ c.1 y))
  carries (suc (suc zero)) c = ap (λ (z : ℤ). corner z (c.1 +ℤ y)) (sym (pred_ℤ-+ℤ c.0 x))
  carries (suc (suc (suc d))) c = ap (corner (c.0 +ℤ x)) (sym (pred_ℤ-+ℤ c.1 y))

  pub move : Image moved (λ d. d) (pos 1) (λ p. x *ℤ p.1)
  move =
      record {
        carries = carries;
        shares = λ d c. ring 5 (c.0 ∷ c.1 ∷ (stepped d c).1 ∷ x ∷ y ∷ []) ((v 0 ⊕ v 3) ⊗ (v 2 ⊕ v 4 ⊖ (v 1 ⊕ v 4))) (k (pos 1) ⊗ (v 0 ⊗ (v 2 ⊖ v 1)) ⊕ (v 3 ⊗ v 2 ⊖ v 3 ⊗ v 1)) tt;
      }

-- a closed walk has the same sum from every start
pub sweep_moved : (c e : Corner) (ds : List ℕ) → end_from c ds ≡ c → sweep_from e ds ≡ sweep_from c ds
sweep_moved c e ds h =
    ap₂ sweep_from (sym (ap₂ corner (over c.0 e.0) (over c.1 e.1))) (sym (map_same ds))
    ∙ sweep_closed (move (e.0 -ℤ c.0) (e.1 -ℤ c.1)) c ds h
    ∙ one (sweep_from c ds)
  where
    over : (a b : ℤ) → a +ℤ (b -ℤ a) ≡ b
    over a b = ring 2 (a ∷ b ∷ []) (v 0 ⊕ (v 1 ⊖ v 0)) (v 1) tt

    map_same : (l : List ℕ) → map (λ d. d) l ≡ l
    map_same [] = refl
    map_same (d ∷ l) = ap (λ (m : List ℕ). d ∷ m) (map_same l)

-- so an image may start anywhere
sweep_carried : {f : Corner → Corner} {t : ℕ → ℕ} {s : ℤ} {P : Corner → ℤ} → Image f t s P → (c e : Corner) (ds : List ℕ) → end_from c ds ≡ c → sweep_from e (map t ds) ≡ s *ℤ sweep_from c ds
sweep_carried {f} {t} i c e ds h = sweep_moved (f c) e (map t ds) (end_image i c ds ∙ ap f h) ∙ sweep_closed i c ds h

-- a quarter turn takes (x,y) to (-y,x), and x times the change of y to -y times the change of x: the two differ by the change of -xy
pub turn : Image (λ p. corner (neg_ℤ p.1) p.0) turned (pos 1) (λ p. neg_ℤ (p.0 *ℤ p.1))
turn = record { carries = carried; shares = shared }
  where
    carried : (d : ℕ) (c : Corner) → stepped (turned d) (corner (neg_ℤ c.1) c.0) ≡ corner (neg_ℤ (stepped d c).1) (stepped d c).0
    carried zero c = refl
    carried (suc zero) c = ap (λ (x : ℤ). corner x c.0) (sym (neg_ℤ-suc_ℤ c.1))
    carried (suc (suc zero)) c = refl
    carried (suc (suc (suc d))) c = ap (λ (x : ℤ). corner x c.0) (sym (neg_ℤ-pred_ℤ c.1))

    shared : (d : ℕ) (c : Corner) → neg_ℤ c.1 *ℤ ((stepped d c).0 -ℤ c.0) ≡ (pos 1 *ℤ (c.0 *ℤ ((stepped d c).1 -ℤ c.1))) +ℤ (neg_ℤ ((stepped d c).0 *ℤ (stepped d c).1) -ℤ neg_ℤ (c.0 *ℤ c.1))
    shared d c =
        let e = stepped d c in
        let r = (pos 1 *ℤ (c.0 *ℤ (e.1 -ℤ c.1))) +ℤ (neg_ℤ (e.0 *ℤ e.1) -ℤ neg_ℤ (c.0 *ℤ c.1)) in
        ring 4 (c.0 ∷ c.1 ∷ e.0 ∷ e.1 ∷ []) (⊝ (v 1) ⊗ (v 2 ⊖ v 0)) (k (pos 1) ⊗ (v 0 ⊗ (v 3 ⊖ v 1)) ⊕ (⊝ (v 2 ⊗ v 3) ⊖ ⊝ (v 0 ⊗ v 1)) ⊕ (v 2 ⊖ v 0) ⊗ (v 3 ⊖ v 1)) tt
        ∙ ap (λ (z : ℤ). r +ℤ z) (straight d c)
        ∙ +ℤ_idr r

pub sweep_turned : (c e : Corner) (ds : List ℕ) → end_from c ds ≡ c → sweep_from e (map turned ds) ≡ sweep_from c ds
sweep_turned c e ds h = sweep_carried turn c e ds h ∙ one (sweep_from c ds)

-- mirrored: one of the two changes its sign
mirror : Image (λ p. corner (neg_ℤ p.0) p.1) mirrored (negsuc 0) (λ p. pos 0)
mirror = record { carries = carried; shares = λ d c. ring 3 (c.0 ∷ c.1 ∷ (stepped d c).1 ∷ []) (⊝ (v 0) ⊗ (v 2 ⊖ v 1)) (k (negsuc 0) ⊗ (v 0 ⊗ (v 2 ⊖ v 1)) ⊕ (k (pos 0) ⊖ k (pos 0))) tt }
  where
    carried : (d : ℕ) (c : Corner) → stepped (mirrored d) (corner (neg_ℤ c.0) c.1) ≡ corner (neg_ℤ (stepped d c).0) (stepped d c).1
    carried zero c = ap (λ (x : ℤ). corner x c.1) (sym (neg_ℤ-suc_ℤ c.0))
    carried (suc zero) c = refl
    carried (suc (suc zero)) c = ap (λ (x : ℤ). corner x c.1) (sym (neg_ℤ-pred_ℤ c.0))
    carried (suc (suc (suc d))) c = refl

pub sweep_mirrored : (c e : Corner) (ds : List ℕ) → end_from c ds ≡ c → sweep_from e (map mirrored ds) ≡ neg_ℤ (sweep_from c ds)
sweep_mirrored c e ds h = sweep_carried mirror c e ds h ∙ minus_one (sweep_from c ds)

flip : Image (λ p. corner p.0 (neg_ℤ p.1)) flipped (negsuc 0) (λ p. pos 0)
flip = record { carries = carried; shares = λ d c. ring 3 (c.0 ∷ c.1 ∷ (stepped d c).1 ∷ []) (v 0 ⊗ (⊝ (v 2) ⊖ ⊝ (v 1))) (k (negsuc 0) ⊗ (v 0 ⊗ (v 2 ⊖ v 1)) ⊕ (k (pos 0) ⊖ k (pos 0))) tt }
  where
    carried : (d : ℕ) (c : Corner) → stepped (flipped d) (corner c.0 (neg_ℤ c.1)) ≡ corner (stepped d c).0 (neg_ℤ (stepped d c).1)
    carried zero c = refl
    carried (suc zero) c = ap (corner c.0) (sym (neg_ℤ-suc_ℤ c.1))
    carried (suc (suc zero)) c = refl
    carried (suc (suc (suc d))) c = ap (corner c.0) (sym (neg_ℤ-pred_ℤ c.1))

pub sweep_flipped : (c e : Corner) (ds : List ℕ) → end_from c ds ≡ c → sweep_from e (map flipped ds) ≡ neg_ℤ (sweep_from c ds)
sweep_flipped c e ds h = sweep_carried flip c e ds h ∙ minus_one (sweep_from c ds)

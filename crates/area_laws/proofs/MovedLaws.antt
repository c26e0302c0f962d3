-- A closed walk from another corner of its outline, and backwards.
-- Assumes nothing.
use mathlib.Core.List.{List, [], ◌∷◌, ◌++◌}
use mathlib.Core.Path.{◌≡◌, refl, ap, ap₂, sym, ◌∙◌}
use Prim.Native.Nat.{ℕ}
use native.Mathlib.Omega.{arith}
use lib.IntN.{ℤ, pos, neg_ℤ, ◌+ℤ◌, ◌-ℤ◌, ◌*ℤ◌, +ℤ_comm, +ℤ_idr}
use lib.ListN.{length, take, drop, take-append-drop, length-append}
use Rattle.int_laws.proofs.RingLaws.{ring, v, k, ◌⊕◌, ◌⊖◌, ◌⊗◌, ⊝}
use Rattle.grid.specs.declared.Corner.{Corner}
use Rattle.grid.specs.Grid.{stepped, end_from, corner_at, back}
use Rattle.grid.proofs.StepLaws.{stepped-back, end_from-append}
use Rattle.trace.specs.Verdict.{sweep_from}
use Rattle.panels.specs.Moved.{started_at, backward}
use Rattle.area_laws.proofs.SweepLaws.{sweep_append, straight}
use Rattle.area_laws.proofs.ImageLaws.{sweep_moved}

-- the second part first, from where it starts
sweep_rotated : (c : Corner) (ss ts : List ℕ) → end_from c (ss ++ ts) ≡ c → sweep_from (end_from c ss) (ts ++ ss) ≡ sweep_from c (ss ++ ts)
sweep_rotated c ss ts h =
    sweep_append (end_from c ss) ts ss
    ∙ ap (λ (p : Corner). sweep_from (end_from c ss) ts +ℤ sweep_from p ss) (sym (end_from-append c ss ts) ∙ h)
    ∙ +ℤ_comm (sweep_from (end_from c ss) ts) (sweep_from c ss)
    ∙ sym (sweep_append c ss ts)

pub sweep_started : (c : Corner) (ds : List ℕ) (j : ℕ) → end_from c ds ≡ c → sweep_from (corner_at c ds j) (started_at j ds) ≡ sweep_from c ds
sweep_started c ds j h = sweep_rotated c (take j ds) (drop j ds) (ap (end_from c) (take-append-drop j ds) ∙ h) ∙ ap (sweep_from c) (take-append-drop j ds)

-- backwards, the walk has as many steps, and it ends where it started
pub length-backward : (ds : List ℕ) → length (backward ds) ≡ length ds
length-backward [] = refl
length-backward (d ∷ ds) = length-append (backward ds) (back d ∷ []) ∙ omega (arith, length-backward ds)

pub end_backward : (c : Corner) (ds : List ℕ) → end_from (end_from c ds) (backward ds) ≡ c
end_backward c [] = refl
end_backward c (d ∷ ds) =
    end_from-append (end_from (stepped d c) ds) (backward ds) (back d ∷ []) ∙ ap (stepped (back d)) (end_backward (stepped d c) ds) ∙ stepped-back d c

-- a step back takes away what the step added
sweep_back : (d : ℕ) (c : Corner) → sweep_from (stepped d c) (back d ∷ []) ≡ neg_ℤ (c.0 *ℤ ((stepped d c).1 -ℤ c.1))
sweep_back d c =
    let e = stepped d c in
    let r = neg_ℤ (c.0 *ℤ (e.1 -ℤ c.1)) in
    ap (λ (p : Corner). (e.0 *ℤ (p.1 -ℤ e.1)) +ℤ pos 0) (stepped-back d c)
    ∙ ring 4 (c.0 ∷ c.1 ∷ e.0 ∷ e.1 ∷ []) (v 2 ⊗ (v 1 ⊖ v 3) ⊕ k (pos 0)) (⊝ (v 0 ⊗ (v 3 ⊖ v 1)) ⊖ (v 2 ⊖ v 0) ⊗ (v 3 ⊖ v 1)) tt
    ∙ ap (λ (z : ℤ). r -ℤ z) (straight d c)
    ∙ +ℤ_idr r

-- of an open walk too
sweep_backward_open : (c : Corner) (ds : List ℕ) → sweep_from (end_from c ds) (backward ds) ≡ neg_ℤ (sweep_from c ds)
sweep_backward_open c [] = refl
sweep_backward_open c (d ∷ ds) =
    let e = stepped d c in
    sweep_append (end_from e ds) (backward ds) (back d ∷ [])
    ∙ ap₂ ◌+ℤ◌ (sweep_backward_open e ds) (ap (λ (p : Corner). sweep_from p (back d ∷ [])) (end_backward e ds) ∙ sweep_back d c)
    ∙ ring 2 ((c.0 *ℤ (e.1 -ℤ c.1)) ∷ sweep_from e ds ∷ []) (⊝ (v 1) ⊕ ⊝ (v 0)) (⊝ (v 0 ⊕ v 1)) tt

-- of a closed one from any start
pub sweep_backward : (c e : Corner) (ds : List ℕ) → end_from c ds ≡ c → sweep_from e (backward ds) ≡ neg_ℤ (sweep_from c ds)
sweep_backward c e ds h =
    sweep_moved c e (backward ds) (ap (λ (p : Corner). end_from p (backward ds)) (sym h) ∙ end_backward c ds) ∙ ap (λ (p : Corner). sweep_from p (backward ds)) (sym h) ∙ sweep_backward_open c ds

-- The sum over a walk in two parts; and that a step changes one coordinate alone.
-- Assumes nothing.
use mathlib.Core.List.{List, [], ◌∷◌, ◌++◌}
use mathlib.Core.Path.{◌≡◌, ap, sym, ◌∙◌}
use Prim.Native.Nat.{ℕ, zero, suc}
use lib.IntN.{ℤ, pos, ◌+ℤ◌, ◌-ℤ◌, ◌*ℤ◌, +ℤ_assoc, +ℤ_idl}
use Rattle.int_laws.proofs.RingLaws.{ring, v, k, ◌⊖◌, ◌⊗◌}
use Rattle.grid.specs.declared.Corner.{Corner}
use Rattle.grid.specs.Grid.{stepped, end_from}
use Rattle.trace.specs.Verdict.{sweep_from}
use Rattle.area_laws.proofs.AreaCases as cases

pub sweep_append : (c : Corner) (ss ts : List ℕ) → sweep_from c (ss ++ ts) ≡ sweep_from c ss +ℤ sweep_from (end_from c ss) ts
sweep_append c [] ts = sym (+ℤ_idl (sweep_from c ts))
sweep_append c (d ∷ ss) ts =
    let e = stepped d c in
    let s = c.0 *ℤ (e.1 -ℤ c.1) in
    ap (λ (z : ℤ). s +ℤ z) (sweep_append e ss ts) ∙ sym (+ℤ_assoc s (sweep_from e ss) (sweep_from (end_from e ss) ts))

pub straight : (d : ℕ) (c : Corner) → ((stepped d c).0 -ℤ c.0) *ℤ ((stepped d c).1 -ℤ c.1) ≡ pos 0
straight zero c = ring 3 ((stepped 0 c).0 ∷ c.0 ∷ c.1 ∷ []) ((v 0 ⊖ v 1) ⊗ (v 2 ⊖ v 2)) (k (pos 0)) tt
straight (suc zero) c = ring 3 ((stepped 1 c).1 ∷ c.0 ∷ c.1 ∷ []) ((v 1 ⊖ v 1) ⊗ (v 0 ⊖ v 2)) (k (pos 0)) tt
straight (suc (suc zero)) c = ring 3 ((stepped 2 c).0 ∷ c.0 ∷ c.1 ∷ []) ((v 0 ⊖ v 1) ⊗ (v 2 ⊖ v 2)) (k (pos 0)) tt
straight (suc (suc (suc d))) c = ring 3 ((stepped 3 c).1 ∷ c.0 ∷ c.1 ∷ []) ((v 1 ⊖ v 1) ⊗ (v 0 ⊖ v 2)) (k (pos 0)) tt

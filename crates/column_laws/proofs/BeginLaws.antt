-- The order by which corners begin: from left to right, in each column from below.
-- Assumes nothing.
use mathlib.Core.Path.{◌≡◌, refl, ◌∙◌}
use mathlib.Core.Logic.{inl, inr}
use lib.Signed.{◌<ℤ◌, ≤ℤ_refl}
use Rattle.int_laws.proofs.LinearLaws.{zarith}
use Rattle.grid.specs.declared.Corner.{Corner}
use Rattle.grid.specs.Grid.{Begins}
use Rattle.grid.proofs.CornerLaws.{corner_eq}

pub begins_both : (a b : Corner) → Begins a b → Begins b a → a ≡ b
begins_both a b (inl h) (inl g) = absurd (bad h g)
  where
    bad : a.0 <ℤ b.0 → b.0 <ℤ a.0 → ⊥
    bad h g = omega zarith
begins_both a b (inl h) (inr g) = absurd (bad h g.0)
  where
    bad : a.0 <ℤ b.0 → b.0 ≡ a.0 → ⊥
    bad h g = omega zarith
begins_both a b (inr h) (inl g) = absurd (bad h.0 g)
  where
    bad : a.0 ≡ b.0 → b.0 <ℤ a.0 → ⊥
    bad h g = omega zarith
begins_both a b (inr h) (inr g) = corner_eq a b h.0 (omega (zarith, h.1, g.1))

pub begins_trans : (a b c : Corner) → Begins a b → Begins b c → Begins a c
begins_trans a b c (inl h) (inl g) = inl (omega zarith)
begins_trans a b c (inl h) (inr g) = inl (omega (zarith, g.0))
begins_trans a b c (inr h) (inl g) = inl (omega (zarith, h.0))
begins_trans a b c (inr h) (inr g) = inr (h.0 ∙ g.0, omega (zarith, h.1, g.1))

pub begins_self : (a : Corner) → Begins a a
begins_self a = inr (refl, ≤ℤ_refl a.1)

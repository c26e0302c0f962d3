-- A U and small rooms over it, decided.
-- Assumes nothing.
use mathlib.Core.List.{List, [], ◌∷◌}
use mathlib.Core.Path.{◌≡◌, refl}
use Prim.Native.Nat.{ℕ}
use native.Mathlib.Omega.{arith}
use lib.IntN.{pos}
use Rattle.grid.specs.Grid.{corner, origin, panel_at}
use Rattle.overlay.specs.declared.Part.TheVariants.{First, Second, Both}
use Rattle.overlay.specs.Overlay.{InPart}

-- a U, and a room of one panel
abbrev pub u : List ℕ
u = 0 ∷ 0 ∷ 0 ∷ 1 ∷ 1 ∷ 2 ∷ 3 ∷ 2 ∷ 1 ∷ 2 ∷ 3 ∷ 3 ∷ []

abbrev pub one : List ℕ
one = 0 ∷ 1 ∷ 2 ∷ 3 ∷ []

-- in the mouth of the U its panel is in the second only, though it lies in the bounding box of the U
pub in_the_mouth : InPart Second origin u (corner (pos 1) (pos 1)) one (panel_at (corner (pos 1) (pos 1)))
in_the_mouth = (refl, λ e. let z : ◌≡◌ {A = ℕ} 0 1 = cc in omega arith)

-- the panel west of it is in the first only
pub beside_the_mouth : InPart First origin u (corner (pos 1) (pos 1)) one (panel_at (corner (pos 0) (pos 1)))
beside_the_mouth = (refl, λ e. let z : ◌≡◌ {A = ℕ} 0 1 = cc in omega arith)

-- in the foot of the U it is in both
pub in_the_foot : InPart Both origin u origin one (panel_at origin)
in_the_foot = (refl, refl)

-- and what lies beside it there is not
beside_the_foot : InPart Both origin u origin one (panel_at (corner (pos 1) (pos 0))) → ⊥
beside_the_foot h = let z : ◌≡◌ {A = ℕ} 0 1 = h.1 in omega (arith, z)

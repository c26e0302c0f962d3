-- The bounding box of some blocks (RULES 21.8). Assumes nothing.
use Rattle.std.specs.Prelude.{◌≡◌, ◌≤ℤ◌, ◌<ℤ◌}
use Rattle.std.proofs.Math.IntN.{suc_ℤ}
use Rattle.grid.specs.declared.Panel.{Panel}
use Rattle.panels.specs.Box.{Box}

-- the block lies in the box
pub record InBlockBox (k : Box) (b : Panel) : Type 0 where
  pub west : k.west ≤ℤ b.0
  pub east : b.0 <ℤ k.east
  pub south : k.south ≤ℤ b.1
  pub north : b.1 <ℤ k.north

-- every block of B lies in the box, and on each of its four sides stands one
pub record BoundedBy (B : Panel → Type 0) (k : Box) : Type 0 where
  pub within : (b : Panel) → B b → InBlockBox k b
  pub west : (b : Panel) × B b × (b.0 ≡ k.west)
  pub east : (b : Panel) × B b × (suc_ℤ b.0 ≡ k.east)
  pub south : (b : Panel) × B b × (b.1 ≡ k.south)
  pub north : (b : Panel) × B b × (suc_ℤ b.1 ≡ k.north)

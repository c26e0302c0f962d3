-- The steps of a walk in a chain that is lent.
-- Assumes nothing.
use Rattle.std.specs.Prelude.{List, ◌≡◌, ℕ, ◌≤◌, length, take}
use Rattle.answer.specs.Limits.{Near}
use Rattle.grid.specs.declared.Corner.{Corner}
use Rattle.steps.specs.Operations.{Walkable}

-- the steps ds of a walk from c, which is near, stand at the beginning of the chain
pub record ChainKeeps (c : Corner) (chain ds : List ℕ) : Type 0 where
  pub near : Near c
  pub sound : Walkable ds
  pub kept : ds ≡ take (length ds) chain
  pub space : length ds ≤ length chain

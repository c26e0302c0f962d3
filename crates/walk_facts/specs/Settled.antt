-- A walk that is over: its steps in the chain, and what it counted.
-- Assumes nothing.
use Rattle.std.specs.Prelude.{List, ◌≡◌, ℕ, ℤ, ◌*ℤ◌, length}
use Rattle.grid.specs.declared.Corner.{Corner}
use Rattle.grid.specs.Grid.{corners_from, end_from, north_of}
use Rattle.walk_step.specs.declared.Tally.{Tally}
use Rattle.walk_step.specs.declared.Walk.{Walk}
use Rattle.walk_step.specs.Chains.{ChainKeeps}
use Rattle.walk_step.specs.Tallies.{TallyIs}
use Rattle.tree.specs.Nodes.{nodes_of}

-- x times the change of y that the step d makes
abbrev pub gain : ℕ → ℤ → ℤ
gain d x = x *ℤ north_of d

-- n steps from c are over: they are ds, which stand in the chain, end at this corner and are tallied
pub record WalkOver (c : Corner) (chain ds : List ℕ) (n : ℕ) (last : Corner) (m : Tally) : Type 0 where
  pub own : ChainKeeps c chain ds
  pub steps : n ≡ length ds
  pub corner : last ≡ end_from c ds
  pub counted : TallyIs c ds m

-- some steps
pub record SomeOver (c : Corner) (chain : List ℕ) (n : ℕ) (last : Corner) (m : Tally) : Type 0 where
  pub chain_steps : List ℕ
  pub over : WalkOver c chain chain_steps n last m

-- w is the walk from c with the steps ds, which stand in the chain
pub record Settled (c : Corner) (chain ds : List ℕ) (w : Walk) : Type 0 where
  pub over : WalkOver c chain ds w.spot.steps w.spot.at w.tally
  pub nodes : w.spot.nodes ≡ length (nodes_of (corners_from c ds))

-- of some steps
pub record Settling (c : Corner) (chain : List ℕ) (w : Walk) : Type 0 where
  pub chain_steps : List ℕ
  pub settled : Settled c chain chain_steps w

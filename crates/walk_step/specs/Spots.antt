-- A walk in the table: where it stands, and what a step makes of it.
-- Assumes nothing.
use Rattle.std.specs.Prelude.{List, [], ◌∷◌, ◌++◌, ◌≡◌, ℕ, suc, ◌*◌, ◌<◌, ◌≤◌, length, None, Option, Some, replicate}
use Rattle.grid.specs.declared.Corner.{Corner}
use Rattle.grid.specs.Grid.{corners_from, end_from}
use Rattle.layout.specs.Table.{width, table_of}
use Rattle.tree.specs.Nodes.{nodes_of, ref_of}
use Rattle.walk_step.specs.declared.Spot.{Spot}

-- the table is that of the walk from c with the steps ds, and w is where the walk stands
pub record Walked (t : List ℕ) (c : Corner) (ds : List ℕ) (w : Spot) : Type 0 where
  pub whole : t ≡ table_of (length t) c ds
  pub count : w.nodes ≡ length (nodes_of (corners_from c ds))
  pub room : width * w.nodes ≤ length t
  pub here : ref_of (nodes_of (corners_from c ds)) (end_from c ds) ≡ suc w.node
  pub corner : w.at ≡ end_from c ds
  pub steps : w.steps ≡ length ds

-- of some walk
pub record Standing (t : List ℕ) (w : Spot) : Type 0 where
  pub start : Corner
  pub chain : List ℕ
  pub walked : Walked t start chain w

-- of some walk whose last step is d
pub record Stepped (t : List ℕ) (w : Spot) (d : ℕ) : Type 0 where
  pub start : Corner
  pub chain : List ℕ
  pub walked : Walked t start (chain ++ (d ∷ [])) w

-- the answer to a step, if ds are the steps with it: the walk stands there, or its nodes are more than the table has records, and
-- the table is left all zero
abbrev pub Went : ℕ → List ℕ → Corner → List ℕ → Option Spot → Type 0
Went words t c ds (Some w) = Walked t c ds w × (length t ≡ words)
Went words t c ds None = (words < width * length (nodes_of (corners_from c ds))) × (t ≡ replicate words 0)

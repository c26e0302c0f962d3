-- A walk on its way: where it stands and its tally, both as the definitions have them.
-- Assumes nothing.
use Rattle.std.specs.Prelude.{List, [], ◌∷◌, ◌++◌, ◌≡◌, ℕ, ◌+◌, ◌*◌, ◌<◌, length, None, Option, Some, replicate}
use Rattle.answer.specs.Limits.{no_meeting}
use Rattle.grid.specs.declared.Corner.{Corner}
use Rattle.grid.specs.Grid.{corners_from}
use Rattle.tree.specs.Nodes.{nodes_of}
use Rattle.layout.specs.Table.{width}
use Rattle.walk_step.specs.declared.Walk.{Walk}
use Rattle.walk_step.specs.Spots.{Walked}
use Rattle.walk_step.specs.Tallies.{TallyIs}

-- the walk with no step, at its start, which is the last of the nodes
abbrev pub fresh : Corner → ℕ → Walk
fresh c node =
    record {
      spot = record { node = node; at = c; steps = 0; nodes = node + 1 };
      tally = record { corners = 1; j = no_meeting; k = no_meeting };
    }

-- the table is that of the walk from c with the steps ds, and w is where it stands, with its tally
pub record Known (t : List ℕ) (c : Corner) (ds : List ℕ) (w : Walk) : Type 0 where
  pub walked : Walked t c ds w.spot
  pub counted : TallyIs c ds w.tally

-- of some walk
pub record Knowing (t : List ℕ) (w : Walk) : Type 0 where
  pub start : Corner
  pub chain : List ℕ
  pub known : Known t start chain w

-- of some walk whose last step is d
pub record Withdrawable (t : List ℕ) (w : Walk) (d : ℕ) : Type 0 where
  pub start : Corner
  pub chain : List ℕ
  pub known : Known t start (chain ++ (d ∷ [])) w

-- the answer to a step, if ds are the steps with it: the walk stands there, or its nodes are more than the table has records, and
-- the table is left all zero
abbrev pub Advanced : ℕ → List ℕ → Corner → List ℕ → Option Walk → Type 0
Advanced words t c ds (Some w) = Known t c ds w × (length t ≡ words)
Advanced words t c ds None = (words < width * length (nodes_of (corners_from c ds))) × (t ≡ replicate words 0)

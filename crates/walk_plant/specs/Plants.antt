-- The start of a walk and its ancestors in the table.
-- Assumes nothing.
use Rattle.std.specs.Prelude.{true, false, List, [], ◌≡◌, ℕ, ◌*◌, ◌<◌, ◌≤◌, length, replicate}
use Rattle.grid.specs.declared.Corner.{Corner}
use Rattle.grid.specs.Grid.{corners_from}
use Rattle.grid.specs.Tree.{is_root, size_of, up_by, path_of}
use Rattle.layout.specs.Table.{width, table_of}
use Rattle.tree.specs.Nodes.{nodes_of, ref_of}
use Rattle.tree_laws.specs.State.{table_by, planted_of}

-- the root is the n-th parent of c, and none before it
pub record Deep (c : Corner) (n : ℕ) : Type 0 where
  pub top : is_root (up_by n c) ≡ true
  pub below : (j : ℕ) → j < n → is_root (up_by j c) ≡ false
  pub few : n ≤ size_of c

-- the path of c with nothing on it, if the table is large enough: r is the ref of c
pub record Grown (words : ℕ) (c : Corner) (t : List ℕ) (r : ℕ) : Type 0 where
  pub fits : width * length (path_of c) ≤ words → (t ≡ table_by words (planted_of c)) × (r ≡ length (path_of c))
  pub full : words < width * length (path_of c) → r ≡ 0

-- the table of the walk from c with no step, if the table is large enough: r is the ref of c, and how many nodes there are; else
-- a cleared table
pub record Planted (words : ℕ) (c : Corner) (t : List ℕ) (r : ℕ) : Type 0 where
  pub fits : width * length (nodes_of (corners_from c [])) ≤ words
      → (t ≡ table_of words c []) × (r ≡ length (nodes_of (corners_from c []))) × (r ≡ ref_of (nodes_of (corners_from c [])) c)
  pub full : words < width * length (nodes_of (corners_from c [])) → (r ≡ 0) × (t ≡ replicate words 0)

-- The nodes in use in their order, and the links between them (RULES 3.3 to 3.6). ps are the corners p0 to pn. Assumes nothing.
use mathlib.Core.List.{Memᴰ}
use Rattle.lists.specs.Lists.{any, find, gather, zip}
use Rattle.std.specs.Prelude.{◌≡◌, Bool, List, [], ◌∷◌, ◌++◌, length, get_or, ◌⊎◌, ℕ, pred, ◌<◌}
use Rattle.grid.specs.{declared.Corner.Corner, Grid.origin, Grid.same, Grid.stepped, Grid.legs_of, Grid.joins, Tree.AncestorAt, Tree.lineage_of, Tree.path_of}

-- the paths of a list of corners, each from the root, one after the other
abbrev pub paths_of : List Corner → List Corner
paths_of [] = []
paths_of (p ∷ ps) = path_of p ++ paths_of ps

-- the nodes in use: the visited corners and their ancestors, in the order in which they are first needed, nearer the root first
abbrev pub nodes_of : List Corner → List Corner
nodes_of ps = gather same [] (paths_of ps)

-- what it is to be one: a visited corner, or an ancestor of one
abbrev pub InUse : List Corner → Corner → Type 0
InUse ps a = (p : Corner) × Memᴰ p ps × ((i : ℕ) × AncestorAt i p a)

-- 1 + the number of a node; 0 if it is none
abbrev pub ref_of : List Corner → Corner → ℕ
ref_of ns a = find (same a) ns

-- the step that first needed a node: the least k with the node on the path of pk; 0 for the start and its ancestors
abbrev pub need_of : List Corner → Corner → ℕ
need_of ps a = pred (find (λ p. any (same a) (path_of p)) ps)

-- a step links a and b: at some level that both its ends have, their parents are a and b
abbrev pub links : Corner → Corner → Corner × Corner → Bool
links a b l = any (joins a b) (zip (lineage_of l.0) (lineage_of l.1))

-- the least step, counted from 1, that links a to its neighbour in direction d; 0 if none does
abbrev pub link_step_of : List Corner → Corner → ℕ → ℕ
link_step_of ps a d = find (links a (stepped d a)) (legs_of ps)

-- the i-th parents of p and q are a and b, in either order
abbrev pub JoinedAt : ℕ → Corner → Corner → Corner → Corner → Type 0
JoinedAt i p q a b = (AncestorAt i p a × AncestorAt i q b) ⊎ (AncestorAt i p b × AncestorAt i q a)

-- step k, counted from 1, links a and b: at some level i the i-th parents of its two ends are a and b, and differ
pub record LinkedBy (ps : List Corner) (a b : Corner) (k : ℕ) : Type 0 where
  pub counted : 0 < k
  pub within : k < length ps
  pub level : ℕ
  pub joined : JoinedAt level (get_or ps (pred k) origin) (get_or ps k origin) a b
  pub differ : a ≡ b → ⊥

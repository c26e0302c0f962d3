-- What a climb finds, and what the way down starts from.
-- Assumes nothing.
use Rattle.std.specs.Prelude.{Bool, false, not, ◌&&◌, ◌≡◌, ℕ, suc, ◌*◌, ◌<◌, ◌≤◌, max, eqb, length, get_or}
use mathlib.Core.List.{List, Memᴰ}
use Rattle.grid.specs.declared.Corner.{Corner}
use Rattle.grid.specs.Grid.{same, stepped}
use Rattle.grid.specs.Tree.{parent_of, is_root, up_by}
use Rattle.layout.specs.Table.{width, word_at, neighbour_word}
use Rattle.tree.specs.Nodes.{ref_of}
use Rattle.tree_laws.specs.State.{State, Sound, reached, Made}

-- the climb goes on from node u, which stands for c: no link in direction d, neither c nor its neighbour is the root, and their
-- parents differ
abbrev pub goes_up : List ℕ → ℕ → Corner → ℕ → Bool
goes_up t u c d =
    eqb (get_or t (word_at u (neighbour_word d)) 0) 0
    && (not (is_root (stepped d c)) && (not (is_root c) && not (same (parent_of c) (parent_of (stepped d c)))))

-- the same by the state
pub record Apart (S : State) (d : ℕ) (a : Corner) : Type 0 where
  pub none : S.step a (stepped d a) ≡ 0
  pub inner : is_root a ≡ false
  pub outer : is_root (stepped d a) ≡ false
  pub parents : same (parent_of a) (parent_of (stepped d a)) ≡ false

-- a is this many levels above c, and the climb goes on at each level below it
pub record Climbed (S : State) (d : ℕ) (c : Corner) (level : ℕ) (a : Corner) : Type 0 where
  pub above : a ≡ up_by level c
  pub below : (j : ℕ) → j < level → Apart S d (up_by j c)

-- the neighbour, of ref v, of the node u this many levels above c is found or made; S is the state before the lookup, with n
-- nodes
pub record Descends (t : List ℕ) (n u v : ℕ) (c : Corner) (d s level : ℕ) (S : State) : Type 0 where
  pub sound : Sound S
  pub count : n ≡ length S.nodes
  pub room : width * n ≤ length t
  pub start : Memᴰ c S.nodes
  pub below : (j : ℕ) → j < level → Apart S d (up_by j c)
  pub here : ref_of S.nodes (up_by level c) ≡ suc u
  pub made : Made (length t) (reached S s (up_by level c) (stepped d (up_by level c))) (stepped d (up_by level c)) t v (max n v)

-- for some state
pub record Descending (t : List ℕ) (n u v : ℕ) (c : Corner) (d s level : ℕ) : Type 0 where
  pub state : State
  pub descends : Descends t n u v c d s level state

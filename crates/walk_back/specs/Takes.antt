-- What a take-back finds in the table, and what it leaves there.
-- Assumes nothing.
use Rattle.std.specs.Prelude.{List, ◌≡◌, ℕ, ◌-◌, ◌*◌, ◌<◌, ◌≤◌, length, get_or}
use Rattle.grid.specs.declared.Corner.{Corner}
use Rattle.grid.specs.Grid.{same}
use Rattle.grid.specs.Tree.{path_of}
use Rattle.layout.specs.Table.{width, word_at, HasRecord, parent_word, neighbour_word, link_word, need_word}
use Rattle.lists.specs.Lists.{gather}
use Rattle.tree_laws.specs.State.{State, Sound, UnlinkAt, DropAt}
use Rattle.table_laws.specs.Model.{unset_in}

-- u is a node in the table, and so is its neighbour in the direction d if the two are linked
pub record Joined (t : List ℕ) (u d : ℕ) : Type 0 where
  pub here : HasRecord t u
  pub way : d < 4
  pub there : 0 < get_or t (word_at u (link_word d)) 0
      → (0 < get_or t (word_at u (neighbour_word d)) 0) × HasRecord t (get_or t (word_at u (neighbour_word d)) 0 - 1)

-- one level: a link of the step s is cleared at both ends, and the parent's ref is next; any other link stays, and nothing is
-- next
pub record Cleared (t : List ℕ) (u d s : ℕ) (t' : List ℕ) (next : ℕ) : Type 0 where
  pub own : get_or t (word_at u (link_word d)) 0 ≡ s
      → (t' ≡ unset_in t u (get_or t (word_at u (neighbour_word d)) 0 - 1) d) × (next ≡ get_or t' (word_at u parent_word) 0)
  pub other : (get_or t (word_at u (link_word d)) 0 ≡ s → ⊥) → (t' ≡ t) × (next ≡ 0)

-- the links of step s are being cleared, on the way to the state S; next is the node u
pub record Unlinks (t : List ℕ) (u d s : ℕ) (S : State) (z : Corner) : Type 0 where
  pub sound : Sound S
  pub pos : 0 < s
  pub dir : d < 4
  pub small : (x y : Corner) → S.step x y < s
  pub held : UnlinkAt (length t) S s z d t u
  pub room : width * length (gather same S.nodes (path_of z)) ≤ length t

-- the same, for some state and corner
pub record Unlinkable (t : List ℕ) (u d s : ℕ) : Type 0 where
  pub state : State
  pub end : Corner
  pub holds : Unlinks t u d s state end

-- the nodes of step s are being taken off, on the way to the state S; next is the node u, which stands for h
pub record Drops (t : List ℕ) (left u : ℕ) (h : Corner) (s : ℕ) (S : State) : Type 0 where
  pub sound : Sound S
  pub pos : 0 < s
  pub small : (x : Corner) → S.need x < s
  pub held : DropAt (length t) S s t left u h

-- the same, for some state
pub record Droppable (t : List ℕ) (left u : ℕ) (h : Corner) (s : ℕ) : Type 0 where
  pub state : State
  pub holds : Drops t left u h s state

-- the node u, which stands for h, was needed by the step that is being taken back
pub record Newest (t : List ℕ) (u : ℕ) (h : Corner) : Type 0 where
  pub left : ℕ
  pub step : ℕ
  pub held : Droppable t left u h step
  pub needed : get_or t (word_at u need_word) 0 ≡ step

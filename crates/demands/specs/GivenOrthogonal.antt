-- When each answer of the call that outlines the orthogonal hull is given (RULES 21.5).
-- Assumes nothing.
use Rattle.std.specs.Prelude.{List, ℕ, ◌<◌, ◌≤◌, Err, Ok, length}
use Rattle.orthogonal.specs.Answers.{Orthogonal}
use Rattle.answer.specs.declared.Refusal.{Refusal}
use Rattle.answer.specs.declared.Refusal.TheVariants.{TooMany, StartRange, GridSize, ChainRoom}
use Rattle.answer.specs.Limits.{most_input, Near}
use Rattle.grid.specs.declared.Corner.{Corner}
use Rattle.orthogonal.specs.Call.{most_grid, OutlinesHull, enclosed_of}
use Rattle.demands.specs.GivenChain.{ChainSized}
use Rattle.demands.specs.GivenRoom.{GivenRoom}

-- a grid size
pub record GridSized (g : ℕ) : Type 0 where
  pub least : 1 ≤ g
  pub most : g ≤ most_grid

-- the occasion of each answer if the buffer has this many bytes: 1, then 10, then 22, then the other refusals of a room, then 18;
-- otherwise the outline
pub data GivenOrthogonal (c : Corner) (ds : List ℕ) (g size : ℕ) : Orthogonal → Type 0 where
  too_many : most_input < length ds → GivenOrthogonal c ds g size (Err TooMany)
  start_range : length ds ≤ most_input → (Near c → ⊥) → GivenOrthogonal c ds g size (Err StartRange)
  grid_size : ChainSized c ds → (GridSized g → ⊥) → GivenOrthogonal c ds g size (Err GridSize)
  refused : (q : Refusal) → GridSized g → GivenRoom c ds (Err q) → GivenOrthogonal c ds g size (Err q)
  chain_room : GridSized g → GivenRoom c ds (Ok tt) → (start : Corner) (steps : List ℕ) → OutlinesHull c ds g start steps
      → size < length steps → GivenOrthogonal c ds g size (Err ChainRoom)
  outlined : GridSized g → GivenRoom c ds (Ok tt) → (start : Corner) (steps : List ℕ) → OutlinesHull c ds g start steps
      → length steps ≤ size → GivenOrthogonal c ds g size (Ok (enclosed_of start steps))

-- What the parts of the call ask of their stores. Blocks are counted from block -32,768. Assumes nothing.
use Rattle.std.specs.Prelude.{◌≡◌, List, ℕ, ◌+◌, ◌*◌, ◌-◌, ◌/◌, ◌%◌, ◌<◌, ◌≤◌, pos, ◌-ℤ◌, length, get_or, Ok, replicate}
use Rattle.grid.specs.declared.Corner.{Corner}
use Rattle.grid.specs.Grid.{corner}
use Rattle.panels.specs.Inside.{panels_inside}
use Rattle.hull_laws.specs.Lowest.{blank, sinks}
use Rattle.room_thread_laws.specs.Threads.{Stays}
use Rattle.orthogonal.specs.Blocks.{HoldsInside}
use Rattle.orthogonal.specs.Call.{on_grid_judged, OutlinesHull}
use Rattle.orthogonal_chain_laws.specs.Chain.{corner_by, home_row, blocks_from, chain_from_home}
use Rattle.orthogonal_laws.specs.HullRows.{RowEnds}
use Rattle.orthogonal_row_laws.specs.Lanes.{lanes_from, from_west, from_east, Ruled}
use Rattle.orthogonal_draw.specs.Sides.{left_in, right_in}

-- the blocks before block 0
abbrev pub shift : ℕ
shift = 32768

-- the corner of blocks x east and y north of block -32,768
abbrev pub shifted : ℕ → ℕ → Corner
shifted x y = corner (pos x -ℤ pos shift) (pos y -ℤ pos shift)

-- the row of blocks in which the outline starts, and the corner
abbrev pub home_in : List ℕ → ℕ
home_in lo = home_row (left_in lo) (length lo - 1)

abbrev pub start_in : ℕ → ℕ → List ℕ → Corner
start_in x y lo = corner_by (shifted x y) (get_or lo (home_in lo) 0) (home_in lo)

-- the chain around the rows
abbrev pub chain_in : ℕ → List ℕ → List ℕ → List ℕ
chain_in span lo hi = chain_from_home (left_in lo) (right_in span hi) (length lo - 1)

-- numbers that are not too large to count with
pub record Small (span x y : ℕ) (lo hi : List ℕ) : Type 0 where
  pub some : 0 < length lo
  pub same : length hi ≡ length lo
  pub few : length lo < blank
  pub narrow : span < blank
  pub west : x < 65536
  pub south : y < 131072

-- the lists have the ends of the rows of the hull of the room's blocks, the right ends counted from column `span`
pub record Outlinable (c : Corner) (ds : List ℕ) (g span x y : ℕ) (lo hi : List ℕ) : Type 0 where
  pub good : on_grid_judged c ds g ≡ Ok tt
  pub fits : (q : ℕ) → q < length lo → get_or lo q 0 + get_or hi q 0 ≤ span
  pub outline : OutlinesHull c ds g (start_in x y lo) (chain_in span lo hi)
  pub long : length (chain_in span lo hi) ≡ 2 * (span - get_or hi (home_in hi) 0 - get_or lo (home_in lo) 0 + length lo)
  pub blocks : panels_inside (start_in x y lo) (chain_in span lo hi) ≡ blocks_from (left_in lo) (right_in span hi) 0 (length lo)

-- the lists have the columns of the ends of the rows of the room's blocks
pub record Shaped (c : Corner) (ds : List ℕ) (g span x y : ℕ) (lo hi : List ℕ) : Type 0 where
  pub good : on_grid_judged c ds g ≡ Ok tt
  pub ends : RowEnds (HoldsInside c ds g) (shifted x y) (λ q. get_or lo q 0 / g) (λ q. span - get_or hi q 0 / g) (length lo - 1)

-- rows that have no edge yet
abbrev pub Edgeless : List ℕ → Type 0
Edgeless l = l ≡ replicate (length l) blank

-- the vertical edges of an accepted room in the lanes of their rows. The walk starts in column and height m, which lie x and y
-- after the beginning of block -32,768
pub record Laned (c : Corner) (ds : List ℕ) (g m span x y : ℕ) (lo hi : List ℕ) : Type 0 where
  pub good : on_grid_judged c ds g ≡ Ok tt
  pub ruled : Ruled m g (x % g) (y % g) (span * g) span
  pub stays : Stays ds m (2 * m)
  pub west : c.0 -ℤ pos m ≡ pos x -ℤ pos (shift * g)
  pub south : c.1 -ℤ pos m ≡ pos y -ℤ pos (shift * g)
  pub low : lo ≡ sinks (replicate span blank) (lanes_from g (y % g) (from_west (x % g)) m m ds)
  pub high : hi ≡ sinks (replicate span blank) (lanes_from g (y % g) (from_east (span * g) (x % g)) m m ds)

-- an accepted room, a walk in the store that starts in column and height m, and rows that have no edge yet, as many as it needs
pub record LanesReady (c : Corner) (ds : List ℕ) (g m : ℕ) (lo hi t : List ℕ) : Type 0 where
  pub good : on_grid_judged c ds g ≡ Ok tt
  pub wide : length ds < 2 * m
  pub tight : 2 * m ≤ length ds + 2
  pub low : Edgeless lo
  pub high : hi ≡ replicate (length lo) blank
  pub store : length t ≡ length lo
  pub whole : 2 * m + g ≤ length lo * g + 1
  pub near : length lo * g ≤ 2 * m + 2 * g
  pub few : length lo ≤ 2 * m

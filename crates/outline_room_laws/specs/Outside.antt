-- What lies outside a walk (RULES 15.8). Assumes nothing.
use mathlib.Core.List.{Memᴰ}
use Rattle.std.specs.Prelude.{◌≡◌, false, List, ℕ, ◌<ℤ◌}
use Rattle.grid.specs.{declared.Corner.Corner, declared.Panel.Panel, Grid.corners_from}
use Rattle.panels.specs.Inside.{left_of, right_of}
use Rattle.outline.specs.Outline.{walked}

-- a panel to the west of the whole walk, and every panel that can be reached from one across edges that were not walked
pub data Outside (c : Corner) (ds : List ℕ) : Panel → Type 0 where
  west : (p : Panel) → ((q : Corner) → Memᴰ q (corners_from c ds) → p.0 <ℤ q.0) → Outside c ds p
  across : (d : ℕ) (q : Corner) → walked c ds q d ≡ false → Outside c ds (right_of d q) → Outside c ds (left_of d q)

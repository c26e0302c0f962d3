-- What the pass along the outline asks, wherever the walk starts. Assumes nothing.
use Rattle.std.specs.Prelude.{◌≡◌, Bool, not, List, ℕ, ◌<◌, ◌≤◌, ltb, length}
use Rattle.answer.specs.Limits.{most_steps}
use Rattle.grid.specs.declared.Corner.{Corner}
use Rattle.outline.specs.Outline.{first_way}
use Rattle.outline.specs.Computed.{outline_of}
use Rattle.outline_map.specs.Map.{Mapped}
use Rattle.outline_map.specs.declared.Ring.{Ring}

-- the map of a walk with steps, with the place and the way by which its outline starts
pub record MapRing (chain by map : List ℕ) (home first : ℕ) : Type 0 where
  pub some : 0 < length chain
  pub short : length chain ≤ most_steps
  pub four : length by ≡ 4
  pub mapped : (c : Corner) → Mapped c chain by map home
  pub firstly : (c : Corner) → first ≡ first_way c chain

abbrev pub IsMapRing : Ring → Type 0
IsMapRing r = MapRing r.chain.now r.by.now r.map.now r.home r.first

-- the outline fits into the room
abbrev pub Fits : List ℕ → ℕ → Type 0
Fits chain size = (c : Corner) → length (outline_of c chain) ≤ size

-- whether it does
abbrev pub FitsBy : List ℕ → ℕ → Bool → Type 0
FitsBy chain size t = (c : Corner) → t ≡ not (ltb size (length (outline_of c chain)))

-- What the store holds of a walk: its different corners as keys, and their links. Assumes nothing.
use Rattle.answer.specs.Limits.{most_steps}
use mathlib.Core.List.{Memᴰ}
use Rattle.std.specs.Prelude.{map, ◌≡◌, List, ℕ, suc, ◌*◌, ◌<◌, ◌≤◌, length, take, get_or}
use Rattle.grid.specs.{declared.Corner.Corner, Grid.origin, Grid.corners_from, Grid.end_from}
use Rattle.trace.specs.Meeting.{visited_of}
use Rattle.outline.specs.Outline.{home_of}
use Rattle.outline_laws.specs.Keys.{key_of}
use Rattle.outline_laws.specs.Links.{Linked}
use Rattle.outline_roster.specs.Tree.{Tree}

-- a store with nothing in it, for a chain of steps
pub record Blank (chain keys kids links : List ℕ) : Type 0 where
  pub digits : (i : ℕ) → get_or chain i 0 < 4
  pub room : length chain < length keys
  pub small : length keys ≤ suc most_steps
  pub pairs : length kids ≡ 2 * length keys
  pub words : length links ≡ 4 * length keys
  pub childless : (l : ℕ) → get_or kids l 0 ≡ 0
  pub linkless : (l : ℕ) → get_or links l 0 ≡ 0

-- the walk of ds from c, which stands at corner `node`
pub record WalkStored (c : Corner) (ds keys kids links : List ℕ) (used node : ℕ) : Type 0 where
  pub tree : Tree keys kids used
  pub keyed : take used keys ≡ map (key_of c) (visited_of (corners_from c ds))
  pub linked : Linked c ds links
  pub there : node < used
  pub here : get_or (visited_of (corners_from c ds)) node origin ≡ end_from c ds

-- corner `home` has the least key
pub record Least (c : Corner) (ds : List ℕ) (home least : ℕ) : Type 0 where
  pub number : home < length (visited_of (corners_from c ds))
  pub its : least ≡ key_of c (get_or (visited_of (corners_from c ds)) home origin)
  pub most : (q : Corner) → Memᴰ q (corners_from c ds) → least ≤ key_of c q

-- the links of the walk, and the number of the lowest of its leftmost corners
pub record Built (c : Corner) (chain links : List ℕ) (home : ℕ) : Type 0 where
  pub linked : Linked c chain links
  pub number : home < length (visited_of (corners_from c chain))
  pub lowest : get_or (visited_of (corners_from c chain)) home origin ≡ home_of c chain

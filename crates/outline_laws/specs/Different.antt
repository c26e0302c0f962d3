-- The different edges of a walk. Assumes nothing.
use Rattle.lists.specs.Lists.{gather}
use Rattle.std.specs.Prelude.{Bool, List, [], ℕ}
use Rattle.grid.specs.{declared.Corner.Corner, Grid.legs_from, Grid.joins}

-- the two have the same ends
abbrev pub same_edge : Corner × Corner → Corner × Corner → Bool
same_edge e f = joins e.0 e.1 f

-- the edges that were walked, each once, in whichever sense
abbrev pub different : Corner → List ℕ → List (Corner × Corner)
different c ds = gather same_edge [] (legs_from c ds)

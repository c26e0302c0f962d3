-- The moments of a walk: what survives after its first k operations, and the nodes and corners that it then has.
-- Assumes nothing.
use Rattle.std.specs.Prelude.{List, ℕ, zero, suc, ◌+◌, ◌*◌, ◌<◌, ◌≤◌, length, take}
use Rattle.lists.specs.Lists.{count}
use Rattle.grid.specs.declared.Corner.{Corner}
use Rattle.grid.specs.Grid.{same, corners_from, end_from}
use Rattle.layout.specs.Marks.{changes_of}
use Rattle.steps.specs.Operations.{survivors}
use Rattle.trace.specs.Meeting.{visited_of}
use Rattle.tree.specs.Nodes.{nodes_of}

-- the steps that survive the first k operations
abbrev pub steps_after : List ℕ → ℕ → List ℕ
steps_after os k = survivors (take k os)

-- the nodes that the walk then needs
abbrev pub nodes_after : Corner → List ℕ → ℕ → ℕ
nodes_after c os k = length (nodes_of (corners_from c (steps_after os k)))

-- the different corners that it then touches
abbrev pub corners_after : Corner → List ℕ → ℕ → ℕ
corners_after c os k = length (visited_of (corners_from c (steps_after os k)))

-- the visits at the corner where the walk then stands
abbrev pub visits_after : Corner → List ℕ → ℕ → ℕ
visits_after c os k = count (same (end_from c (steps_after os k))) (corners_from c (steps_after os k))

-- the records that differ before and after operation k, counted from 0
abbrev pub changes_at : Corner → List ℕ → ℕ → ℕ
changes_at c os k = changes_of c (steps_after os k) (steps_after os (suc k))

-- the sum of the first n values
abbrev pub sum_to : ℕ → (ℕ → ℕ) → ℕ
sum_to zero f = 0
sum_to (suc n) f = sum_to n f + f n

-- at most eight nodes for each corner and 68, as demanded
abbrev pub AtMostEight : ℕ → ℕ → Type 0
AtMostEight nodes corners = nodes ≤ 8 * corners + 68

-- at most four for each and 64
abbrev pub FourAndStart : ℕ → ℕ → Type 0
FourAndStart nodes corners = nodes ≤ 4 * corners + 64

-- at most four for each, less three
abbrev pub FourLessThree : ℕ → ℕ → Type 0
FourLessThree nodes corners = nodes + 3 ≤ 4 * corners

-- the walk needs more nodes than there are records
abbrev pub Exceeds : ℕ → ℕ → Type 0
Exceeds nodes records = records < nodes

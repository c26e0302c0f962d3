-- What the loops of `walk_lookup::climb` keep, and how they end.
use mathlib.Core.Path.{◌≡◌}
use Prim.Native.Nat.{suc, ◌+◌, ◌<◌, ◌≤◌}
use lib.IntN.{nat_abs}
use Rattle.grid.specs.Tree.{size_of}
use Rattle.tree.specs.Nodes.{ref_of}
use Rattle.tree_laws.specs.State.{State, Holds}
use Rattle.table_laws.specs.Climb.{Climbed}
use Rattle.walk_lookup.proofs.climb.Given as goal

abbrev pub invariant-loop-from : goal.invariant-loop-from
invariant-loop-from l =
    ((S : State) → Holds l.t l.nodes S → ref_of S.nodes l.initial.at ≡ suc l.from.node → Climbed S l.from.d l.initial.at l.level l.at × (ref_of S.nodes l.at ≡ suc l.node))
    × (nat_abs l.at.0 < 65536) × (nat_abs l.at.1 < 65536) × (l.level + size_of l.at ≤ size_of l.initial.at)

abbrev pub decreases-loop-from : goal.decreases-loop-from
decreases-loop-from l = size_of l.at

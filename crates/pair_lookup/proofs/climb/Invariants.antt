-- What the loops of `pair_lookup::climb` keep, and how they end.
use mathlib.Core.List.{List}
use Prim.Native.Nat.{◌+◌, ◌<◌, ◌≤◌}
use lib.IntN.{nat_abs}
use Rattle.grid.specs.Tree.{size_of}
use Rattle.pair_table.specs.Slots.{Slot}
use Rattle.pair_table_laws.specs.Hold.{Both}
use Rattle.pair_lookup.specs.Climbs.{Stands}
use Rattle.table_laws.specs.Climb.{Climbed}
use Rattle.pair_lookup.proofs.climb.Given as goal

abbrev pub invariant-loop-from : goal.invariant-loop-from
invariant-loop-from l =
    ((slots : List Slot) (B : Both) → Stands l.t slots B l.q l.from.node l.initial.at → Climbed (B l.q) l.from.d l.initial.at l.level l.at × Stands l.t slots B l.q l.node l.at)
    × (nat_abs l.at.0 < 65536) × (nat_abs l.at.1 < 65536) × (l.level + size_of l.at ≤ size_of l.initial.at)

abbrev pub decreases-loop-from : goal.decreases-loop-from
decreases-loop-from l = size_of l.at

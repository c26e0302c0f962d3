-- What the loops of `pair_change::changed` keep, and how they end.
use mathlib.Core.List.{List}
use mathlib.Core.Path.{◌≡◌}
use Rattle.grid.specs.declared.Corner.{Corner}
use Rattle.grid.specs.Tree.{size_of}
use Rattle.pair_table.specs.Slots.{Slot}
use Rattle.pair_table_laws.specs.Hold.{Both}
use Rattle.pair_change.specs.Counts.{WithStep}
use Rattle.pair_change.proofs.ChangedLaws.{Up}
use Rattle.pair_change.proofs.changed.Given as goal

abbrev pub invariant-loop-here : goal.invariant-loop-here
invariant-loop-here l = (B : Both) (slots more : List Slot) (a : Corner) (k : WithStep l.t l.q l.initial.v l.step l.d B slots more a) → l.initial.here ≡ a → Up l.t l.q l.initial.v l.step l.d B slots more a k l.u l.v l.here l.sum

abbrev pub decreases-loop-here : goal.decreases-loop-here
decreases-loop-here l = size_of l.here

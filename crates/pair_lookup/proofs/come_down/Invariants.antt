-- What the loops of `pair_lookup::come_down` keep, and how they end.
use mathlib.Core.List.{List}
use mathlib.Core.Path.{◌≡◌}
use lib.ListN.{length}
use Rattle.pair_table.specs.Slots.{Slot}
use Rattle.pair_table_laws.specs.Hold.{Both}
use Rattle.pair_lookup.specs.Climbs.{ComesDown}
use Rattle.pair_lookup.proofs.come_down.Given as goal

abbrev pub invariant-loop-left : goal.invariant-loop-left
invariant-loop-left l = (length l.t ≡ length l.initial.t) × ((slots : List Slot) (B : Both) → ComesDown l.initial.t slots B l.q l.initial.to l.u l.from.at l.from.d l.from.step l.level → ComesDown l.t slots B l.q l.to l.at l.from.at l.from.d l.from.step l.left)

-- What the loops of `walk_back::drop_up` keep, and how they end.
use mathlib.Core.Path.{◌≡◌}
use lib.ListN.{length}
use Rattle.walk_back.proofs.RoundLaws.{Dropped}
use Rattle.walk_back.proofs.drop_up.Given as goal

abbrev pub invariant-loop-here : goal.invariant-loop-here
invariant-loop-here l = (length l.t ≡ length l.initial.t) × Dropped l.initial.t l.nodes l.u l.initial.here l.step l.t l.left l.at l.here

abbrev pub decreases-loop-here : goal.decreases-loop-here
decreases-loop-here l = l.at

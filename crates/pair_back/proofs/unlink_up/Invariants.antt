-- What the loops of `pair_back::unlink_up` keep, and how they end.
use mathlib.Core.Path.{◌≡◌}
use lib.ListN.{length}
use Rattle.pair_back.proofs.RoundLaws.{PairUnlinked, levels_left}
use Rattle.pair_back.proofs.unlink_up.Given as goal

abbrev pub invariant-loop-next : goal.invariant-loop-next
invariant-loop-next l = (length l.t ≡ length l.initial.t) × PairUnlinked l.initial.t l.q l.u l.initial.here l.d l.step l.t l.next l.here

abbrev pub decreases-loop-next : goal.decreases-loop-next
decreases-loop-next l = levels_left l.next l.here

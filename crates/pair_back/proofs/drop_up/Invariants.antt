-- What the loops of `pair_back::drop_up` keep, and how they end.
use mathlib.Core.Path.{◌≡◌}
use lib.ListN.{length}
use Rattle.grid.specs.Tree.{size_of}
use Rattle.pair_back.proofs.RoundLaws.{PairDropping}
use Rattle.pair_back.proofs.drop_up.Given as goal

abbrev pub invariant-loop-here : goal.invariant-loop-here
invariant-loop-here l = (length l.t ≡ length l.initial.t) × PairDropping l.initial.t l.q l.initial.left l.u l.initial.here l.step l.t l.left l.at l.here

abbrev pub decreases-loop-here : goal.decreases-loop-here
decreases-loop-here l = size_of l.here

-- What the loops of `walk_back::unlink_up` keep, and how they end.
use mathlib.Core.Path.{◌≡◌}
use lib.ListN.{length}
use Rattle.walk_back.proofs.RoundLaws.{Unlinked}
use Rattle.walk_table.specs.Refs.{ref_by}
use Rattle.walk_back.proofs.unlink_up.Given as goal

abbrev pub invariant-loop-next : goal.invariant-loop-next
invariant-loop-next l = (length l.t ≡ length l.initial.t) × Unlinked l.initial.t l.u l.d l.step l.t (ref_by l.next)

abbrev pub decreases-loop-next : goal.decreases-loop-next
decreases-loop-next l = ref_by l.next

-- What the loops of `outline_map::count` keep, and how they end.
use Rattle.std.proofs.Common.{◌-◌, ◌*◌, ◌<◌, length}
use Rattle.outline_map.proofs.WayLaws.{GoingOn}
use Rattle.outline_map.proofs.count.Given as goal

abbrev pub invariant-loop-by : goal.invariant-loop-by
invariant-loop-by l = GoingOn l.ring.chain.now l.ring.by.now l.ring.map.now l.ring.home l.n l.i l.d × (0 < l.n)

abbrev pub decreases-loop-by : goal.decreases-loop-by
decreases-loop-by l = 2 * length l.ring.chain.now - l.n

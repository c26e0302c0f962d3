-- What the loops of `outline_map::put` keep, and how they end.
use Rattle.std.proofs.Common.{◌≡◌, ◌-◌, ◌*◌, ◌<◌, ◌++◌, length, drop}
use Rattle.grid.specs.declared.Corner.{Corner}
use Rattle.outline.specs.Outline.{path_from_home}
use Rattle.outline_map.proofs.WayLaws.{GoingOn}
use Rattle.outline_map.proofs.put.Given as goal

abbrev pub invariant-loop-by : goal.invariant-loop-by
invariant-loop-by l = GoingOn l.ring.chain.now l.ring.by.now l.ring.map.now l.ring.home l.n l.i l.d × (0 < l.n) × ((c : Corner) → l.out ≡ path_from_home c l.ring.chain.now l.n ++ drop l.n l.initial.out)

abbrev pub decreases-loop-by : goal.decreases-loop-by
decreases-loop-by l = 2 * length l.ring.chain.now - l.n

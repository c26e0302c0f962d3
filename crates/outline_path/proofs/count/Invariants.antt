-- What the loops of `outline_path::count` keep, and how they end.
use Prim.Native.Nat.{◌-◌, ◌*◌}
use lib.ListN.{length}
use Rattle.grid.specs.declared.Corner.{Corner}
use Rattle.outline_path.proofs.RingLaws.{Going}
use Rattle.outline_path.proofs.count.Given as goal

abbrev pub invariant-loop-i : goal.invariant-loop-i
invariant-loop-i l = ((a : Corner) → Going a l.chain l.n l.i l.d)

abbrev pub decreases-loop-i : goal.decreases-loop-i
decreases-loop-i l = 2 * length l.chain - l.n

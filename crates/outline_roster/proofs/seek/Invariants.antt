-- What the loops of `outline_roster::seek` keep, and how they end.
use Prim.Native.Nat.{◌-◌}
use Rattle.outline_roster.proofs.TreeLaws.{Seeking}
use Rattle.outline_roster.proofs.seek.Given as goal

abbrev pub invariant-loop-i : goal.invariant-loop-i
invariant-loop-i l = Seeking l.keys l.kids l.used l.k l.i l.r

abbrev pub decreases-loop-i : goal.decreases-loop-i
decreases-loop-i l = l.used - l.i

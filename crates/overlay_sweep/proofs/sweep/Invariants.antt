-- What the loops of `overlay_sweep::sweep` keep, and how they end.
use Prim.Native.Nat.{◌+◌, ◌-◌}
use Rattle.overlay.specs.Call.{of_parts}
use Rattle.overlay_sweep.specs.Parts.{ends_in}
use Rattle.overlay_sweep.proofs.CloseLaws.{Sweeping}
use Rattle.overlay_sweep.proofs.sweep.Given as goal

abbrev pub invariant-loop-i : goal.invariant-loop-i
invariant-loop-i l = Sweeping l.a (ends_in l.a) l.b (ends_in l.b) l.i l.j l.last (of_parts l.initial.first l.initial.second l.initial.both) l.m (of_parts l.first l.second l.both)

abbrev pub decreases-loop-i : goal.decreases-loop-i
decreases-loop-i l = (ends_in l.a + ends_in l.b) - (l.i + l.j)

-- What the loops of `room_threads::follow` keep, and how they end.
use mathlib.Core.Path.{◌≡◌}
use Prim.Native.Nat.{◌≤◌}
use lib.ListN.{length}
use Rattle.room_thread_laws.specs.Threads.{Following}
use Rattle.room_threads.proofs.follow.Given as goal

abbrev pub invariant-loop-p : goal.invariant-loop-p
invariant-loop-p l = (l.p ≤ length l.next) × (length l.stamps ≡ length l.initial.stamps) × Following l.next l.hs l.initial.stamps l.tag l.last l.p l.stamps

abbrev pub decreases-loop-p : goal.decreases-loop-p
decreases-loop-p l = l.p

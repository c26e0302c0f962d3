-- What the loops of `room_threads::apart` keep.
use mathlib.Core.Path.{◌≡◌}
use lib.ListN.{length}
use Rattle.room_thread_laws.specs.Threads.{Parting}
use Rattle.room_threads.proofs.apart.Given as goal

abbrev pub invariant-loop-c : goal.invariant-loop-c
invariant-loop-c l = (length l.stamps ≡ length l.initial.stamps) × Parting l.head l.next l.hs l.c l.stamps

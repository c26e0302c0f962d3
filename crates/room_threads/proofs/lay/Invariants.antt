-- What the loops of `room_threads::lay` keep.
use mathlib.Core.Path.{◌≡◌}
use lib.ListN.{length}
use Rattle.room_thread_laws.specs.Threads.{Laying}
use Rattle.room_threads.proofs.lay.Given as goal

abbrev pub invariant-loop-i : goal.invariant-loop-i
invariant-loop-i l = (length l.head ≡ length l.initial.head) × (length l.next ≡ length l.initial.next) × (length l.hs ≡ length l.initial.hs) × Laying l.chain l.m l.x l.y l.i l.head l.next l.hs

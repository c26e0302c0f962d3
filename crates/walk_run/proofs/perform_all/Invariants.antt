-- What the loops of `walk_run::perform_all` keep, and how they end.
use mathlib.Core.Path.{◌≡◌}
use Prim.Native.Nat.{◌*◌, ◌≤◌}
use lib.ListN.{length}
use Rattle.layout.specs.Marks.{mark_words}
use Rattle.walk_run.proofs.RunLaws.{Running}
use Rattle.walk_run.proofs.perform_all.Given as goal

abbrev pub invariant-loop-i : goal.invariant-loop-i
invariant-loop-i l = (length l.t ≡ length l.initial.t) × (length l.marks ≡ mark_words * length l.ops) × (length l.chain ≡ length l.ops) × (l.i ≤ length l.ops) × Running (length l.initial.t) l.initial.w.spot.at l.ops l.t l.marks l.chain l.w l.i

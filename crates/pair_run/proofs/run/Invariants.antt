-- What the loops of `pair_run::run` keep, and how they end.
use mathlib.Core.Path.{◌≡◌}
use Prim.Native.Nat.{◌*◌, ◌≤◌}
use lib.ListN.{length}
use Rattle.layout.specs.Marks.{mark_words}
use Rattle.pair_run.proofs.RunLaws.{PairRunning}
use Rattle.pair_run.proofs.run.Given as goal

abbrev pub invariant-loop-i : goal.invariant-loop-i
invariant-loop-i l =
    (length l.t ≡ length l.initial.t)
    × (length l.marks ≡ mark_words * length l.ops)
    × (length l.first ≡ length l.ops)
    × (length l.second ≡ length l.ops)
    × (l.i ≤ length l.ops)
    × PairRunning (length l.initial.t) l.initial.one.at l.initial.two.at l.ops l.t l.marks l.first l.second l.one l.two l.stock l.i

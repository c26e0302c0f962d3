-- What the loops of `lines::fill` keep, and how they end.
use mathlib.Core.Path.{◌≡◌}
use Prim.Native.Nat.{◌-◌, ◌≤◌}
use lib.ListN.{length}
use Rattle.line_frame.specs.Sizes.{most_held}
use Rattle.line_stream.specs.Stream.{most_part}
use Rattle.line_stream.proofs.FillLaws.{Filling}
use Rattle.lines.specs.Tasks.{job_of}
use Rattle.lines.proofs.fill.Given as goal

abbrev pub invariant-loop-p : goal.invariant-loop-p
invariant-loop-p l = (length l.initial.line ≡ most_held) × (length l.s ≤ most_part) × (l.room ≡ (job_of l.task).most) × Filling (job_of l.task) l.initial.line l.held l.s l.at l.initial.out l.line l.out l.p

abbrev pub decreases-loop-p : goal.decreases-loop-p
decreases-loop-p l = length l.s - l.p.at

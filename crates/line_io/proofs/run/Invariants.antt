-- The line begun and the chunk fit their buffers, which stay as long as they were; and how far the reader and the writer are.
use Rattle.std.proofs.Common.{◌≡◌, ◌≤◌, length, take, drop}
use Rattle.line_frame.specs.Sizes.{most_held}
use Rattle.lines.specs.Tasks.{most_told}
use Rattle.line_io.proofs.RunLaws.{Sofar}
use Rattle.line_io.proofs.run.Given as goal

abbrev pub invariant-loop : goal.invariant-loop
invariant-loop g l =
    (l.p.held ≤ most_held) × (l.n ≤ length l.buf) × (length l.buf ≡ length l.fn.buf)
    × (most_told l.task ≤ length l.out)
    × Sofar l.task (g.R.Read.remaining l.fn.reader) (g.R.Read.remaining l.reader) (g.W.Write.contents l.fn.writer) (g.W.Write.contents l.writer)
    l.m (take l.p.held l.line) (drop l.p.at (take l.n l.buf))

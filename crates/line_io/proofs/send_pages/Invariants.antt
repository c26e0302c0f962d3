-- From the next page on the sheet comes to where it comes from the first on, and so does what is written.
use Rattle.std.proofs.Common.{◌≡◌, ◌≤◌, ◌-◌, ℕ, List, ◌++◌, length, drop}
use Rattle.std.specs.Io.KnownBytes.{Appends}
use Rattle.sheet.specs.Sheet.{margin_after, page_of}
use Rattle.line_io.proofs.send_pages.Given as goal

abbrev pub invariant-loop-next : goal.invariant-loop-next
invariant-loop-next g l =
    (w : List ℕ) × (l.at ≤ length l.s)
    × (margin_after l.next (drop l.at l.s) ≡ margin_after l.fn.m l.s)
    × Appends (g.W.Write.contents l.fn.writer) (g.W.Write.contents l.writer) w
    × (w ++ page_of l.next (drop l.at l.s) ≡ page_of l.fn.m l.s)

abbrev pub decreases-loop-next : goal.decreases-loop-next
decreases-loop-next g l = length l.s - l.at

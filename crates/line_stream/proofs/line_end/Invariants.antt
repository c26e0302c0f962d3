-- What the loop of `line_stream::line_end` keeps.
use Rattle.line_frame.specs.Begun.{line_length}
use lib.ListN.{drop}
use mathlib.Core.Path.{◌≡◌}
use Prim.Native.Nat.{◌+◌}
use Rattle.line_stream.proofs.line_end.Given as goal

abbrev pub invariant-loop-i : goal.invariant-loop-i
invariant-loop-i l = line_length l.s ≡ l.i + line_length (drop l.i l.s)

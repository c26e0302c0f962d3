-- What the loop of `line_stream::is_near` keeps.
use mathlib.Core.Path.{◌≡◌}
use lib.Dec.{ltb}
use Rattle.line_frame.specs.Begun.{line_length}
use Rattle.line_stream.proofs.is_near.Given as goal

abbrev pub invariant-loop-k : goal.invariant-loop-k
invariant-loop-k l = l.found ≡ ltb (line_length l.s) l.k

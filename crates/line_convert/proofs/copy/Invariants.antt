-- What the loop of `line_convert::copy` keeps.
use mathlib.Core.Path.{◌≡◌}
use Prim.Native.Nat.{◌+◌}
use lib.ListN.{drop}
use Rattle.line_fields.specs.Put.{put}
use Rattle.line_convert.proofs.copy.Given as goal

abbrev pub invariant-loop-i : goal.invariant-loop-i
invariant-loop-i l = put (drop l.i l.s) (l.at + l.i) l.out ≡ put l.s l.at l.initial.out

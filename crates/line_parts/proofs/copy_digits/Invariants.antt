-- What the loop of `line_parts::copy_digits` keeps.
use mathlib.Core.Path.{◌≡◌}
use Prim.Native.Nat.{◌+◌}
use lib.ListN.{drop}
use Rattle.line_fields.specs.Put.{put}
use Rattle.line_frame.specs.Sizes.{head_digits}
use Rattle.line_frame.specs.Hex.{values_of}
use Rattle.line_parts.proofs.copy_digits.Given as goal

abbrev pub invariant-loop-i : goal.invariant-loop-i
invariant-loop-i l = put (values_of (drop (head_digits + l.i) l.s)) l.i l.buf ≡ put (values_of (drop head_digits l.s)) 0 l.initial.buf

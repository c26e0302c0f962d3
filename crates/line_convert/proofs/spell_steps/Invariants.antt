-- What the loop of `line_convert::spell_steps` keeps.
use mathlib.Core.Path.{◌≡◌}
use Prim.Native.Nat.{◌+◌}
use lib.ListN.{drop}
use Rattle.line_frame.specs.Converted.{letters_of}
use Rattle.line_fields.specs.Put.{put}
use Rattle.line_convert.proofs.spell_steps.Given as goal

abbrev pub invariant-loop-i : goal.invariant-loop-i
invariant-loop-i l = put (drop l.i (letters_of l.steps)) (l.at + l.i) l.out ≡ put (letters_of l.steps) l.at l.initial.out

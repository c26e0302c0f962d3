-- What the loop of `line_fields::hex::spell` keeps.
use mathlib.Core.Path.{◌≡◌}
use Rattle.line_frame.specs.Hex.{hex_of}
use Rattle.line_fields.specs.Put.{put}
use Rattle.line_fields.proofs.hex.spell.Given as goal

abbrev pub invariant-loop-left : goal.invariant-loop-left
invariant-loop-left l = put (hex_of l.left l.rest) l.at l.out ≡ put (hex_of l.n l.v) l.at l.initial.out

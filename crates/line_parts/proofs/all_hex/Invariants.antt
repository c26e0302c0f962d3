-- What the loop of `line_parts::all_hex` keeps.
use mathlib.Core.Path.{◌≡◌}
use mathlib.Core.Bool.{◌&&◌}
use lib.ListN.{drop}
use Rattle.line_frame.specs.Hex.{all_hex}
use Rattle.line_parts.proofs.all_hex.Given as goal

abbrev pub invariant-loop-b : goal.invariant-loop-b
invariant-loop-b l = l.all && all_hex (drop l.b-index l.s) ≡ all_hex l.s

-- What the loop of `line_parts::spell_numbers` keeps.
use lib.ListN.{take}
use Rattle.line_frame.specs.Spelled.{numbers_line}
use Rattle.line_fields.specs.Put.{Wrote}
use Rattle.line_parts.proofs.spell_numbers.Given as goal

abbrev pub invariant-loop-x : goal.invariant-loop-x
invariant-loop-x l = Wrote (numbers_line (take l.x-index (take l.n l.xs))) l.at l.initial.out l.next l.out

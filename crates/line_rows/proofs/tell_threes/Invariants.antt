-- What the loop of `line_rows::tell_threes` keeps.
use Rattle.line_fields.specs.Put.{Wrote}
use Rattle.line_rows.specs.Numbers.{threes_told}
use Rattle.line_rows.proofs.tell_threes.Given as goal

abbrev pub invariant-loop-i : goal.invariant-loop-i
invariant-loop-i l = Wrote (threes_told l.i l.xs) l.at l.initial.out l.next l.out

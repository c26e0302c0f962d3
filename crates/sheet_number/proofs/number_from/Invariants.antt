-- What the loop of `sheet_number::number_from` keeps.
use Rattle.sheet_number.proofs.NumberedLaws.{Numbering}
use Rattle.sheet_number.proofs.number_from.Given as goal

abbrev pub invariant-loop-b : goal.invariant-loop-b
invariant-loop-b l = Numbering l.starts l.first l.s l.at l.initial.out l.begins l.n l.used l.b-index l.out

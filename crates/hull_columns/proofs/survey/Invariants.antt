-- What the loops of `hull_columns::survey` keep.
use Rattle.column_laws.proofs.SurveyLaws.{Surveyed}
use Rattle.hull_columns.proofs.survey.Given as goal

abbrev pub invariant-loop-d : goal.invariant-loop-d
invariant-loop-d l = Surveyed l.chain l.x l.west l.east l.d-index

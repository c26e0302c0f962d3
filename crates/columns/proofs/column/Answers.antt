-- `columns::column` meets its contract.
use Rattle.columns.proofs.StepLaws.{column-by}
use Rattle.columns.proofs.column.Goals as goal

pub returns : goal.returns
returns c = rw (c.from.ensures, c.from-2.ensures) (column-by c.args.x c.args.d c.requires.0)

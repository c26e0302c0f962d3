-- `columns::height` meets its contract.
use Rattle.columns.proofs.StepLaws.{row_by}
use Rattle.columns.proofs.height.Goals as goal

pub returns : goal.returns
returns c = rw (c.from.ensures, c.from-2.ensures) (row_by c.args.y c.args.d c.requires.0)

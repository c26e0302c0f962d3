-- `outline_links::opposite` meets its contract.
use mathlib.Core.Path.{sym}
use Rattle.grid.proofs.StepLaws.{back-mod}
use Rattle.outline_links.proofs.opposite.Goals as goal

pub returns : goal.returns
returns c = sym (back-mod c.args.d c.requires)

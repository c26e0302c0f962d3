-- `hull_columns::keep` meets its contract.
use mathlib.Core.Path.{ap}
use lib.ListN.{set}
use Rattle.hull_laws.specs.Lowest.{sink}
use Rattle.hull_columns.proofs.keep.Goals as goal

pub returns : goal.returns
unfolding sink
returns c =
    let a = c.args in
    ap (set a.ys.now a.c) c.min.ensures

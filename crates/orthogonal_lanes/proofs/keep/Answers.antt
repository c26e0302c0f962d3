-- `orthogonal_lanes::keep` meets its contract.
use mathlib.Core.Path.{ap}
use lib.ListN.{set}
use Rattle.hull_laws.specs.Lowest.{sink}
use Rattle.orthogonal_lanes.proofs.keep.Goals as goal

pub returns : goal.returns
unfolding sink
returns c = let a = c.args in ap (set a.a.now a.q) c.min.ensures

-- `convex_part::stands` meets its contract.
use Rattle.convex_laws.specs.Level.{level}
use native.Mathlib.Omega.{arith}
use Rattle.convex_part.proofs.stands.Goals as goal

pub above-requires : goal.above-requires
above-requires c = (omega arith, omega arith)

pub returns : goal.returns
unfolding level
returns c = c.above.ensures

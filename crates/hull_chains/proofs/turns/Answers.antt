-- `hull_chains::turns` meets its contract.
use native.Mathlib.Omega.{arith}
use Rattle.hull_laws.specs.Chain.{turns_at}
use Rattle.hull_chains.proofs.turns.Goals as goal

pub bends-requires : goal.bends-requires
bends-requires c = (omega arith, omega arith)

pub returns : goal.returns
unfolding turns_at
returns c = c.bends.ensures

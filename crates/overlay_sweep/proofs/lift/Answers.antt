-- `overlay_sweep::lift` meets its contract.
use Rattle.overlay_sweep.proofs.EndLaws.{lift_fits, lift_cast, lift-is}
use Rattle.overlay_sweep.proofs.lift.Goals as goal

pub overflow_add-result : goal.overflow_add-result
overflow_add-result c = lift_fits c.args.z c.requires

pub overflow_cast-result : goal.overflow_cast-result
overflow_cast-result c = lift_cast c.args.z c.requires

pub returns : goal.returns
returns c = lift-is c.args.z c.requires

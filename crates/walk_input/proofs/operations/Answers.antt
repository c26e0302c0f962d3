-- `walk_input::operations` meets its contract.
use native.Mathlib.Omega.{arith}
use Rattle.walk_input.proofs.JudgeLaws.{steps_fine}
use Rattle.walk_input.proofs.operations.Goals as goal

pub returns : goal.returns
returns c =
    let a = c.args in
    steps_fine 0 0 a.ops.now (omega arith) (omega arith)

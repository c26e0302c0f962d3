-- `convex_call::step_at` meets its contract.
use Rattle.convex_call.proofs.RoundLaws.{step_back, step_on}
use lib.ListN.{length}
use Prim.Native.Nat.{◌-◌}
use native.Mathlib.Omega.{arith}
use Rattle.convex_call.proofs.step_at.Goals as goal

pub overflow_add-result : goal.overflow_add-result
overflow_add-result c = omega (arith, c.requires.0.digits (length c.args.chain.now - 1 - c.args.i))

pub returns-then-back : goal.returns-then-back
returns-then-back c =
    step_back c.args.chain.now c.args.i c.requires.0 c.requires.1 c.args.back
    c.if-back.true

pub returns : goal.returns
returns c = step_on c.args.chain.now c.args.i c.args.back c.if-back.false

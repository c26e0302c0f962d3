-- `turns::fault` meets its contract.
use Rattle.std.proofs.Common.{sym, ◌∙◌, arith}
use Rattle.turns.proofs.FaultLaws.{fault_here, fault_later, fault_none}
use Rattle.turns.proofs.fault.Goals as goal

pub returns-then-d-gt3 : goal.returns-then-d-gt3
returns-then-d-gt3 c = sym (fault_here c.args.digits.now c.loop-i.i (omega arith) c.if-d-gt3.true) ∙ c.loop-i.invariant

pub loop-i-preserved : goal.loop-i-preserved
loop-i-preserved c =
    sym (fault_later c.args.digits.now c.loop-i.i (omega arith) c.if-d-gt3.false) ∙ c.loop-i.invariant

pub returns : goal.returns
returns c = sym (fault_none c.args.digits.now c.loop-i.i c.loop-i-test.false) ∙ c.loop-i.invariant

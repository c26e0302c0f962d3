-- `sheet_number::put_head` meets its contract.
use native.Mathlib.Omega.{arith}
use Rattle.sheet_number.proofs.NumberedLaws.{head_written, head_first}
use Rattle.sheet_number.proofs.put_head.Goals as goal

pub returns-then-line-gt0 : goal.returns-then-line-gt0
returns-then-line-gt0 c = head_written c.args.line c.args.out.now c.if-line-gt0.true

pub returns : goal.returns
returns c = head_first c.args.line (omega (arith, c.if-line-gt0.false)) c.copy.ensures

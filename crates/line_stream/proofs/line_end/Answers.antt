-- `line_stream::line_end` meets its contract.
use Rattle.line_stream.proofs.HoldLaws.{line_length_here, line_length-next, line_length_end}
use native.Mathlib.Omega.{arith}
use Rattle.line_stream.proofs.line_end.Goals as goal

pub returns-then-s-i-eq10 : goal.returns-then-s-i-eq10
returns-then-s-i-eq10 c = omega (arith, line_length_here c.args.s.now c.loop-i.i (omega arith) c.if-s-i-eq10.true)

pub loop-i-preserved : goal.loop-i-preserved
loop-i-preserved c = omega (arith, line_length-next c.args.s.now c.loop-i.i (omega arith) c.if-s-i-eq10.false)

pub returns : goal.returns
returns c = omega (arith, line_length_end c.args.s.now c.loop-i.i (omega arith))

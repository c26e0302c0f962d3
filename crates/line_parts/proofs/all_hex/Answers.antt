-- `line_parts::all_hex` meets its contract.
use native.Mathlib.Omega.{arith}
use Rattle.line_fields.proofs.DigitLaws.{all_hex-next, all_hex-all}
use Rattle.line_parts.proofs.all_hex.Goals as goal

pub loop-b-preserved : goal.loop-b-preserved
loop-b-preserved c =
    all_hex-next c.args.s.now c.loop-b.b-index c.loop-b.all c.is_hex-all.result c.loop-b.invariant (omega arith) c.is_hex-all.ensures

pub returns : goal.returns
returns c =
    all_hex-all c.args.s.now c.loop-b.b-index c.loop-b.all c.loop-b.invariant (omega arith)

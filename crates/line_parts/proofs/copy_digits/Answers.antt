-- `line_parts::copy_digits` meets its contract.
use Prim.Native.Nat.{◌+◌}
use native.Mathlib.Omega.{arith}
use Rattle.line_frame.proofs.HexLaws.{all_hex-at}
use Rattle.line_fields.proofs.DigitLaws.{values_next, values_done}
use Rattle.line_frame.specs.Sizes.{head_digits}
use Rattle.line_parts.proofs.copy_digits.Goals as goal

pub value-requires : goal.value-requires
value-requires c = all_hex-at c.args.s.now (head_digits + c.loop-i.i) c.requires.s_value (omega arith)

pub loop-i-preserved : goal.loop-i-preserved
loop-i-preserved c =
    values_next c.args.s.now c.loop-i.buf _ c.loop-i.i c.value.result (omega arith) (omega arith) c.value.ensures.0 c.loop-i.invariant

pub returns : goal.returns
returns c = values_done c.args.s.now c.loop-i.buf _ c.loop-i.i (omega arith) c.loop-i.invariant

-- `line_parts::pair` meets its contract.
use Prim.Native.Nat.{◌+◌}
use native.Mathlib.Omega.{arith}
use Rattle.line_frame.proofs.HexLaws.{all_hex-at}
use Rattle.line_parts.proofs.pair.Goals as goal

pub value-requires : goal.value-requires
value-requires c = all_hex-at c.args.s.now c.args.i c.requires.0 (omega arith)

pub value-requires-2 : goal.value-requires-2
value-requires-2 c = all_hex-at c.args.s.now (c.args.i + 1) c.requires.0 (omega arith)

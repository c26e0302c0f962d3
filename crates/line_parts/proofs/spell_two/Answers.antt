-- `line_parts::spell_two` meets its contract.
use native.Mathlib.Omega.{arith}
use Rattle.line_frame.proofs.HexLaws.{length-hex_of}
use Rattle.line_parts.proofs.WroteLaws.{wrote_two}
use Rattle.line_parts.proofs.spell_two.Goals as goal

pub spell-requires : goal.spell-requires
spell-requires c =
    let a = c.args in
    omega (arith, length-hex_of a.n a.v)

pub returns : goal.returns
returns c =
    let a = c.args in
    wrote_two a.n a.v a.m a.w a.at c.spell-next.ensures c.spell.ensures (omega arith)

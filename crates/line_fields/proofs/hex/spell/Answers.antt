-- `line_fields::hex::spell` meets its contract.
use native.Mathlib.Omega.{arith}
use Rattle.line_fields.proofs.DigitLaws.{spell_next, spell_done}
use Rattle.line_fields.proofs.hex.spell.Goals as goal

pub loop-left-preserved : goal.loop-left-preserved
loop-left-preserved c =
    spell_next c.loop-left.left c.loop-left.rest c.args.at c.letter.result c.loop-left.out _ (omega arith) (omega arith) c.letter.ensures c.loop-left.invariant

pub returns : goal.returns
returns c =
    let a = c.args in
    spell_done a.n a.v c.loop-left.left c.loop-left.rest a.at c.loop-left.out a.out.now c.loop-left-test.false c.loop-left.invariant

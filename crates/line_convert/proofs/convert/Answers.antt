-- `line_convert::convert` meets its contract.
use native.Mathlib.Omega.{arith}
use Rattle.line_convert.proofs.ConvertLaws.{convert_short, convert_told}
use Rattle.line_convert.proofs.convert.Goals as goal

pub returns-then-out-line : goal.returns-then-out-line
returns-then-out-line c =
    let a = c.args in
    convert_short a.line.now a.out.now (omega (arith, c.if-out-line.true))

pub returns : goal.returns
returns c =
    let a = c.args in
    convert_told a.line.now a.out.now (omega (arith, c.if-out-line.false)) c.convert_line.ensures

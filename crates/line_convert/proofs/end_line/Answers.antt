-- `line_convert::end_line` meets its contract.
use native.Mathlib.Omega.{arith}
use Rattle.line_convert.proofs.ConvertLaws.{ended-long, ended-short}
use Rattle.line_convert.proofs.end_line.Goals as goal

pub returns-then-h-gt-MOST_LINE : goal.returns-then-h-gt-MOST_LINE
returns-then-h-gt-MOST_LINE c =
    let a = c.args in
    ended-long a.h.now a.at a.out.now (omega (arith, c.if-h-gt-MOST_LINE.true))

pub returns : goal.returns
returns c =
    let a = c.args in
    ended-short a.h.now (omega (arith, c.if-h-gt-MOST_LINE.false)) c.convert_line.ensures

-- `line_convert::pass_on` meets its contract.
use native.Mathlib.Omega.{arith}
use Rattle.line_convert.proofs.ConvertLaws.{passed-long, passed-short, passed_begun}
use Rattle.line_convert.proofs.pass_on.Goals as goal

pub returns-then-h-gt-MOST_LINE : goal.returns-then-h-gt-MOST_LINE
returns-then-h-gt-MOST_LINE c =
    let a = c.args in
    passed-long a.h.now a.r.now (omega (arith, c.if-h-gt-MOST_LINE.true)) c.copy.ensures

pub returns-then-h-r-le-MOST_LINE : goal.returns-then-h-r-le-MOST_LINE
returns-then-h-r-le-MOST_LINE c =
    let a = c.args in
    passed-short a.h.now a.r.now a.at a.out.now (omega (arith, c.if-h-r-le-MOST_LINE.true))

pub returns : goal.returns
returns c =
    passed_begun c.args.h.now c.args.r.now (omega (arith, c.if-h-gt-MOST_LINE.false))
    (omega (arith, c.if-h-r-le-MOST_LINE.false)) (omega (arith, c.requires)) c.copy-next.ensures c.copy-2.ensures

-- `convex_call::decide` meets its contract.
use native.Mathlib.Omega.{arith}
use Rattle.convex_call.proofs.CallLaws.{box_few, girth_no}
use Rattle.convex_call.proofs.decide.Goals as goal

pub overflow_add-width : goal.overflow_add-width
overflow_add-width c =
    let f = box_few c.args.chain.now c.requires.0 c.args.width c.args.height c.requires.1 c.requires.2 in
    record { fits = omega (arith, f.0, f.1) }

pub overflow_mul-width : goal.overflow_mul-width
overflow_mul-width c =
    let f = box_few c.args.chain.now c.requires.0 c.args.width c.args.height c.requires.1 c.requires.2 in
    record { fits = omega (arith, f.0, f.1) }

pub returns-then-width-height : goal.returns-then-width-height
returns-then-width-height c =
    girth_no c.args.chain.now c.requires.0 c.args.width c.args.height c.requires.1 c.requires.2
    c.if-width-height.true

pub returns : goal.returns
returns c = λ p r. c.is_convex.ensures p r.closed

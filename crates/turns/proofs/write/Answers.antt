-- `turns::write` meets its contract.
use Rattle.std.proofs.Common.{arith}
use Rattle.lists.proofs.BelowLaws.{below_get_d}
use Rattle.turns.proofs.ConvertLaws.{one_more, all_done}
use Rattle.turns.proofs.write.Goals as goal

pub digit-y-requires : goal.digit-y-requires
digit-y-requires c =
    (omega (arith, c.loop-i.invariant.small), below_get_d 4 c.args.digits.now c.loop-i.i c.requires.0 (omega arith))

pub loop-i-preserved : goal.loop-i-preserved
loop-i-preserved c =
    let ds = c.args.digits.now in
    let y = c.digit-y in
    let b = below_get_d 4 ds c.loop-i.i c.requires.0 (omega arith) in
    one_more c.args.way ds c.loop-i.out c.loop-i.last c.loop-i.i y.result
    c.step_at-last.result (omega arith) y.ensures.0 c.step_at-last.ensures b y.ensures.1 c.loop-i.invariant

pub returns : goal.returns
returns c =
    all_done c.args.way c.args.digits.now c.loop-i.out c.loop-i.last c.loop-i.i
    c.loop-i-test.false c.requires.0 c.loop-i.invariant

-- `chain_judge::fault` meets its contract.
use mathlib.Core.Path.{sym}
use Rattle.steps.proofs.ChainLaws.{judging_start, judging_step, judging_bad, judging_long, judging_good}
use Rattle.chain_judge.proofs.fault.Goals as goal

pub loop-i-init : goal.loop-i-init
loop-i-init c = judging_start c.args.chain.now

pub returns-then-d-gt3 : goal.returns-then-d-gt3
returns-then-d-gt3 c =
    let l = c.loop-i in
    sym (judging_bad c.args.chain.now l.i l.invariant c.loop-i-test.true
    c.if-d-gt3.true)

pub returns-then-i-eq-MOST_STEPS : goal.returns-then-i-eq-MOST_STEPS
returns-then-i-eq-MOST_STEPS c =
    let l = c.loop-i in
    sym (judging_long c.args.chain.now l.i l.invariant c.loop-i-test.true
    c.if-d-gt3.false c.if-i-eq-MOST_STEPS.true)

pub loop-i-preserved : goal.loop-i-preserved
loop-i-preserved c =
    let l = c.loop-i in
    judging_step c.args.chain.now l.i l.invariant c.loop-i-test.true
    c.if-d-gt3.false c.if-i-eq-MOST_STEPS.false

pub returns : goal.returns
returns c = let l = c.loop-i in sym (judging_good c.args.chain.now l.i l.invariant c.loop-i-test.false)

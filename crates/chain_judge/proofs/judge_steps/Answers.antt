-- `chain_judge::judge_steps` meets its contract.
use native.Mathlib.Omega.{arith}
use mathlib.Core.Path.{sym}
use Rattle.order.proofs.MostLaws.{highest_most}
use Rattle.steps.proofs.ChainLaws.{no_fault}
use Rattle.chain_judge.proofs.judge_steps.Goals as goal

pub returns : goal.returns
returns c =
    let s = c.args.chain.now in
    sym (no_fault 0 s (omega (arith, c.if-chain-gt-MOST_STEPS.false))
    (λ k. omega (arith, c.highest.ensures, highest_most s k, c.if-highest-gt3.false)))

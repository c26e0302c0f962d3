-- `turns::judge_digits` meets its contract.
use Rattle.std.proofs.Common.{sym, arith}
use Rattle.order.proofs.MostLaws.{highest_most}
use Rattle.turns.proofs.FaultLaws.{no_fault}
use Rattle.turns.proofs.judge_digits.Goals as goal

pub returns : goal.returns
returns c =
    let s = c.args.digits.now in
    sym (no_fault 0 s (λ k. omega (arith, c.highest.ensures, highest_most s k, c.if-highest-gt3.false)))

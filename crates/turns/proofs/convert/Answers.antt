-- `turns::convert` meets its contract.
use Rattle.std.proofs.Common.{length, sym, ◌∙◌}
use Rattle.steps.proofs.TurnPromiseLaws.{turns_judged_good}
use Rattle.turns.proofs.convert.Goals as goal

pub write-requires : goal.write-requires
write-requires c =
    let good = turns_judged_good c.args.digits.now (length c.args.out.now)
    (sym c.judge.ensures ∙ c.in_ok-judge.was) in
    (good.digits, good.long)

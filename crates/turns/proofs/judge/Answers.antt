-- `turns::judge` meets its contract.
use Rattle.std.proofs.Common.{sym, ◌∙◌, arith}
use Rattle.steps.proofs.TurnPromiseLaws.{judged_many, judged-room, judged_digits}
use Rattle.turns.proofs.judge.Goals as goal

pub returns-then-digits-gt-MOST_INPUT : goal.returns-then-digits-gt-MOST_INPUT
returns-then-digits-gt-MOST_INPUT c = sym (judged_many c.args.digits.now c.args.size c.if-digits-gt-MOST_INPUT.true)

pub returns-then-size-digits : goal.returns-then-size-digits
returns-then-size-digits c = sym (judged-room c.args.digits.now c.args.size c.if-digits-gt-MOST_INPUT.false c.if-size-digits.true)

pub returns : goal.returns
returns c =
    c.judge_digits.ensures ∙ sym
    (judged_digits c.args.digits.now c.args.size c.if-digits-gt-MOST_INPUT.false (omega arith))

-- `line_reply::reply` meets its contract.
use native.Mathlib.Omega.{arith}
use Rattle.line_reply.proofs.ReplyLaws.{reply_short, reply_told}
use Rattle.line_reply.proofs.reply.Goals as goal

pub returns-then-out-lt-MOST_ANSWER : goal.returns-then-out-lt-MOST_ANSWER
returns-then-out-lt-MOST_ANSWER c =
    let a = c.args in
    reply_short a.line.now a.out.now (omega (arith, c.if-out-lt-MOST_ANSWER.true))

pub returns : goal.returns
returns c =
    let a = c.args in
    reply_told a.line.now a.out.now c.if-out-lt-MOST_ANSWER.false c.answer_line.ensures.wrote

-- `convex_call::tell` meets its contract.
use Rattle.room_judge.proofs.JudgeLaws.{good_steps}
use Rattle.convex_call.proofs.tell.Goals as goal

pub enclose-requires : goal.enclose-requires
enclose-requires c =
    let a = c.args in
    let j = c.judge in
    good_steps a.start a.chain.now j.result j.ensures c.in_ok-judge.was

pub tell_in-requires : goal.tell_in-requires
tell_in-requires c =
    let a = c.args in
    let j = c.judge in
    (good_steps a.start a.chain.now j.result j.ensures c.in_ok-judge.was, c.enclose.ensures)

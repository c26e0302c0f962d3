-- `room_judge::judge` meets its contract.
use Rattle.std.proofs.lemmas.Result.{err_from_is_err_and}
use Rattle.room_judge.proofs.JudgeLaws.{told_refused, told_room, good_steps}
use Rattle.room_judge.proofs.judge.Goals as goal

pub is_room-requires : goal.is_room-requires
is_room-requires c =
    let a = c.args in
    let j = c.judge in
    good_steps a.start a.chain.now j.result j.ensures c.in_ok-judge.was

pub returns : goal.returns
returns c =
    let a = c.args in
    let j = c.judge in
    told_room a.start a.chain.now j.result j.ensures c.is_room.result c.told.result
    c.in_ok-judge.was c.is_room.ensures c.told.ensures

pub returns-in_err-judge : goal.returns-in_err-judge
returns-in_err-judge c =
    let a = c.args in
    let j = c.judge in
    let p = err_from_is_err_and c.from_residual.result c.from_residual.ensures.1 in
    rw (p.1, p.2) (told_refused a.start a.chain.now j.result j.ensures c.in_err-judge.field-0.0 c.in_err-judge.was)

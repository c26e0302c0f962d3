-- `room_judge::told` meets its contract.
use Rattle.room_judge.proofs.JudgeLaws.{not_room_lem}
use Rattle.room_judge.proofs.told.Goals as goal

pub returns : goal.returns
returns c = not_room_lem c.args.room c.if-room.false

-- `convex_call::tell_in` meets its contract.
use Rattle.convex_call.proofs.CallLaws.{call_open, call_room}
use Rattle.convex_call.proofs.tell_in.Goals as goal

pub returns-then-not-is_room_in : goal.returns-then-not-is_room_in
returns-then-not-is_room_in c =
    let v = c.is_room_in in
    call_open c.args.chain.now v.result v.ensures c.if-not-is_room_in.true

pub returns : goal.returns
returns c =
    let v = c.is_room_in in
    let d = c.decide in
    call_room c.args.chain.now v.result v.ensures c.if-not-is_room_in.false d.result d.ensures c.from.result
    c.from.ensures

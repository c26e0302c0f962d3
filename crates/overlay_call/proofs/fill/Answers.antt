-- `overlay_call::fill` meets its contract.
use native.Mathlib.Omega.{arith}
use Rattle.row_call.proofs.CallLaws.{good_walled}
use Rattle.overlay_call.proofs.ListLaws.{room_spans, room_lists}
use Rattle.overlay_call.proofs.fill.Goals as goal

pub overflow_mul-n : goal.overflow_mul-n
overflow_mul-n c =
    let r = c.args.room.now in
    record { fits = omega (arith, c.vertical.ensures.1, (good_walled r.start r.chain.now r.judged).few) }

pub write-requires : goal.write-requires
write-requires c =
    let v = c.vertical in
    let r = c.args.room.now in
    omega (arith, c.requires, v.ensures.1, room_spans r.start r.chain.now r.judged v.result v.ensures.0 v.ensures.1)

pub returns : goal.returns
returns c =
    let v = c.vertical in
    let r = c.args.room.now in
    room_lists r.start r.chain.now r.judged v.result v.ensures.0 v.ensures.1
    c.args.list.now c.write.new.out c.requires c.write.ensures c.write.auto.out

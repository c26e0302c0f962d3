-- `row_call::list_room` meets its contract.
use native.Mathlib.Omega.{arith}
use Rattle.row_call.proofs.CallLaws.{good_walled, spans_half, call_short, call_listed}
use Rattle.row_call.proofs.list_room.Goals as goal

pub overflow_mul-n : goal.overflow_mul-n
overflow_mul-n c =
    record { fits = omega (arith, c.vertical-n.ensures.1, (good_walled c.args.room.now.start c.args.room.now.chain.now c.args.room.now.judged).few) }

pub returns-then-out-n : goal.returns-then-out-n
returns-then-out-n c =
    call_short c.args.room.now.start c.args.room.now.chain.now c.args.room.now.judged c.vertical-n.result
    c.vertical-n.ensures.0 c.args.out.now c.if-out-n.true

pub write-requires : goal.write-requires
write-requires c =
    let v = c.vertical-n in
    omega (arith, spans_half c.args.room.now.start c.args.room.now.chain.now c.args.room.now.judged v.result v.ensures.0)

pub returns : goal.returns
returns c =
    let v = c.vertical-n in
    call_listed c.args.room.now.start c.args.room.now.chain.now c.args.room.now.judged v.result v.ensures.0
    c.args.out.now c.write.new.out (omega arith) c.write.ensures

-- `overlay_call::list_rooms` meets its contract.
use native.Mathlib.Omega.{arith}
use Rattle.row_call.proofs.CallLaws.{good_walled}
use Rattle.overlay_call.proofs.list_rooms.Goals as goal

pub list_sized-requires-2 : goal.list_sized-requires-2
list_sized-requires-2 c =
    let a = (good_walled c.args.one.now.start c.args.one.now.chain.now c.args.one.now.judged).few in
    let b = (good_walled c.args.other.now.start c.args.other.now.chain.now c.args.other.now.judged).few in
    (omega (arith, a), omega (arith, b), omega arith)

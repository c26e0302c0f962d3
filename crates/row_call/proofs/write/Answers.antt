-- `row_call::write` meets its contract.
use native.Mathlib.Omega.{arith}
use Rattle.row_call.proofs.CallLaws.{good_walled}
use Rattle.row_call.proofs.write.Goals as goal

pub list_sized-requires-else-steps-le-WIDER : goal.list_sized-requires-else-steps-le-WIDER
list_sized-requires-else-steps-le-WIDER c =
    let r = c.args.room.now in
    (omega (arith, (good_walled r.start r.chain.now r.judged).few), omega arith, c.requires)

-- `orthogonal_call::outline_room` meets its contract.
use native.Mathlib.Omega.{arith}
use Rattle.orthogonal_call.proofs.CallLaws.{accepted}
use Rattle.orthogonal_call.proofs.outline_room.Goals as goal

pub outline_sized-requires-2 : goal.outline_sized-requires-2
outline_sized-requires-2 c =
    let s = c.args.site.now in
    (omega (arith, (accepted s.start s.chain.now s.g s.judged).few), omega arith)

-- `row_call::list_sized` meets its contract.
use native.Mathlib.Omega.{arith}
use lib.ListN.{length}
use Rattle.row_call.proofs.CallLaws.{fresh}
use Rattle.row_call.proofs.list_sized.Goals as goal

pub list_in-requires : goal.list_in-requires
list_in-requires g c =
    let m = c.start-m in
    let p = c.requires in
    (fresh (length c.args.room.now.chain.now) m.result g.row.N m.ensures.0 (omega (arith, m.ensures.1, p.0)) p.1 (omega (arith, p.0)), p.2)

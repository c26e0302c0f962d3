-- `room_threads::told_sized` meets its contract.
use native.Mathlib.Omega.{arith}
use mathlib.Core.Path.{refl}
use Prim.Native.Nat.{◌*◌}
use Rattle.grid.specs.Grid.{origin}
use Rattle.room_thread_laws.proofs.RoomLaws.{closed_stays, fresh, told_closed}
use Rattle.room_threads.proofs.told_sized.Goals as goal

pub scattered-requires : goal.scattered-requires
scattered-requires g c =
    let n = g.row.SIZE in
    let a = c.args in
    let m = c.start-m in
    let s = closed_stays origin a.chain.now m.result ((c.requires.3 origin).0 refl) m.ensures.0 in
    (fresh a.chain.now m.result n n (s n (omega (arith, m.ensures.1)) (omega arith)) (omega arith) (omega arith), omega arith, c.requires.4, s (2 * m.result) (omega arith) (omega (arith, m.ensures.1)), omega (arith, m.ensures.1))

pub returns : goal.returns
returns g c =
    let a = c.args in
    let m = c.start-m in
    told_closed a.chain.now m.result c.scattered.result c.requires.0 c.requires.3 m.ensures.0 c.scattered.ensures

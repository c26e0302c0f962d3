-- `room_map::lone_sized` meets its contract.
use Rattle.std.proofs.Common.{arith}
use Rattle.room_map.proofs.MapLaws.{blank-map}
use Rattle.room_map.proofs.lone_sized.Goals as goal

pub lone-requires : goal.lone-requires
lone-requires g c =
    let a = c.args in
    let s = c.wrapping_neg in
    blank-map a.chain.now a.from a.w g.row.SIZE c.requires.0 s.result s.ensures (omega (arith, s.type_inv))

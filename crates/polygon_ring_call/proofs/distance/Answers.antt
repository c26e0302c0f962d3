-- `polygon_ring_call::distance` meets its contract.
use Rattle.polygon_ring_laws.proofs.AxisLaws.{apart-is, apart_le}
use Rattle.polygon_ring_laws.proofs.SignLaws.{back_le}
use native.Mathlib.Omega.{arith}
use Rattle.polygon_ring_call.proofs.distance.Goals as goal

pub gap-requires : goal.gap-requires
gap-requires c = (back_le c.args.a.0 c.requires.0.x, back_le c.args.b.0 c.requires.1.x)

pub gap-requires-2 : goal.gap-requires-2
gap-requires-2 c = (back_le c.args.a.1 c.requires.0.y, back_le c.args.b.1 c.requires.1.y)

pub overflow_add-result : goal.overflow_add-result
overflow_add-result c =
    record { fits = omega (arith, apart-is c.args.a c.args.b c.requires.0 c.requires.1 c.gap.result c.gap-2.result c.gap.ensures c.gap-2.ensures, apart_le c.args.a c.args.b c.requires.0 c.requires.1) }

pub returns : goal.returns
returns c =
    apart-is c.args.a c.args.b c.requires.0 c.requires.1 c.gap.result c.gap-2.result
    c.gap.ensures c.gap-2.ensures

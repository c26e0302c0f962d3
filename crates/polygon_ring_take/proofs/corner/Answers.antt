-- `polygon_ring_take::corner` meets its contract.
use native.Mathlib.Omega.{arith}
use lib.ListN.{length-take, length-drop}
use Rattle.polygon_ring_laws.proofs.PointLaws.{point_parts, point_corner}
use Rattle.polygon_ring_take.proofs.corner.Goals as goal

pub known-x-requires : goal.known-x-requires
known-x-requires c = (simp length-take (omega (arith, c.requires.0)), (point_parts c.args.little c.args.s.now c.requires.1).0)

pub known-y-requires : goal.known-y-requires
known-y-requires c =
    (simp (length-take, length-drop) (omega (arith, c.requires.0)), (point_parts c.args.little c.args.s.now c.requires.1).1)

pub returns : goal.returns
returns c =
    point_corner c.args.little c.args.s.now c.known-x.result c.known-y.result
    c.known-x.ensures c.known-y.ensures

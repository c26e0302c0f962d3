-- `polygon_ring_call::Points::later` meets its contract.
use native.Mathlib.Omega.{arith}
use mathlib.Core.Path.{◌∙◌}
use Rattle.answer.specs.Limits.{farthest}
use Rattle.polygon_ring_laws.proofs.RingLaws.{point_is, point_numbers, later-is}
use Rattle.polygon_ring_call.proofs.Points.later.Goals as goal

pub judge-requires : goal.judge-requires
judge-requires c = let n = point_numbers c.args.self.now.little _ c.point.result c.point.ensures in (omega arith, n.0, n.1)

pub returns : goal.returns
returns c =
    point_is farthest c.args.self.now.little _ c.judge.result c.point.result c.point.ensures
    c.judge.ensures ∙ later-is c.args.self.now.little c.args.self.now.bytes.now c.args.i c.requires.0

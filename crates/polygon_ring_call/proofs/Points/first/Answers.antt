-- `polygon_ring_call::Points::first` meets its contract.
use native.Mathlib.Omega.{arith}
use mathlib.Core.Path.{◌∙◌}
use Rattle.answer.specs.Limits.{most_start}
use Rattle.polygon_ring_laws.proofs.RingLaws.{point_is, point_numbers, first-is}
use Rattle.polygon_ring_call.proofs.Points.first.Goals as goal

pub judge-requires : goal.judge-requires
judge-requires c = let n = point_numbers c.args.self.now.little _ c.point.result c.point.ensures in (omega arith, n.0, n.1)

pub returns : goal.returns
returns c =
    point_is most_start c.args.self.now.little c.args.self.now.bytes.now c.judge.result c.point.result
    c.point.ensures c.judge.ensures ∙ first-is c.args.self.now.little c.args.self.now.bytes.now

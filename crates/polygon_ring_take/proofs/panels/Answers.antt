-- `polygon_ring_take::panels` meets its contract.
use mathlib.Core.Path.{ap}
use Prim.Native.Nat.{ℕ, ◌/◌, ◌^◌}
use native.Mathlib.Omega.{arith}
use Rattle.polygon.specs.Coordinate.{scale}
use Rattle.polygon_ring_laws.specs.Fields.{places_in}
use Rattle.polygon_ring_laws.proofs.FieldLaws.{reach_range}
use Rattle.polygon_ring_take.proofs.panels.Goals as goal

pub overflow_sub-result : goal.overflow_sub-result
overflow_sub-result c = omega (arith, (reach_range c.args.size c.requires).1)

pub overflow_shr-result : goal.overflow_shr-result
overflow_shr-result c = omega (arith, (reach_range c.args.size c.requires).0)

pub returns : goal.returns
returns c = ap (λ (d : ℕ). d / 2 ^ places_in c.args.size / scale) c.digits.ensures

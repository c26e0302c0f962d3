-- `polygon_ring_take::is_all` meets its contract.
use mathlib.Core.Path.{ap₂}
use native.Mathlib.Omega.{arith}
use lib.Dec.{eqb}
use Rattle.polygon_ring_laws.proofs.FieldLaws.{reach_range, panels_most, panels_back}
use Rattle.polygon_ring_take.proofs.is_all.Goals as goal

pub overflow_mul-result : goal.overflow_mul-result
overflow_mul-result c = omega (arith, c.requires.1, panels_most c.args.size)

pub overflow_sub-result : goal.overflow_sub-result
overflow_sub-result c = omega (arith, (reach_range c.args.size c.requires.0).1)

pub overflow_shl-result : goal.overflow_shl-result
overflow_shl-result c = omega (arith, (reach_range c.args.size c.requires.0).0)

pub returns : goal.returns
returns c = ap₂ eqb (panels_back c.args.size c.args.n c.requires.1) c.digits.ensures

-- `convex_part::depth` meets its contract.
use native.Mathlib.Omega.{arith}
use mathlib.Core.Bool.{not}
use lib.Dec.{eqb}
use Rattle.convex_part.proofs.PassLaws.{test_le, depth_by}
use Rattle.convex_part.proofs.depth.Goals as goal

pub overflow_sub-result : goal.overflow_sub-result
overflow_sub-result c = omega (arith, test_le (not (eqb c.args.d 0)))

pub returns : goal.returns
returns c = omega (arith, depth_by c.args.y c.args.d)

-- `convex_part::column` meets its contract.
use native.Mathlib.Omega.{arith}
use lib.Dec.{eqb}
use Rattle.convex_part.proofs.PassLaws.{test_le, column-by}
use Rattle.convex_part.proofs.column.Goals as goal

pub overflow_add-result : goal.overflow_add-result
overflow_add-result c = omega (arith, test_le (eqb c.args.d 0))

pub returns : goal.returns
returns c = omega (arith, column-by c.args.k c.args.d)

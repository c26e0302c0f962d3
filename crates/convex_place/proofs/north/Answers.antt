-- `convex_place::north` meets its contract.
use native.Mathlib.Omega.{arith}
use lib.Dec.{eqb}
use Rattle.convex_place.proofs.SumLaws.{times_le, north-by}
use Rattle.convex_place.proofs.north.Goals as goal

pub overflow_mul-result : goal.overflow_mul-result
overflow_mul-result c = rw c.from.ensures (omega (arith, times_le c.args.x (eqb c.args.d 1)))

pub returns : goal.returns
returns c = rw c.from.ensures (north-by c.args.x c.args.d)

-- `convex_place::south` meets its contract.
use native.Mathlib.Omega.{arith}
use lib.Dec.{ltb}
use Rattle.convex_place.proofs.SumLaws.{times_le, south_by}
use Rattle.convex_place.proofs.south.Goals as goal

pub overflow_mul-result : goal.overflow_mul-result
overflow_mul-result c = rw c.from.ensures (omega (arith, times_le c.args.x (ltb 2 c.args.d)))

pub returns : goal.returns
returns c = rw c.from.ensures (south_by c.args.x c.args.d)

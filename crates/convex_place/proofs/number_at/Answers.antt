-- `convex_place::number_at` meets its contract.
use native.Mathlib.Omega.{arith}
use mathlib.Core.Path.{ap}
use Rattle.convex_laws.specs.Place.{rank}
use Rattle.convex_place.proofs.FindLaws.{rank_le}
use Rattle.convex_place.proofs.number_at.Goals as goal

pub overflow_mul-result : goal.overflow_mul-result
overflow_mul-result c = let a = c.args in omega (arith, rank_le a.turn a.x c.from.result c.requires.0 (omega arith))

pub overflow_add-result : goal.overflow_add-result
overflow_add-result c = let a = c.args in omega (arith, rank_le a.turn a.x c.from.result c.requires.0 (omega arith))

pub returns : goal.returns
returns c = let a = c.args in omega (arith, ap (rank a.turn a.x) c.from.ensures)

-- `hull_corners::shifted` meets its contract.
use native.Mathlib.Omega.{arith}
use mathlib.Core.Path.{◌≡◌}
use lib.IntN.{pos, ◌+ℤ◌, ◌-ℤ◌}
use mir.Syntax.{w32}
use mir.Val.{SFits, to_z}
use mir.Facts.{to_z-of_z, to_z_pos}
use Rattle.column_laws.specs.Columns.{middle}
use Rattle.int_laws.proofs.RangeLaws.{abs+, abs-, sfits_abs}
use Rattle.hull_corners.proofs.shifted.Reads as reads
use Rattle.hull_corners.proofs.shifted.Lts as lts
use Rattle.hull_corners.proofs.shifted.Goals as goal

steps : (c : lts.Start reads.Pre reads.Post) → to_z w32 c.args.n ≡ pos c.args.n
steps c = to_z_pos w32 (omega arith)

less : (c : lts.Start reads.Pre reads.Post) → SFits w32 (c.args.z -ℤ pos middle)
less c = sfits_abs w32 (c.args.z -ℤ pos middle) (omega (arith, abs- c.args.z (pos middle)))

sum : (c : lts.Start reads.Pre reads.Post) → SFits w32 ((c.args.z -ℤ pos middle) +ℤ pos c.args.n)
sum c = sfits_abs w32 ((c.args.z -ℤ pos middle) +ℤ pos c.args.n) (omega (arith, abs+ (c.args.z -ℤ pos middle) (pos c.args.n), abs- c.args.z (pos middle)))

pub overflow_sub-result : goal.overflow_sub-result
overflow_sub-result c = simp (to_z-of_z c.ranges.z) (less c)

pub overflow_add-result : goal.overflow_add-result
overflow_add-result c = simp (to_z-of_z c.ranges.z, steps c, to_z-of_z (less c)) (sum c)

pub returns : goal.returns
returns c = simp (to_z-of_z c.ranges.z, steps c, to_z-of_z (less c), to_z-of_z (sum c))

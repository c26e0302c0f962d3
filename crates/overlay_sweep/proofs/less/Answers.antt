-- `overlay_sweep::less` meets its contract.
use native.Mathlib.Omega.{arith}
use lib.IntN.{pos, ◌-ℤ◌, -ℤ_one}
use mir.Facts.{to_z-of_z}
use mir.Val.{SFits}
use mir.Syntax.{w32}
use Rattle.int_laws.proofs.RangeLaws.{abs-, sfits_abs}
use Rattle.overlay_sweep.proofs.less.Reads as reads
use Rattle.overlay_sweep.proofs.less.Lts as lts
use Rattle.overlay_sweep.proofs.less.Goals as goal

sum : (c : lts.Start reads.Pre reads.Post) → SFits w32 (c.args.x -ℤ pos 1)
sum c = sfits_abs w32 (c.args.x -ℤ pos 1) (omega (arith, abs- c.args.x (pos 1), c.requires))

pub overflow_sub-result : goal.overflow_sub-result
overflow_sub-result c = simp (to_z-of_z c.ranges.x) (sum c)

pub returns : goal.returns
returns c = simp (to_z-of_z c.ranges.x, to_z-of_z (sum c)) (-ℤ_one c.args.x)

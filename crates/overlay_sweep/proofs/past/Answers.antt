-- `overlay_sweep::past` meets its contract.
use native.Mathlib.Omega.{arith}
use Prim.Native.Nat.{◌%◌}
use lib.IntN.{pos, ◌+ℤ◌}
use mir.Facts.{to_z-of_z, to_z_pos}
use mir.Val.{SFits}
use mir.Syntax.{w32}
use Rattle.int_laws.proofs.RangeLaws.{abs+, sfits_abs}
use Rattle.overlay_sweep.proofs.past.Reads as reads
use Rattle.overlay_sweep.proofs.past.Lts as lts
use Rattle.overlay_sweep.proofs.past.Goals as goal

sum : (c : lts.Start reads.Pre reads.Post) → SFits w32 (c.args.x +ℤ pos (c.args.i % 2))
sum c = sfits_abs w32 (c.args.x +ℤ pos (c.args.i % 2)) (omega (arith, abs+ c.args.x (pos (c.args.i % 2)), c.requires))

pub overflow_add-result : goal.overflow_add-result
overflow_add-result c = simp (to_z-of_z c.ranges.x, to_z_pos w32 {n = c.args.i % 2} (omega arith)) (sum c)

pub returns : goal.returns
returns c = simp (to_z-of_z c.ranges.x, to_z_pos w32 {n = c.args.i % 2} (omega arith), to_z-of_z (sum c))

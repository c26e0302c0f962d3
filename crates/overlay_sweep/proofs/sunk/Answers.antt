-- `overlay_sweep::sunk` meets its contract.
use native.Mathlib.Omega.{arith}
use mathlib.Core.Path.{◌≡◌}
use lib.IntN.{pos, ◌-ℤ◌}
use mir.Facts.{to_z-of_z, to_z_pos}
use mir.Val.{SFits, to_z}
use mir.Syntax.{w32}
use Rattle.int_laws.proofs.RangeLaws.{abs-, sfits_abs}
use Rattle.overlay_sweep.proofs.sunk.Reads as reads
use Rattle.overlay_sweep.proofs.sunk.Lts as lts
use Rattle.overlay_sweep.proofs.sunk.Goals as goal

whole : (c : lts.Start reads.Pre reads.Post) → to_z w32 c.args.n ≡ pos c.args.n
whole c = to_z_pos w32 (omega (arith, c.requires))

sum : (c : lts.Start reads.Pre reads.Post) → SFits w32 (pos c.args.n -ℤ pos 32768)
sum c = sfits_abs w32 (pos c.args.n -ℤ pos 32768) (omega (arith, abs- (pos c.args.n) (pos 32768), c.requires))

pub overflow_sub-result : goal.overflow_sub-result
overflow_sub-result c = simp (whole c) (sum c)

pub returns : goal.returns
returns c = simp (whole c, to_z-of_z (sum c))

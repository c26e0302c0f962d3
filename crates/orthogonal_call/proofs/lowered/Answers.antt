-- `orthogonal_call::lowered` meets its contract.
use native.Mathlib.Omega.{arith}
use mathlib.Core.Path.{◌≡◌}
use lib.IntN.{pos, ◌-ℤ◌}
use mir.Syntax.{w32}
use mir.Val.{SFits, to_z}
use mir.Facts.{to_z-of_z, to_z_pos}
use Rattle.int_laws.proofs.RangeLaws.{abs-, sfits_abs}
use Rattle.orthogonal_call.proofs.lowered.Reads as reads
use Rattle.orthogonal_call.proofs.lowered.Lts as lts
use Rattle.orthogonal_call.proofs.lowered.Goals as goal

number : (c : lts.Start reads.Pre reads.Post) → to_z w32 c.args.n ≡ pos c.args.n
number c = to_z_pos w32 (omega (arith, c.requires))

less : (c : lts.Start reads.Pre reads.Post) → SFits w32 (pos c.args.n -ℤ pos 32768)
less c = sfits_abs w32 (pos c.args.n -ℤ pos 32768) (omega (arith, c.requires, abs- (pos c.args.n) (pos 32768)))

pub overflow_sub-result : goal.overflow_sub-result
overflow_sub-result c = simp (number c) (less c)

pub returns : goal.returns
returns c = simp (number c, to_z-of_z (less c))

-- `orthogonal_call::lifted` meets its contract.
use native.Mathlib.Omega.{arith}
use mathlib.Core.Path.{◌≡◌}
use lib.IntN.{pos, ◌+ℤ◌, ◌-ℤ◌}
use mir.Syntax.{w32}
use mir.Val.{SFits, to_z}
use mir.Facts.{to_z-of_z, to_z_pos}
use Rattle.int_laws.proofs.RangeLaws.{abs+, abs-, sfits_abs}
use Prim.Native.Nat.{◌*◌}
use Rattle.orthogonal_call.proofs.CallLaws.{lift_casts, lift-is}
use Rattle.orthogonal_call.proofs.lifted.Reads as reads
use Rattle.orthogonal_call.proofs.lifted.Lts as lts
use Rattle.orthogonal_call.proofs.lifted.Goals as goal

middle-is : (c : lts.Start reads.Pre reads.Post) → to_z w32 c.args.m ≡ pos c.args.m
middle-is c = to_z_pos w32 (omega arith)

blocks-are : (c : lts.Start reads.Pre reads.Post) → to_z w32 (32768 * c.args.g) ≡ pos (32768 * c.args.g)
blocks-are c = to_z_pos w32 (omega (arith, c.requires.3))

less : (c : lts.Start reads.Pre reads.Post) → SFits w32 (c.args.z -ℤ pos c.args.m)
less c = sfits_abs w32 (c.args.z -ℤ pos c.args.m) (omega (arith, c.requires.0, c.requires.1, abs- c.args.z (pos c.args.m)))

sum : (c : lts.Start reads.Pre reads.Post) → SFits w32 ((c.args.z -ℤ pos c.args.m) +ℤ pos (32768 * c.args.g))
sum c = sfits_abs w32 ((c.args.z -ℤ pos c.args.m) +ℤ pos (32768 * c.args.g)) (omega (arith, c.requires.0, c.requires.1, c.requires.3, abs+ (c.args.z -ℤ pos c.args.m) (pos (32768 * c.args.g)), abs- c.args.z (pos c.args.m)))

pub overflow_sub-result : goal.overflow_sub-result
overflow_sub-result c = simp (to_z-of_z c.ranges.z, middle-is c) (less c)

pub overflow_add-result : goal.overflow_add-result
overflow_add-result c = simp (to_z-of_z c.ranges.z, middle-is c, blocks-are c, to_z-of_z (less c)) (sum c)

pub overflow_cast-result-3 : goal.overflow_cast-result-3
overflow_cast-result-3 c =
    simp (to_z-of_z c.ranges.z, middle-is c, blocks-are c, to_z-of_z (less c), to_z-of_z (sum c)) (lift_casts c.args.z c.args.m c.args.g c.requires.0 c.requires.1 c.requires.2 c.requires.3)

pub returns : goal.returns
returns c =
    simp (to_z-of_z c.ranges.z, middle-is c, blocks-are c, to_z-of_z (less c), to_z-of_z (sum c)) (lift-is c.args.z c.args.m c.args.g c.requires.0 c.requires.1 c.requires.2 c.requires.3)

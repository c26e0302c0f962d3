-- `hull_corners::coordinate` meets its contract.
use native.Mathlib.Omega.{arith}
use Prim.Native.Nat.{ℕ, ◌≤◌, ◌<◌}
use lib.IntN.{ℤ, pos, nat_abs, ◌+ℤ◌, ◌*ℤ◌}
use mir.Syntax.{w32}
use mir.Val.{SFits}
use mir.Facts.{to_z-of_z}
use Rattle.int_laws.proofs.RangeLaws.{abs+, abs*≤, sfits_abs}
use Rattle.hull_corners.proofs.coordinate.Goals as goal

steps : (n : ℕ) → n < 65536 → SFits w32 (pos n)
steps n h = sfits_abs w32 (pos n) (omega arith)

product : (way : ℤ) (n : ℕ) → nat_abs way ≤ 1 → n < 65536 → SFits w32 (way *ℤ pos n)
product way n g h = sfits_abs w32 (way *ℤ pos n) (omega (arith, abs*≤ way (pos n) 1 65535 g (omega arith)))

sum : (base way : ℤ) (n : ℕ) → nat_abs base ≤ 65536 → nat_abs way ≤ 1 → n < 65536 → SFits w32 (base +ℤ (way *ℤ pos n))
sum base way n l g h = sfits_abs w32 (base +ℤ (way *ℤ pos n)) (omega (arith, abs+ base (way *ℤ pos n), abs*≤ way (pos n) 1 65535 g (omega arith)))

pub overflow_mul-result : goal.overflow_mul-result
overflow_mul-result c =
    let a = c.args in
    simp (to_z-of_z c.ranges.way, c.from.ensures, to_z-of_z (steps a.n (omega arith))) (product a.way a.n c.requires.1 (omega arith))

pub overflow_add-result : goal.overflow_add-result
overflow_add-result c =
    let a = c.args in
    simp (to_z-of_z c.ranges.way, to_z-of_z c.ranges.base, c.from.ensures, to_z-of_z (steps a.n (omega arith)), to_z-of_z (product a.way a.n c.requires.1 (omega arith)))
    (sum a.base a.way a.n c.requires.0 c.requires.1 (omega arith))

pub returns : goal.returns
returns c =
    let a = c.args in
    simp (to_z-of_z c.ranges.way, to_z-of_z c.ranges.base, c.from.ensures, to_z-of_z (steps a.n (omega arith)), to_z-of_z (product a.way a.n c.requires.1 (omega arith)), to_z-of_z (sum a.base a.way a.n c.requires.0 c.requires.1 (omega arith)))

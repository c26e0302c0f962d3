-- `hull_corners::put_corner` meets its contract.
use borrow.Author.Rules.{sfits_of}
use native.Mathlib.Omega.{arith}
use mathlib.Core.Path.{ap₂, ◌∙◌}
use Prim.Native.Nat.{◌+◌}
use lib.ListN.{set, length-set}
use lib.IntN.{ℤ}
use mir.Syntax.{w32}
use mir.Facts.{to_z-of_z}
use Rattle.hull_corners.proofs.put_corner.Goals as goal

pub coordinate-requires : goal.coordinate-requires
coordinate-requires c =
    simp (to_z-of_z (sfits_of {w = w32} {z = c.args.base.0} c.struct_told-1.given.0.1), to_z-of_z c.ranges.way)
    (c.requires.1, c.requires.3)

pub coordinate-requires-2 : goal.coordinate-requires-2
coordinate-requires-2 c =
    simp (to_z-of_z (sfits_of {w = w32} {z = c.args.base.1} c.struct_told-2-1.given.1.0.1), to_z-of_z c.ranges.way) (c.requires.2, c.requires.3)

pub bounds-out-o-2 : goal.bounds-out-o-2
bounds-out-o-2 c = simp length-set (omega arith)

pub returns : goal.returns
returns c =
    let x = simp (to_z-of_z (sfits_of {w = w32} {z = c.args.base.0} c.struct_told-1.given.0.1), to_z-of_z c.ranges.way) at c.coordinate.ensures in
    let y = simp (to_z-of_z (sfits_of {w = w32} {z = c.args.base.1} c.struct_told-2-1.given.1.0.1), to_z-of_z c.ranges.way) at c.coordinate-2.ensures in
    ap₂ (λ (a b : ℤ). set (set c.args.out.now c.args.o a) (c.args.o + 1) b)
    (to_z-of_z (sfits_of {w = w32} {z = c.coordinate.result} c.coordinate.type_inv) ∙ x)
    (to_z-of_z (sfits_of {w = w32} {z = c.coordinate-2.result} c.coordinate-2.type_inv) ∙ y)

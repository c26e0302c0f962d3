-- `overlay_sweep::foot` meets its contract.
use borrow.Author.Rules.{sfits_of}
use mathlib.Core.Path.{ap₂, ◌∙◌}
use mir.Syntax.{w32}
use mir.Facts.{to_z-of_z}
use Rattle.grid.specs.Grid.{corner}
use Rattle.overlay_sweep.proofs.foot.Goals as goal

pub returns : goal.returns
returns c =
    let a = c.args in
    let k = c.past-x in
    let x = simp (to_z-of_z (sfits_of {w = w32} {z = a.p.0} c.struct_told-1.given.0.1)) at k.ensures in
    ap₂ corner (to_z-of_z (sfits_of {w = w32} {z = k.result} k.type_inv) ∙ x)
    (to_z-of_z (sfits_of {w = w32} {z = a.p.1} c.struct_told-2-1.given.1.0.1))

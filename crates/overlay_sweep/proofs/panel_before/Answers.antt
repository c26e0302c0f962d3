-- `overlay_sweep::panel_before` meets its contract.
use borrow.Author.Rules.{sfits_of}
use mathlib.Core.Path.{ap₂, ◌∙◌}
use lib.IntN.{ℤ}
use mir.Syntax.{w32}
use mir.Facts.{to_z-of_z}
use Rattle.grid.specs.Grid.{corner, panel_at}
use Rattle.overlay_sweep.proofs.panel_before.Goals as goal

pub returns : goal.returns
returns c =
    let a = c.args in
    let k = c.less-x in
    let x = simp (to_z-of_z (sfits_of {w = w32} {z = a.at.0} c.struct_told-1.given.0.1)) at k.ensures in
    ap₂ (λ (u v : ℤ). panel_at (corner u v)) (to_z-of_z (sfits_of {w = w32} {z = k.result} k.type_inv) ∙ x)
    (to_z-of_z (sfits_of {w = w32} {z = a.at.1} c.struct_told-2-1.given.1.0.1))

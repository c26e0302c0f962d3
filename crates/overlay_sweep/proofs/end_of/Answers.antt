-- `overlay_sweep::end_of` meets its contract.
use borrow.Author.Rules.{sfits_of}
use mathlib.Core.Path.{ap₂, ◌∙◌}
use mir.Syntax.{w32}
use mir.Facts.{to_z-of_z}
use Rattle.grid.specs.Grid.{corner}
use Rattle.overlay_sweep.proofs.end_of.Goals as goal

pub returns : goal.returns
returns c =
    let x = c.sunk-x in
    let y = c.sunk-y in
    ap₂ corner (to_z-of_z (sfits_of {w = w32} {z = x.result} x.type_inv) ∙ x.ensures) (to_z-of_z (sfits_of {w = w32} {z = y.result} y.type_inv) ∙ y.ensures)

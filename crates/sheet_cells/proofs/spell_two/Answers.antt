-- `sheet_cells::spell_two` meets its contract.
use native.Mathlib.Omega.{arith}
use Rattle.sheet.proofs.SizeLaws.{length-cell_of}
use Rattle.sheet_cells.proofs.CellLaws.{wrote_two}
use Rattle.sheet_cells.proofs.spell_two.Goals as goal

pub spell_cell-requires : goal.spell_cell-requires
spell_cell-requires c =
    let a = c.args in
    omega (arith, length-cell_of a.v)

pub returns : goal.returns
returns c =
    let a = c.args in
    wrote_two a.v a.w a.at c.requires c.spell_cell-next.ensures c.spell_cell.ensures

-- `sheet_cells::spell_refusal` meets its contract.
use native.Mathlib.Omega.{arith}
use Rattle.sheet_cells.proofs.CellLaws.{length_two, wrote_refusal}
use Rattle.sheet_cells.proofs.spell_refusal.Goals as goal

pub spell_empty-requires : goal.spell_empty-requires
spell_empty-requires c =
    let a = c.args in
    omega (arith, c.requires, length_two a.number a.place)

pub returns : goal.returns
returns c =
    let a = c.args in
    wrote_refusal a.number a.place a.at c.requires c.spell_two-next.ensures
    c.spell_empty.ensures

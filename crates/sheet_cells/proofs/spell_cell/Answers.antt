-- `sheet_cells::spell_cell` meets its contract.
use native.Mathlib.Omega.{arith}
use Rattle.sheet.specs.Decimal.{decimal_of}
use Rattle.sheet.specs.Sizes.{most_decimals}
use Rattle.sheet.proofs.SizeLaws.{length-decimal_of}
use Rattle.sheet_cells.proofs.CellLaws.{wrote_then}
use borrow.Author.Rules.{rules}
use Rattle.sheet_cells.proofs.spell_cell.Goals as goal

pub bounds-out-next : goal.bounds-out-next
bounds-out-next c =
    let a = c.args in
    omega (arith, length-decimal_of most_decimals a.n, c.spell_decimal-next.ensures.end, c.spell_decimal-next.auto.out)

pub overflow_add-result : goal.overflow_add-result
overflow_add-result c =
    let a = c.args in
    search (rules, length-decimal_of most_decimals a.n, c.spell_decimal-next.ensures.end, c.spell_decimal-next.auto.out)

pub returns : goal.returns
returns c =
    let a = c.args in
    wrote_then (decimal_of most_decimals a.n) 44 a.at c.spell_decimal-next.ensures
    (omega (arith, length-decimal_of most_decimals a.n))

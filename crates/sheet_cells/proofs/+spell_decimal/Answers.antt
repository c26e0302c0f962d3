-- `sheet_cells::spell_decimal` meets its contract.
use Prim.Native.Nat.{◌-◌, ◌/◌}
use native.Mathlib.Omega.{arith}
use borrow.Author.Rules.{rules}
use Rattle.sheet.proofs.SizeLaws.{length-decimal_of}
use Rattle.sheet_cells.proofs.CellLaws.{decimal_none, decimal_one, decimal_more}
use Rattle.sheet_cells.proofs.+spell_decimal.Goals as goal

pub returns-then-k-eq0 : goal.returns-then-k-eq0
returns-then-k-eq0 t c =
    let a = c.args in
    decimal_none a.k a.n a.at a.out.now c.if-k-eq0.true

pub returns-then-n-lt10 : goal.returns-then-n-lt10
returns-then-n-lt10 t c =
    let a = c.args in
    decimal_one a.k a.n a.at a.out.now c.if-k-eq0.false c.if-n-lt10.true
    (omega (arith, c.requires, c.if-k-eq0.false))

pub bounds-out-next : goal.bounds-out-next
bounds-out-next t c =
    let a = c.args in
    let r = c.spell_decimal-next in
    omega (arith, r.ensures.end, r.auto.out, c.requires, c.if-k-eq0.false, length-decimal_of (a.k - 1) (a.n / 10))

pub overflow_add-result-2 : goal.overflow_add-result-2
overflow_add-result-2 t c =
    let a = c.args in
    let r = c.spell_decimal-next in
    search (rules, r.ensures.end, r.auto.out, c.requires, c.if-k-eq0.false, length-decimal_of (a.k - 1) (a.n / 10))

pub returns : goal.returns
returns t c =
    let a = c.args in
    decimal_more a.k a.n a.at c.if-k-eq0.false c.if-n-lt10.false c.requires c.spell_decimal-next.ensures

-- `sheet_number::put_byte` meets its contract.
use mathlib.Core.Path.{sym, subst}
use mathlib.Core.Bool.{Bool, cond}
use mathlib.Core.List.{[], ◌∷◌, ◌++◌}
use Prim.Native.Nat.{◌+◌}
use native.Mathlib.Omega.{arith}
use lib.ListN.{set}
use Rattle.line_fields.specs.Put.{Wrote}
use Rattle.sheet.specs.Entry.{cell_of}
use Rattle.sheet.proofs.SizeLaws.{length-cell_of}
use Rattle.sheet_cells.proofs.CellLaws.{wrote_byte, wrote_then}
use borrow.Author.Rules.{rules}
use Rattle.sheet_number.proofs.put_byte.Goals as goal

pub bounds-out-next : goal.bounds-out-next
bounds-out-next c = omega (arith, c.requires, length-cell_of c.args.n, c.spell_cell-next.ensures.end, c.spell_cell-next.auto.out)

pub overflow_add-result : goal.overflow_add-result
overflow_add-result c = search (rules, c.requires, length-cell_of c.args.n, c.spell_cell-next.ensures.end, c.spell_cell-next.auto.out)

pub returns-then-begins : goal.returns-then-begins
returns-then-begins c =
    let a = c.args in
    let r = c.spell_cell-next in
    subst (λ (t : Bool). Wrote (cond t (cell_of a.n) [] ++ (a.b ∷ [])) a.at a.out.now (r.result + 1)
    (set r.new.out r.result a.b)) (sym c.if-begins.true)
    (wrote_then (cell_of a.n) a.b a.at r.ensures (omega (arith, c.requires, length-cell_of a.n)))

pub returns : goal.returns
returns c =
    let a = c.args in
    subst (λ (t : Bool). Wrote (cond t (cell_of a.n) [] ++ (a.b ∷ [])) a.at a.out.now (a.at + 1)
    (set a.out.now a.at a.b)) (sym c.if-begins.false)
    (wrote_byte a.b a.at a.out.now (omega (arith, c.requires)))

-- `sheet_entry::enter` meets its contract.
use native.Mathlib.Omega.{arith}
use mathlib.Core.List.{[], ◌∷◌}
use lib.ListN.{length-append}
use Rattle.sheet.specs.Entry.{entry_of}
use Rattle.sheet.proofs.EntryLaws.{entered_most}
use Rattle.sheet_cells.proofs.CellLaws.{wrote_then}
use borrow.Author.Rules.{rules}
use Rattle.sheet_entry.proofs.enter.Goals as goal

pub bounds-out-end : goal.bounds-out-end
bounds-out-end c =
    let r = c.enter_line-end in
    omega (arith, c.requires.most_entry_in_bounds, entered_most c.args.s.now, length-append (entry_of c.args.s.now) (10 ∷ []), r.ensures.wrote.end, r.auto.out)

pub overflow_add-result : goal.overflow_add-result
overflow_add-result c =
    let r = c.enter_line-end in
    search (rules, c.requires.most_entry_in_bounds, entered_most c.args.s.now, length-append (entry_of c.args.s.now) (10 ∷ []), r.ensures.wrote.end, r.auto.out)

pub returns : goal.returns
returns c =
    let r = c.enter_line-end in record {
      wrote = wrote_then (entry_of c.args.s.now) 10 c.args.at r.ensures.wrote (omega (arith, c.requires.most_entry_in_bounds, entered_most c.args.s.now, length-append (entry_of c.args.s.now) (10 ∷ [])));
      clear_2 = r.ensures.clear_2;
    }

-- `sheet_entry::enter_line` meets its contract.
use mathlib.Core.Path.{sym, subst}
use mathlib.Core.List.{List}
use Prim.Native.Nat.{ℕ}
use lib.Seq.{length-take-le}
use Rattle.line_fields.specs.Put.{Wrote}
use Rattle.sheet_entry.proofs.EnterLaws.{walk_accepted, steps_good, walk_refused}
use Rattle.sheet_entry.proofs.enter_line.Goals as goal

pub slice_bounds-chain-end : goal.slice_bounds-chain-end
slice_bounds-chain-end c = (c.walk_line.ensures.walked_by.survived c.in-Ok.f c.in-Ok.is).within

pub slice_bounds-enter_accepted-end : goal.slice_bounds-enter_accepted-end
slice_bounds-enter_accepted-end c =
    let w = c.walk_line in
    sym (length-take-le c.in-Ok.f.steps w.new.chain (w.ensures.walked_by.survived c.in-Ok.f c.in-Ok.is).within)

pub enter_accepted-requires : goal.enter_accepted-requires
enter_accepted-requires c =
    record {
      below = steps_good c.args.s.now c.walk_line.ensures.walked_by c.in-Ok.f c.in-Ok.is;
      most_entry_in_bounds = c.requires.most_entry_in_bounds;
    }

pub returns-in-Ok : goal.returns-in-Ok
returns-in-Ok c =
    let a = c.args in
    let r = c.enter_accepted in
    record {
      wrote = subst (λ (l : List ℕ). Wrote l a.at a.out.now r.result r.new.out) (walk_accepted a.s.now c.walk_line.ensures.walked_by c.in-Ok.f c.in-Ok.is) r.ensures;
      clear_2 = c.walk_line.ensures.clear;
    }

pub returns-in-Err : goal.returns-in-Err
returns-in-Err c =
    let a = c.args in
    let r = c.enter_refused in
    record {
      wrote = subst (λ (l : List ℕ). Wrote l a.at a.out.now r.result r.new.out) (walk_refused a.s.now c.walk_line.ensures.walked_by c.in-Err.r c.in-Err.is) r.ensures;
      clear_2 = c.walk_line.ensures.clear;
    }

-- `line_rows::tell` meets its contract.
use Rattle.std.specs.Prelude.{Err, Ok}
use mathlib.Core.Path.{sym, ap, ◌∙◌, subst}
use mathlib.Core.List.{List}
use Prim.Native.Nat.{ℕ}
use lib.ListN.{length}
use Rattle.grid.specs.Grid.{origin}
use Rattle.room.specs.Room.{as_room_judged}
use Rattle.line_fields.specs.Put.{Wrote}
use Rattle.line_room.specs.Told.{room_told}
use Rattle.line_room.proofs.ToldLaws.{rows_told-by}
use Rattle.line_rows.proofs.tell.Goals as goal

pub slice_bounds-chain-end : goal.slice_bounds-chain-end
slice_bounds-chain-end c = (c.walk_line.ensures.walked_by.survived c.in-Ok.f c.in-Ok.is).within

pub slice_bounds-tell_room-end : goal.slice_bounds-tell_room-end
slice_bounds-tell_room-end c =
    let k = c.walk_line.ensures.walked_by.survived c.in-Ok.f c.in-Ok.is in
    k.steps ∙ sym (ap length k.chain)

pub tell_room-requires : goal.tell_room-requires
tell_room-requires c =
    let k = c.walk_line.ensures.walked_by.survived c.in-Ok.f c.in-Ok.is in record { steps_len_bound = (rw k.chain k.few, c.requires.clear.2); most_rows_in_bounds = c.requires.most_rows_in_bounds }

pub returns-in-Ok : goal.returns-in-Ok
returns-in-Ok c =
    let a = c.args in
    let r = c.tell_room in
    record {
      wrote = subst (λ (l : List ℕ). Wrote l a.at a.out.now r.result r.new.out) (ap (λ (ds : List ℕ). room_told (as_room_judged origin ds) ds) (c.walk_line.ensures.walked_by.survived c.in-Ok.f c.in-Ok.is).chain ∙ rows_told-by a.s.now (Ok c.in-Ok.f) (sym c.walk_line.ensures.walked_by.answer ∙ c.in-Ok.is)) r.ensures;
      clear_2 = c.walk_line.ensures.clear;
    }

pub returns-in-Err : goal.returns-in-Err
returns-in-Err c =
    let a = c.args in
    let r = c.tell_refusal in
    record {
      wrote = subst (λ (l : List ℕ). Wrote l a.at a.out.now r.result r.new.out) (rows_told-by a.s.now (Err c.in-Err.r) (sym c.walk_line.ensures.walked_by.answer ∙ c.in-Err.is)) r.ensures;
      clear_2 = c.walk_line.ensures.clear;
    }

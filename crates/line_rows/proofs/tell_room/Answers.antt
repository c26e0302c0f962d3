-- `line_rows::tell_room` meets its contract.
use mathlib.Core.Path.{subst}
use mathlib.Core.List.{List}
use Prim.Native.Nat.{ℕ}
use native.Mathlib.Omega.{arith}
use Rattle.line_fields.specs.Put.{Wrote}
use Rattle.line_rows.proofs.RoomLaws.{room_listed, room_refused}
use Rattle.line_rows.proofs.tell_room.Goals as goal

pub tell_threes-requires : goal.tell_threes-requires
tell_threes-requires c =
    let l = c.list in
    let k = room_listed l.ensures c.requires.steps_len_bound.0 c.requires.steps_len_bound.1 c.in-Ok.n c.in-Ok.is in
    (omega (arith, k.0, l.auto.out), omega (arith, k.1, c.requires.most_rows_in_bounds))

pub returns-in-Ok : goal.returns-in-Ok
returns-in-Ok c =
    let a = c.args in
    let r = c.tell_threes in
    subst (λ (l : List ℕ). Wrote l a.at a.out.now r.result r.new.out)
    (room_listed c.list.ensures c.requires.steps_len_bound.0 c.requires.steps_len_bound.1 c.in-Ok.n c.in-Ok.is).2 r.ensures

pub returns-in-Err : goal.returns-in-Err
returns-in-Err c =
    let a = c.args in
    let r = c.tell_refusal in
    subst (λ (l : List ℕ). Wrote l a.at a.out.now r.result r.new.out)
    (room_refused c.list.ensures c.requires.steps_len_bound.0 c.requires.steps_len_bound.1 c.in-Err.r c.in-Err.is) r.ensures

-- `convex_call::in_store` meets its contract.
use Rattle.convex_call.proofs.PartLaws.{digits_of}
use Rattle.convex_call.proofs.RoundLaws.{store_near, store_digits, store_length, store_told}
use lib.Seq.{length-take-le}
use lib.ListN.{length, length-take}
use mathlib.Core.Path.{sym}
use native.Mathlib.Omega.{arith}
use Rattle.convex_call.proofs.in_store.Goals as goal

pub lay-requires : goal.lay-requires
lay-requires c = (digits_of c.requires.steps, c.requires.out-room)

pub slice_bounds-place-end-2 : goal.slice_bounds-place-end-2
slice_bounds-place-end-2 c =
    let a = c.args in
    let y = c.lay in
    let o = y.new.out in
    sym (length-take-le (length a.chain.now) o (omega (arith, c.requires.out-room, y.auto.out)))

pub place-m-requires : goal.place-m-requires
place-m-requires c =
    let a = c.args in
    let y = c.lay in
    let o = y.new.out in
    omega (arith, c.requires.steps.short, length-take (length a.chain.now) o)

pub overflow_add-m : goal.overflow_add-m
overflow_add-m c =
    let a = c.args in
    let y = c.lay in
    let o = y.new.out in
    let p = c.place-m in
    omega (arith, c.requires.steps.short, store_near a.chain.now o c.leftward.result (digits_of c.requires.steps) c.requires.steps.short (omega (arith, c.requires.out-room, y.auto.out)) y.ensures p.result p.ensures)

pub slice_bounds-from_west-end : goal.slice_bounds-from_west-end
slice_bounds-from_west-end c =
    let a = c.args in
    let y = c.lay in
    let o = y.new.out in
    let p = c.place-m in
    omega (arith, c.requires.out-room, y.auto.out, store_near a.chain.now o c.leftward.result (digits_of c.requires.steps) c.requires.steps.short (omega (arith, c.requires.out-room, y.auto.out)) y.ensures p.result p.ensures)

pub from_west-requires : goal.from_west-requires
from_west-requires c =
    let a = c.args in
    let y = c.lay in
    let o = y.new.out in
    let p = c.place-m in
    let b = c.leftward.result in
    let n = store_length a.chain.now o b (digits_of c.requires.steps) c.requires.steps.short
    (omega (arith, c.requires.out-room, y.auto.out)) y.ensures p.result p.ensures in
    let d = store_digits a.chain.now o b (digits_of c.requires.steps) c.requires.steps.short
    (omega (arith, c.requires.out-room, y.auto.out)) y.ensures p.result p.ensures in (
      record { digits = d.digits; short = omega (arith, n, c.requires.steps.short) },
      record { depths = omega (arith, n, c.requires.depths); stack = omega (arith, n, c.requires.stack); narrow = c.requires.narrow },
    )

pub returns : goal.returns
returns c =
    let l = c.leftward in
    let a = c.args in
    let y = c.lay in
    let o = y.new.out in
    let p = c.place-m in
    let w = c.from_west in
    store_told a.chain.now o l.result (digits_of c.requires.steps) c.requires.steps.short
    (omega (arith, c.requires.out-room, y.auto.out)) y.ensures p.result p.ensures w.result l.ensures
    w.ensures

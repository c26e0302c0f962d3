-- `row_call::list_in` meets its contract.
use native.Mathlib.Omega.{arith}
use mathlib.Core.Path.{ap}
use Prim.Native.Nat.{ℕ, ◌*◌}
use lib.ListN.{length}
use Rattle.row_call.proofs.CallLaws.{good_walled, store_stays, store_columns, store_sheet, store_rows}
use Rattle.row_call.proofs.list_in.Goals as goal

pub lay-requires : goal.lay-requires
lay-requires c =
    let w = good_walled c.args.room.now.start c.args.room.now.chain.now c.args.room.now.judged in
    let s = c.requires.0 in
    (store_stays w s, s.links, omega (arith, s.links, s.values), omega (arith, w.few), s.empty.0, w.digits)

pub gather-requires : goal.gather-requires
gather-requires c =
    let w = good_walled c.args.room.now.start c.args.room.now.chain.now c.args.room.now.judged in
    let f = c.lay in
    let e = c.from-end.ensures in
    store_columns w c.requires.0 (2 * c.from-end.result) (ap (λ (k : ℕ). 2 * k) e) f.auto.head
    f.auto.next f.auto.at f.ensures

pub put_rows-requires : goal.put_rows-requires
put_rows-requires c =
    let w = good_walled c.args.room.now.start c.args.room.now.chain.now c.args.room.now.judged in
    let x = c.from-end in
    let f = c.lay in
    let g = c.gather in
    let e = x.ensures in
    (store_sheet w c.requires.0 (2 * x.result) (ap (λ (k : ℕ). 2 * k) e) f.auto.head f.auto.next f.auto.at f.ensures g.auto.next g.auto.at g.auto.row g.ensures (length c.args.out.now) c.requires.1, w.near.0, w.near.1, omega (arith, c.requires.0.columns, c.requires.0.narrow, e))

pub returns : goal.returns
returns c =
    let w = good_walled c.args.room.now.start c.args.room.now.chain.now c.args.room.now.judged in
    let x = c.from-end in
    let f = c.lay in
    let g = c.gather in
    let e = x.ensures in
    store_rows w c.requires.0 (2 * x.result) (ap (λ (k : ℕ). 2 * k) e) f.auto.head
    f.auto.next f.auto.at f.ensures g.auto.next g.auto.at g.auto.row
    g.ensures c.args.out.now c.put_rows.new.out c.put_rows.ensures

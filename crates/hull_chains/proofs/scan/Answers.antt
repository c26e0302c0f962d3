-- `hull_chains::scan` meets its contract.
use native.Mathlib.Omega.{arith}
use mathlib.Core.Path.{refl, ◌∙◌}
use lib.ListN.{length, drop}
use Rattle.hull_laws.proofs.StackLaws.{stack_columns, scan_none}
use Rattle.hull_laws.proofs.IdleLaws.{next_lt, scan_next, scan_done}
use Rattle.hull_chains.proofs.scan.Goals as goal

pub loop-i-init : goal.loop-i-init
loop-i-init c = (omega arith, omega arith, refl, omega arith, scan_none c.args.ys.now c.args.s.now (length c.args.ys.now))

pub push-q-requires : goal.push-q-requires
push-q-requires c =
    let l = c.loop-i in
    let e = c.next-i.ensures in
    let r = next_lt c.args.ys.now (length c.args.ys.now) l.i c.next-i.result (omega arith) l.invariant.0 e.0
    e.1 in
    (record { begins = l.invariant.1; columns = stack_columns c.args.ys.now l.s l.q l.i (length c.args.ys.now) c.next-i.result r l.invariant.0 (omega arith) l.invariant.4; short = c.requires.1 }, omega arith, omega (arith, r))

pub loop-i-smaller : goal.loop-i-smaller
loop-i-smaller c =
    let l = c.loop-i in
    let e = c.next-i.ensures in
    next_lt c.args.ys.now (length c.args.ys.now) l.i c.next-i.result (omega arith) l.invariant.0 e.0 e.1

pub loop-i-preserved : goal.loop-i-preserved
loop-i-preserved c =
    let l = c.loop-i in
    let n = c.next-i.ensures in
    let e = c.push-q.ensures in
    let k = c.push-q.auto.s in
    let r = next_lt c.args.ys.now (length c.args.ys.now) l.i c.next-i.result (omega arith) l.invariant.0 n.0
    n.1 in
    (omega (arith, r), omega (arith, e.2, k), k ∙ l.invariant.2, omega (arith, r, e.1, k), scan_next c.args.ys.now (length c.args.ys.now) l.i c.next-i.result (omega arith) l.invariant.0 n.0 n.1 (drop l.q l.s) (drop c.push-q.result c.push-q.new.s) l.invariant.4 e.0)

pub returns : goal.returns
returns c =
    let l = c.loop-i in
    record { chain = scan_done c.args.ys.now l.s l.q l.i (length c.args.ys.now) (omega arith) l.invariant.4; begins = l.invariant.1 }

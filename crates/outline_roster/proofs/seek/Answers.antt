-- `outline_roster::seek` meets its contract.
use native.Mathlib.Omega.{arith}
use mathlib.Core.Path.{sym}
use Rattle.outline_roster.proofs.TreeLaws.{seeking_start, seeking_node, seeking_stop, seeking_on, seeking_less}
use Rattle.outline_roster.proofs.seek.Goals as goal

pub loop-i-init : goal.loop-i-init
loop-i-init c = seeking_start c.args.keys.now c.args.kids.now c.args.used c.requires c.args.k

pub returns-then-c-eq0 : goal.returns-then-c-eq0
returns-then-c-eq0 c =
    let a = c.args in
    let d = c.digit in
    let l = c.loop-i in
    seeking_stop a.keys.now a.kids.now a.used c.requires a.k l.i l.r l.invariant d.result
    c.from-c.result d.ensures c.from-c.ensures c.loop-i-test.true c.if-c-eq0.true

pub loop-i-smaller : goal.loop-i-smaller
loop-i-smaller c =
    let a = c.args in
    let b = c.digit in
    let l = c.loop-i in
    let d = seeking_less a.keys.now a.kids.now a.used c.requires a.k l.i l.r l.invariant b.result
    c.from-c.result b.ensures c.from-c.ensures c.loop-i-test.true c.if-c-eq0.false in
    omega (arith, d.0, d.1)

pub loop-i-preserved : goal.loop-i-preserved
loop-i-preserved c =
    let a = c.args in
    let d = c.digit in
    let l = c.loop-i in
    seeking_on a.keys.now a.kids.now a.used c.requires a.k l.i l.r l.invariant d.result
    c.from-c.result d.ensures c.from-c.ensures c.loop-i-test.true c.if-c-eq0.false

pub returns : goal.returns
returns c =
    let l = c.loop-i in
    sym (seeking_node c.args.keys.now c.args.kids.now c.args.used c.requires
    c.args.k l.i l.r l.invariant c.loop-i-test.false)

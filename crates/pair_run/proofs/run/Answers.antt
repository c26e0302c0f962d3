-- `pair_run::run` meets its contract.
use mathlib.Core.Path.{◌≡◌, refl, sym, ◌∙◌, subst}
use Prim.Native.Nat.{◌-◌, ◌<◌}
use native.Mathlib.Omega.{arith}
use borrow.Author.Rules.{rules}
use lib.ListN.{length, get_or}
use Rattle.std.specs.Prelude.{Err}
use Rattle.pair_run.specs.Runs.{PairRan}
use Rattle.pair_run.proofs.RunLaws.{byte_first, byte_second, running_known, running_full, running_next, running_end}
use Rattle.pair_run.proofs.run.Goals.{then-op-lt16+in_ok-x, else-op-lt16+in_ok-x-2}
use Rattle.pair_run.proofs.run.Goals as goal

pub returns-in_err-x : goal.returns-in_err-x
returns-in_err-x c =
    let a = c.args in
    let l = c.loop-i in
    let b = c.perform in
    let p = byte_first (get_or a.ops.now l.i 0) c.if-op-lt16.true in
    let e : c.from_residual.result ≡ Err c.in_err-x.field-0.0 = search rules in
    subst (PairRan (length a.t.now) a.start.first.at a.start.second.at a.ops.now b.new.t b.new.marks b.new.chain l.second) (sym e)
    (running_full (length a.t.now) a.start.first.at a.start.second.at a.ops.now l.t l.marks l.first l.second l.one l.two l.stock
    l.i l.invariant.5 l.invariant.0 c.loop-i-test.true 0 (omega arith) p.0 (get_or a.ops.now l.i 0) p.1
    b.new.t b.new.marks b.new.chain b.result b.ensures c.in_err-x.field-0.0 c.in_err-x.was)

pub returns-in_err-x-2 : goal.returns-in_err-x-2
returns-in_err-x-2 c =
    let a = c.args in
    let l = c.loop-i in
    let b = c.perform-else-op-lt16 in
    let m : l.i < length a.ops.now = c.loop-i-test.true in
    let p = byte_second (get_or a.ops.now l.i 0) c.if-op-lt16.false
    (running_known (length a.t.now) a.start.first.at a.start.second.at a.ops.now l.t l.marks l.first l.second l.one l.two l.stock
    l.i l.invariant.5 l.invariant.0 m) in
    let e : c.from_residual-in_err-x-2.result ≡ Err c.in_err-x-2.field-0.0 = search rules in
    subst (PairRan (length a.t.now) a.start.first.at a.start.second.at a.ops.now b.new.t b.new.marks l.first b.new.chain) (sym e)
    (running_full (length a.t.now) a.start.first.at a.start.second.at a.ops.now l.t l.marks l.first l.second l.one l.two l.stock
    l.i l.invariant.5 l.invariant.0 m 1 (omega arith) p.0 (get_or a.ops.now l.i 0 - 16) p.1
    b.new.t b.new.marks b.new.chain b.result b.ensures c.in_err-x-2.field-0.0 c.in_err-x-2.was)

pub loop-i-preserved : goal.loop-i-preserved
loop-i-preserved c =
    let a = c.args in
    let l = c.loop-i in
    let m : l.i < length a.ops.now = c.loop-i-test.true in
    elim c.if-op-lt16.branch [
      | then-op-lt16+in_ok-x w ↦
          let b = w.perform in
          let p = byte_first (get_or a.ops.now l.i 0) w.if-op-lt16.true in
          let g = running_next (length a.t.now) a.start.first.at a.start.second.at a.ops.now l.t l.marks l.first l.second l.one l.two l.stock
          l.i l.invariant.5 l.invariant.0 m 0 (omega arith) p.0 (get_or a.ops.now l.i 0) p.1
          b.new.t b.new.marks b.new.chain b.result b.ensures w.in_ok-x.x w.in_ok-x.was (omega (arith, m, l.invariant.1)) in
          rw (w.t-is, w.marks-is, w.first-is, w.second-is, w.one-is, w.two-is, w.stock-is)
          (g.0, g.1 ∙ l.invariant.1, search rules, search rules, omega (arith, m), g.2)
      | else-op-lt16+in_ok-x-2 w ↦
          let b = w.perform-else-op-lt16 in
          let p = byte_second (get_or a.ops.now l.i 0) w.if-op-lt16.false
          (running_known (length a.t.now) a.start.first.at a.start.second.at a.ops.now l.t l.marks l.first l.second l.one l.two l.stock
          l.i l.invariant.5 l.invariant.0 m) in
          let g = running_next (length a.t.now) a.start.first.at a.start.second.at a.ops.now l.t l.marks l.first l.second l.one l.two l.stock
          l.i l.invariant.5 l.invariant.0 m 1 (omega arith) p.0 (get_or a.ops.now l.i 0 - 16) p.1
          b.new.t b.new.marks b.new.chain b.result b.ensures w.in_ok-x-2.x w.in_ok-x-2.was (omega (arith, m, l.invariant.1)) in
          rw (w.t-is, w.marks-is, w.first-is, w.second-is, w.one-is, w.two-is, w.stock-is)
          (g.0, g.1 ∙ l.invariant.1, search rules, search rules, omega (arith, m), g.2)
    ]

pub returns : goal.returns
returns c =
    let a = c.args in
    let l = c.loop-i in
    running_end (length a.t.now) a.start.first.at a.start.second.at a.ops.now l.t l.marks l.first l.second l.one l.two l.stock
    l.i l.invariant.5 l.invariant.0 c.loop-i-test.false l.invariant.1 l.invariant.4
    (record { first = l.one; second = l.two; stock = l.stock }) refl refl refl

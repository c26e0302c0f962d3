-- `walk_run::apply` meets its contract.
use mathlib.Core.Path.{◌≡◌}
use Prim.Native.Nat.{◌-◌}
use native.Mathlib.Omega.{arith}
use borrow.Author.Rules.{rules}
use lib.ListN.{length, take}
use Rattle.steps.proofs.SurvivorLaws.{fine_back, fine_step}
use Rattle.walk_run.proofs.ApplyLaws.{chained_few, chained_near, chained_place, chained_digit, chained_known, chained_back}
use Rattle.walk_run.proofs.apply.Goals as goal

pub step-requires : goal.step-requires
step-requires c =
    (c.requires, (fine_step c.args.w.spot.steps c.args.op c.requires.fine c.if-op-ne4.true).0)

pub overflow_sub-d : goal.overflow_sub-d
overflow_sub-d c = omega (arith, fine_back c.args.w.spot.steps c.args.op c.requires.fine c.if-op-ne4.false)

pub bounds-chain-w : goal.bounds-chain-w
bounds-chain-w c =
    let a = c.args in
    let k = c.requires in
    chained_place k.start a.t.now a.chain.now k.steps a.w k.chained (fine_back a.w.spot.steps a.op k.fine c.if-op-ne4.false)

pub changed-changed-requires : goal.changed-changed-requires
changed-changed-requires c =
    let a = c.args in
    let k = c.requires in
    let some = fine_back a.w.spot.steps a.op k.fine c.if-op-ne4.false in
    record {
      stepped = record {
        start = k.start;
        chain = take (a.w.spot.steps - 1) a.chain.now;
        walked = (chained_known k.start a.t.now a.chain.now k.steps a.w k.chained some).walked;
      };
      d_bound = (chained_digit k.start a.t.now a.chain.now k.steps a.w k.chained some, omega (arith, chained_few k.start a.t.now a.chain.now k.steps a.w k.chained), k.words);
    }

pub withdraw-walk-requires : goal.withdraw-walk-requires
withdraw-walk-requires c =
    let a = c.args in
    let k = c.requires in
    let some = fine_back a.w.spot.steps a.op k.fine c.if-op-ne4.false in
    let n = chained_near k.start a.t.now a.chain.now k.steps a.w k.chained in
    record {
      withdrawable = record {
        start = k.start;
        chain = take (a.w.spot.steps - 1) a.chain.now;
        known = chained_known k.start a.t.now a.chain.now k.steps a.w k.chained some;
      };
      at_bound = (n.0, n.1, chained_digit k.start a.t.now a.chain.now k.steps a.w k.chained some, omega (arith, chained_few k.start a.t.now a.chain.now k.steps a.w k.chained));
    }

pub returns : goal.returns
returns c =
    let a = c.args in
    let some = fine_back a.w.spot.steps a.op c.requires.fine c.if-op-ne4.false in
    let b = c.withdraw-walk in
    let n = c.changed-changed in
    let l : length b.new.t ≡ length a.t.now = search rules in
    let last = take (a.w.spot.steps - 1) a.chain.now in
    λ x ds h.
    let g = chained_known x a.t.now a.chain.now ds a.w h some in
    chained_back x a.t.now a.chain.now ds a.w h some a.op c.if-op-ne4.false (length a.t.now) n.result b.new.t b.result
    (b.ensures x last g) l (n.ensures x last g.walked)

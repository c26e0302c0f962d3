-- `pair_run::apply` meets its contract.
use mathlib.Core.Path.{◌≡◌}
use Prim.Native.Nat.{◌-◌}
use native.Mathlib.Omega.{arith}
use borrow.Author.Rules.{rules}
use lib.ListN.{length, take}
use Rattle.grid.specs.Grid.{corners_from, end_from}
use Rattle.steps.proofs.SurvivorLaws.{fine_back, fine_step}
use Rattle.pair_steps.specs.Parties.{by_party}
use Rattle.pair_table.specs.Slots.{needs_of, settle}
use Rattle.pair_table_laws.specs.Hold.{both_of}
use Rattle.pair_run.proofs.TurnLaws.{kept_few, kept_near, turn_place, turn_digit, turn_moves, turn_corner, turn_holds, turn_some, back-turned}
use Rattle.pair_run.proofs.apply.Goals as goal

pub step-requires : goal.step-requires
step-requires c =
    let a = c.args in
    let k = c.requires in
    (k, (fine_step a.w.party.steps a.op k.fine c.if-op-ne4.true).0)

pub overflow_sub-d : goal.overflow_sub-d
overflow_sub-d c = omega (arith, fine_back c.args.w.party.steps c.args.op c.requires.fine c.if-op-ne4.false)

pub bounds-chain-w : goal.bounds-chain-w
bounds-chain-w c =
    let a = c.args in
    let k = c.requires in
    turn_place a.t.now a.chain.now k.first k.second k.firsts k.seconds k.slots a.q a.w.party a.w.stock
    k.here c.requires.party (fine_back a.w.party.steps a.op k.fine c.if-op-ne4.false)

pub changed-changed-requires : goal.changed-changed-requires
changed-changed-requires c =
    let a = c.args in
    let k = c.requires in
    let some = fine_back a.w.party.steps a.op k.fine c.if-op-ne4.false in
    let n = kept_near a.t.now a.chain.now k.first k.second k.firsts k.seconds k.slots a.q a.w.party a.w.stock
    k.here in
    let m = kept_few a.t.now a.chain.now k.first k.second k.firsts k.seconds k.slots a.q a.w.party a.w.stock
    k.here in
    record {
      some_step = turn_some a.t.now a.chain.now k.first k.second k.firsts k.seconds k.slots a.q a.w.party a.w.stock k.here c.requires.party some;
      at_bound = (n.0, n.1, omega (arith, m), c.requires.words);
    }

pub withdraw-stride-requires : goal.withdraw-stride-requires
withdraw-stride-requires c =
    let a = c.args in
    let k = c.requires in
    let some = fine_back a.w.party.steps a.op k.fine c.if-op-ne4.false in
    let n = kept_near a.t.now a.chain.now k.first k.second k.firsts k.seconds k.slots a.q a.w.party a.w.stock
    k.here in
    let m = kept_few a.t.now a.chain.now k.first k.second k.firsts k.seconds k.slots a.q a.w.party a.w.stock
    k.here in
    let l = take (a.w.party.steps - 1) a.chain.now in
    record {
      withdrawing = record {
        first = k.first;
        second = k.second;
        firsts = by_party a.q l k.firsts;
        seconds = by_party a.q k.seconds l;
        slots = k.slots;
        moves = turn_moves a.t.now a.chain.now k.first k.second k.firsts k.seconds k.slots a.q a.w.party
            a.w.stock k.here c.requires.party some;
      };
      at_bound = (n.0, n.1, turn_digit a.t.now a.chain.now k.first k.second k.firsts k.seconds k.slots a.q a.w.party a.w.stock k.here c.requires.party some, c.requires.party, omega (arith, m));
    }

pub returns : goal.returns
returns c =
    let a = c.args in
    let k = c.requires in
    let e = c.if-op-ne4.false in
    let some = fine_back a.w.party.steps a.op k.fine e in
    let b = c.withdraw-stride in
    let n = c.changed-changed in
    let l : length b.new.t ≡ length a.t.now = search rules in
    let last = take (a.w.party.steps - 1) a.chain.now in
    λ x y ds es slots h.
    let xs = by_party a.q last ds in
    let ys = by_party a.q es last in
    back-turned a.t.now a.chain.now x y ds es slots a.q a.w.party a.w.stock h c.requires.party some b.new.t
    (record { stride = b.result; changed = n.result })
    (b.ensures x y xs ys slots
    (turn_moves a.t.now a.chain.now x y ds es slots a.q a.w.party a.w.stock h c.requires.party some))
    (n.ensures (both_of (corners_from x xs) (corners_from y ys)) (settle slots (needs_of x y xs ys)) slots (end_from (by_party a.q x y) (by_party a.q xs ys))
    (turn_holds a.t.now a.chain.now x y ds es slots a.q a.w.party a.w.stock h c.requires.party some)
    (turn_corner a.t.now a.chain.now x y ds es slots a.q a.w.party a.w.stock h c.requires.party some))
    l c.requires.whole a.op e

-- `pair_move::withdraw` meets its contract.
use mathlib.Core.List.{List}
use mathlib.Core.Path.{refl, ap, ◌∙◌}
use Prim.Native.Nat.{ℕ, ◌-◌}
use native.Mathlib.Omega.{arith}
use Rattle.grid.specs.Grid.{stepped, corners_from, end_from}
use Rattle.tree_laws.specs.State.{state_of}
use Rattle.pair_steps.specs.Parties.{by_party}
use Rattle.pair_table_laws.specs.Hold.{both_of}
use Rattle.pair_table_laws.specs.Stores.{pair_unvisit_in}
use Rattle.pair_move.specs.declared.Stride.{Stride}
use Rattle.pair_move.proofs.BackLaws.{back-steps, back_in, back_seen, back-corners, back_counted, back-linked, back-moved, back_treads, back_visits, back_clears, back_leaves, back_to}
use Rattle.pair_move.proofs.withdraw.Goals as goal

pub own-requires : goal.own-requires
own-requires c =
    let a = c.args in
    let k = c.requires.withdrawing in
    let q = c.requires.at_bound in
    (back_in a.t.now k.first k.second k.firsts k.seconds k.slots a.q a.w.party a.w.stock a.d k.moves q.3 q.2, q.3, omega arith)

pub untallied-tally-requires : goal.untallied-tally-requires
untallied-tally-requires c =
    let a = c.args in
    let k = c.requires.withdrawing in
    let q = c.requires.at_bound in
    (back-corners a.t.now k.first k.second k.firsts k.seconds k.slots a.q a.w.party a.w.stock a.d k.moves q.3 q.2, q.4)

pub origin-from-requires : goal.origin-from-requires
origin-from-requires c =
    let a = c.args in
    let k = c.requires.withdrawing in
    let q = c.requires.at_bound in
    (back_in a.t.now k.first k.second k.firsts k.seconds k.slots a.q a.w.party a.w.stock a.d k.moves q.3 q.2, q.2, back-linked a.t.now k.first k.second k.firsts k.seconds k.slots a.q a.w.party a.w.stock a.d k.moves q.3 q.2)

pub untread-requires : goal.untread-requires
untread-requires c =
    let a = c.args in
    let k = c.requires.withdrawing in
    let q = c.requires.at_bound in
    let o = c.origin-from in
    let h = back_treads a.t.now k.first k.second k.firsts k.seconds k.slots a.q a.w.party a.w.stock a.d
    k.moves q.3 q.2 o.result o.ensures in
    (h.0, back_in a.t.now k.first k.second k.firsts k.seconds k.slots a.q a.w.party a.w.stock a.d k.moves q.3 q.2, q.3, q.2, h.1)

pub unvisit-requires : goal.unvisit-requires
unvisit-requires c =
    let a = c.args in
    let k = c.requires.withdrawing in
    let q = c.requires.at_bound in
    let o = c.origin-from in
    let v = c.untread in
    let h = back_visits a.t.now k.first k.second k.firsts k.seconds k.slots a.q a.w.party a.w.stock a.d
    k.moves q.3 q.2 o.result o.ensures v.new.t v.ensures in
    (h.0, q.3, h.1)

pub unlink_up-requires : goal.unlink_up-requires
unlink_up-requires c =
    let a = c.args in
    let k = c.requires.withdrawing in
    let q = c.requires.at_bound in
    let o = c.origin-from in
    let v = c.unvisit in
    let m = c.moved-at in
    let e = v.ensures ∙ ap (λ (l : List ℕ). pair_unvisit_in a.q l a.w.party.node) c.untread.ensures in
    let start = by_party a.q k.first k.second in
    let chain = by_party a.q k.firsts k.seconds in
    record {
      both = both_of (corners_from k.first k.firsts) (corners_from k.second k.seconds);
      slots = k.slots;
      state = state_of (corners_from start chain);
      end = stepped a.d (end_from start chain);
      holds = back_clears a.t.now k.first k.second k.firsts k.seconds k.slots a.q a.w.party a.w.stock a.d
          k.moves q.3 q.2 o.result o.ensures v.new.t e m.result
          (back-moved a.t.now k.first k.second k.firsts k.seconds k.slots a.q a.w.party a.w.stock a.d
          k.moves q.3 q.2 m.result m.ensures);
    }

pub overflow_cast-n-2 : goal.overflow_cast-n-2
overflow_cast-n-2 c = omega (arith, c.requires.at_bound.4)

pub drop_up-stock-requires : goal.drop_up-stock-requires
drop_up-stock-requires c =
    let a = c.args in
    let k = c.requires.withdrawing in
    let q = c.requires.at_bound in
    let o = c.origin-from in
    let v = c.unvisit in
    let m = c.moved-at in
    let u = c.unlink_up in
    let e = v.ensures ∙ ap (λ (l : List ℕ). pair_unvisit_in a.q l a.w.party.node) c.untread.ensures in
    let start = by_party a.q k.first k.second in
    let chain = by_party a.q k.firsts k.seconds in
    let B = both_of (corners_from k.first k.firsts) (corners_from k.second k.seconds) in
    let S = state_of (corners_from start chain) in
    let h = u.ensures B k.slots S (stepped a.d (end_from start chain))
    (back_clears a.t.now k.first k.second k.firsts k.seconds k.slots a.q a.w.party a.w.stock a.d k.moves
    q.3 q.2 o.result o.ensures v.new.t e m.result (back-moved a.t.now k.first k.second k.firsts k.seconds k.slots a.q a.w.party a.w.stock a.d k.moves q.3 q.2 m.result m.ensures)) in
    (record { both = B; slots = k.slots; state = S; holds = back_leaves a.t.now k.first k.second k.firsts k.seconds k.slots a.q a.w.party a.w.stock a.d k.moves q.3 q.2 o.result o.ensures u.new.t h }, omega (arith, q.4))

pub overflow_sub-party : goal.overflow_sub-party
overflow_sub-party c =
    let a = c.args in
    let k = c.requires.withdrawing in
    let q = c.requires.at_bound in
    omega (arith, back-steps a.t.now k.first k.second k.firsts k.seconds k.slots a.q a.w.party a.w.stock a.d k.moves q.3 q.2)

pub returns : goal.returns
returns c =
    let a = c.args in
    let q = c.requires.at_bound in
    let n = c.own in
    let o = c.origin-from in
    let m = c.moved-at in
    let v = c.unvisit in
    let u = c.unlink_up in
    let r = c.drop_up-stock in
    let e = v.ensures ∙ ap (λ (l : List ℕ). pair_unvisit_in a.q l a.w.party.node) c.untread.ensures in
    let w : Stride = record { party = record { node = o.result; at = m.result; steps = a.w.party.steps - 1; tally = c.untallied-tally.result }; stock = r.result } in
    λ x y ds es slots k.
    let start = by_party a.q x y in
    let chain = by_party a.q ds es in
    let B = both_of (corners_from x ds) (corners_from y es) in
    let S = state_of (corners_from start chain) in
    let i = back-moved a.t.now x y ds es slots a.q a.w.party a.w.stock a.d k q.3 q.2 m.result m.ensures in
    let h = u.ensures B slots S (stepped a.d (end_from start chain))
    (back_clears a.t.now x y ds es slots a.q a.w.party a.w.stock a.d k q.3 q.2 o.result o.ensures v.new.t e
    m.result i) in
    back_to a.t.now x y ds es slots a.q a.w.party a.w.stock a.d k q.3 q.2 o.result o.ensures r.new.t w
    (r.ensures B slots S (back_leaves a.t.now x y ds es slots a.q a.w.party a.w.stock a.d k q.3 q.2 o.result
    o.ensures u.new.t h))
    refl i refl
    (c.untallied-tally.ensures start chain a.d
    (back_seen a.t.now x y ds es slots a.q a.w.party a.w.stock a.d k q.3 q.2 n.result n.ensures) (back-steps a.t.now x y ds es slots a.q a.w.party a.w.stock a.d k q.3 q.2) (back_counted a.t.now x y ds es slots a.q a.w.party a.w.stock a.d k q.3 q.2))

-- `pair_move::arrive` meets its contract.
use mathlib.Core.List.{List}
use mathlib.Core.Path.{refl, ap, ◌∙◌}
use Prim.Native.Nat.{ℕ}
use native.Mathlib.Omega.{arith}
use Rattle.pair_table_laws.specs.Stores.{pair_tread_in}
use Rattle.pair_move.specs.declared.Party.{Party}
use Rattle.pair_move.proofs.MoveLaws.{arrive_in, arrive_visits, arrive_treads, arrive_bound, arrive_counted, arrive_corners, arrive_party, first_some}
use Rattle.pair_move.proofs.arrive.Goals as goal

pub visit-requires : goal.visit-requires
visit-requires c =
    let a = c.args in
    let k = c.requires.arriving in
    let q = c.requires.at_bound in
    (arrive_in a.t.now k.slots k.both a.q k.start k.chain a.p a.v a.d a.n k.arrives q.3 q.2, q.3, omega (arith, arrive_visits a.t.now k.slots k.both a.q k.start k.chain a.p a.v a.d a.n k.arrives q.3 q.2, q.4), omega (arith, q.4))

pub tread-requires : goal.tread-requires
tread-requires c =
    let a = c.args in
    let k = c.requires.arriving in
    let q = c.requires.at_bound in
    let v = c.visit in
    let h = arrive_treads a.t.now k.slots k.both a.q k.start k.chain a.p a.v a.d a.n k.arrives
    q.3 q.2 v.new.t v.ensures in
    (h.0, h.1, q.3, q.2, omega (arith, h.2, q.4))

pub own-first-requires : goal.own-first-requires
own-first-requires c =
    let a = c.args in
    let k = c.requires.arriving in
    let q = c.requires.at_bound in
    let w = c.tread in
    let e = w.ensures ∙ ap (λ (l : List ℕ). pair_tread_in a.q l a.p.node a.v a.d) c.visit.ensures in
    (arrive_bound a.t.now k.slots k.both a.q k.start k.chain a.p a.v a.d a.n k.arrives q.3 q.2 w.new.t e, q.3, omega arith)

pub own-requires : goal.own-requires
own-requires c =
    let a = c.args in
    let k = c.requires.arriving in
    let q = c.requires.at_bound in
    let w = c.tread in
    let e = w.ensures ∙ ap (λ (l : List ℕ). pair_tread_in a.q l a.p.node a.v a.d) c.visit.ensures in
    (arrive_bound a.t.now k.slots k.both a.q k.start k.chain a.p a.v a.d a.n k.arrives q.3 q.2 w.new.t e, q.3, omega arith)

pub tallied-tally-requires : goal.tallied-tally-requires
tallied-tally-requires c =
    let a = c.args in
    let k = c.requires.arriving in
    let q = c.requires.at_bound in
    let w = c.tread in
    let f = c.own-first in
    let v = c.own in
    let e = w.ensures ∙ ap (λ (l : List ℕ). pair_tread_in a.q l a.p.node a.v a.d) c.visit.ensures in
    let h = arrive_counted a.t.now k.slots k.both a.q k.start k.chain a.p a.v a.d a.n k.arrives
    q.3 q.2 w.new.t e v.result f.result v.ensures f.ensures in
    (arrive_corners a.t.now k.slots k.both a.q k.start k.chain a.p a.v a.d a.n k.arrives q.3 q.2 q.4, first_some k.start k.chain a.d v.result f.result a.n h, q.4)

pub returns : goal.returns
returns c =
    let a = c.args in
    let q = c.requires.at_bound in
    let w = c.tread in
    let f = c.own-first in
    let v = c.own in
    let m = c.tallied-tally in
    let e = w.ensures ∙ ap (λ (l : List ℕ). pair_tread_in a.q l a.p.node a.v a.d) c.visit.ensures in
    let r : Party = record { node = a.v; at = c.moved-at.result; steps = a.n; tally = m.result } in
    record {
      t_after = e;
      party_is = λ slots C x ds k.
          arrive_party a.t.now slots C a.q x ds a.p a.v a.d a.n k q.3 q.2 r refl c.moved-at.ensures refl
          (m.ensures x ds a.d
          (arrive_counted a.t.now slots C a.q x ds a.p a.v a.d a.n k q.3 q.2 w.new.t e v.result f.result v.ensures f.ensures) k.party.counted);
    }

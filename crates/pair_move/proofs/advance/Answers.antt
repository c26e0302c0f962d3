-- `pair_move::advance` meets its contract.
use mathlib.Core.Path.{refl}
use Prim.Native.Nat.{◌+◌}
use native.Mathlib.Omega.{arith}
use Rattle.grid.specs.Grid.{corners_from}
use Rattle.pair_steps.specs.Parties.{by_party}
use Rattle.pair_table_laws.specs.Hold.{both_of}
use Rattle.pair_move.specs.declared.Stride.{Stride}
use Rattle.pair_move.proofs.MoveLaws.{moves_looks, moves_full, moves_arrives, moves-to}
use Rattle.pair_move.proofs.advance.Goals as goal

pub invariant_of-from : goal.invariant_of-from
invariant_of-from c =
    let q = c.requires.at_bound in
    record { near = (q.0, q.1); way = q.2; counted = omega arith }

pub reach-requires : goal.reach-requires
reach-requires c =
    let a = c.args in
    let k = c.requires.moving in
    let q = c.requires.at_bound in
    record {
      looking = record {
        slots = k.slots;
        both = both_of (corners_from k.first k.firsts) (corners_from k.second k.seconds);
        looks = moves_looks a.t.now k.first k.second k.firsts k.seconds k.slots a.q a.w.party a.w.stock k.moves
            q.3;
      };
      q_bound = (q.3, omega (arith, q.4), q.5);
    }

pub returns-in_err-to : goal.returns-in_err-to
returns-in_err-to c =
    let a = c.args in
    let q = c.requires.at_bound in
    let t = c.reach.new.t in
    rw c.from_residual.ensures (λ x y ds es slots k.
    moves_full a.t.now x y ds es slots a.q a.w.party a.w.stock k q.3 a.d q.2 (a.w.party.steps + 1) refl t
    (c.in_err-to.ensures slots (both_of (corners_from x ds) (corners_from y es))
    (moves_looks a.t.now x y ds es slots a.q a.w.party a.w.stock k q.3)) t)

pub arrive-party-requires : goal.arrive-party-requires
arrive-party-requires c =
    let a = c.args in
    let k = c.requires.moving in
    let q = c.requires.at_bound in
    let r = c.in_ok-to in
    let B = both_of (corners_from k.first k.firsts) (corners_from k.second k.seconds) in
    let l = moves_looks a.t.now k.first k.second k.firsts k.seconds k.slots a.q a.w.party a.w.stock k.moves q.3 in
    record {
      arriving = record {
        slots = k.slots;
        both = B;
        start = by_party a.q k.first k.second;
        chain = by_party a.q k.firsts k.seconds;
        arrives = moves_arrives a.t.now k.first k.second k.firsts k.seconds k.slots a.q a.w.party a.w.stock
            k.moves q.3 a.d q.2 (a.w.party.steps + 1) refl c.reach.new.t r.to (r.ensures k.slots B l);
      };
      at_bound = (q.0, q.1, q.2, q.3, q.4);
    }

pub returns : goal.returns
returns c =
    let a = c.args in
    let q = c.requires.at_bound in
    let r = c.in_ok-to in
    let t = c.reach.new.t in
    let v = c.arrive-party in
    let w : Stride = record { party = v.result; stock = r.to.stock } in
    λ x y ds es slots k.
    let B = both_of (corners_from x ds) (corners_from y es) in
    let f = r.ensures slots B (moves_looks a.t.now x y ds es slots a.q a.w.party a.w.stock k q.3) in
    moves-to a.t.now x y ds es slots a.q a.w.party a.w.stock k q.3 a.d q.2 (a.w.party.steps + 1) refl t
    r.to f v.new.t v.ensures.t_after w
    (v.ensures.party_is slots B (by_party a.q x y) (by_party a.q ds es)
    (moves_arrives a.t.now x y ds es slots a.q a.w.party a.w.stock k q.3 a.d q.2 (a.w.party.steps + 1) refl t r.to f))
    refl

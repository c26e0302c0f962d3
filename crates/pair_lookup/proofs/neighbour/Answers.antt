-- `pair_lookup::neighbour` meets its contract.
use mathlib.Core.Path.{ap}
use native.Mathlib.Omega.{arith}
use lib.IntN.{nat_abs}
use Rattle.grid.specs.declared.Corner.{Corner}
use Rattle.grid.specs.Grid.{stepped}
use Rattle.tree_laws.specs.State.{reached}
use Rattle.table_laws.proofs.ClimbLaws.{up_small}
use Rattle.pair_child.proofs.StockLaws.{finds_long}
use Rattle.pair_lookup.proofs.LiftLaws.{level-none, level_comes}
use Rattle.pair_lookup.proofs.neighbour.Goals as goal

pub invariant_of-high : goal.invariant_of-high
invariant_of-high c =
    let a = c.args in
    let k = c.requires.looking in
    let p = c.climb-p in
    let e = (p.ensures.climbed k.slots k.both k.looks.stands).0.above in
    let h = up_small p.result.level a.from.at in
    record {
      near = (omega (arith, ap (λ (y : Corner). nat_abs y.0) e, h.0, a.from.near.0), omega (arith, ap (λ (y : Corner). nat_abs y.1) e, h.1, a.from.near.1));
      way = a.from.way;
      counted = a.from.counted;
    }

pub top-requires : goal.top-requires
top-requires c =
    let k = c.requires.looking in
    let p = c.climb-p in
    let j = p.ensures.climbed k.slots k.both k.looks.stands in
    record {
      looking = record { slots = k.slots; both = k.both; looks = record { stands = j.1; top = k.looks.top; stock = k.looks.stock } };
      d_value = p.ensures.d_value;
      q_bound = c.requires.q_bound;
    }

pub returns-in_err-v : goal.returns-in_err-v
returns-in_err-v c =
    let a = c.args in
    let p = c.climb-p in
    rw c.from_residual.ensures (λ slots B k.
    let j = p.ensures.climbed slots B k.stands in
    level-none a.t.now slots B a.q a.from.node a.from.at a.s k a.from.d a.from.step p.result.level p.result.node
    p.result.at j.0 j.1 c.top.new.t
    (c.in_err-v.ensures slots B (record { stands = j.1; top = k.top; stock = k.stock })))

pub come_down-requires : goal.come_down-requires
come_down-requires c =
    let a = c.args in
    let k = c.requires.looking in
    let p = c.climb-p in
    let v = c.in_ok-v in
    let j = p.ensures.climbed k.slots k.both k.looks.stands in
    record {
      coming = record {
        slots = k.slots;
        both = k.both;
        comes = level_comes a.t.now k.slots k.both a.q a.from.node a.from.at a.s k.looks a.from.d a.from.step
            p.result.level p.result.node p.result.at j.0 j.1 c.top.new.t v.v
            (v.ensures k.slots k.both (record { stands = j.1; top = k.looks.top; stock = k.looks.stock }));
      };
      q_bound = (c.requires.q_bound.0, c.requires.q_bound.1, omega (arith, c.top.auto.t, c.requires.q_bound.2));
    }

pub returns : goal.returns
returns c =
    let a = c.args in
    let p = c.climb-p in
    let v = c.in_ok-v in
    let r = c.come_down in
    λ slots B k.
    let j = p.ensures.climbed slots B k.stands in
    finds_long B slots a.q (reached (B a.q) a.from.step a.from.at (stepped a.from.d a.from.at)) (stepped a.from.d a.from.at) c.top.new.t
    a.t.now r.new.t r.result c.top.auto.t
    (r.ensures slots B (level_comes a.t.now slots B a.q a.from.node a.from.at a.s k a.from.d a.from.step p.result.level
    p.result.node p.result.at j.0 j.1 c.top.new.t v.v (v.ensures slots B (record { stands = j.1; top = k.top; stock = k.stock }))))

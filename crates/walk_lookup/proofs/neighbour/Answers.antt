-- `walk_lookup::neighbour` meets its contract.
use mathlib.Core.Path.{refl, ap, subst}
use Prim.Native.Nat.{ℕ, ◌+◌, max}
use native.Mathlib.Omega.{arith}
use lib.IntN.{nat_abs}
use Rattle.grid.specs.declared.Corner.{Corner}
use Rattle.grid.specs.Grid.{stepped}
use Rattle.tree_laws.specs.State.{Made, reached}
use Rattle.walk_table.specs.Refs.{ref_by}
use Rattle.table_laws.proofs.Cites.{stood}
use Rattle.table_laws.proofs.ClimbLaws.{up_small, level-none, level_descends}
use Rattle.walk_lookup.proofs.neighbour.Goals as goal

pub invariant_of-high : goal.invariant_of-high
invariant_of-high c =
    let a = c.args in
    let k = c.requires.stood in
    let p = c.climb-p in
    let e = (p.ensures.climbed k.state k.holds k.here).0.above in
    let h = up_small p.result.level a.from.at in
    record {
      near = (omega (arith, ap (λ (y : Corner). nat_abs y.0) e, h.0, a.from.near.0), omega (arith, ap (λ (y : Corner). nat_abs y.1) e, h.1, a.from.near.1));
      way = a.from.way;
      counted = a.from.counted;
    }

pub top-requires : goal.top-requires
top-requires c =
    let a = c.args in
    let k = c.requires.stood in
    let p = c.climb-p in
    let j = p.ensures.climbed k.state k.holds k.here in
    record {
      stood = stood a.t.now a.nodes p.result.node p.result.at k.state k.holds j.1;
      d_value = p.ensures.d_value;
      t_len_bound = c.requires.t_len_bound;
    }

pub returns-in_err-v : goal.returns-in_err-v
returns-in_err-v c =
    let a = c.args in
    let p = c.climb-p in
    rw c.from_residual.ensures (λ S h r. level-none a.t.now a.nodes a.from.node a.from.at a.from.d a.from.step S h r a.from.way a.from.counted p.result.level
    p.result.node p.result.at (p.ensures.climbed S h r).0 (p.ensures.climbed S h r).1 c.top.new.t
    0 (c.in_err-v.ensures S h (p.ensures.climbed S h r).1) refl)

pub come_down-requires : goal.come_down-requires
come_down-requires c =
    let b = c.top in
    let v = c.in_ok-v in
    let a = c.args in
    let k = c.requires.stood in
    let p = c.climb-p in
    let d = level_descends a.t.now a.nodes a.from.node a.from.at a.from.d a.from.step k.state k.holds k.here a.from.way a.from.counted
    p.result.level p.result.node p.result.at (p.ensures.climbed k.state k.holds k.here).0
    (p.ensures.climbed k.state k.holds k.here).1 b.new.t (v.v + 1)
    (v.ensures k.state k.holds (p.ensures.climbed k.state k.holds k.here).1) (λ z. omega arith) in
    record {
      descending = record { state = k.state; descends = d.0 };
      t_len_bound = omega (arith, d.1, c.requires.t_len_bound);
    }

pub returns : goal.returns
returns c =
    let b = c.top in
    let v = c.in_ok-v in
    let e = c.come_down in
    let a = c.args in
    let p = c.climb-p in
    λ S h r.
    let d = level_descends a.t.now a.nodes a.from.node a.from.at a.from.d a.from.step S h r a.from.way a.from.counted p.result.level
    p.result.node p.result.at (p.ensures.climbed S h r).0 (p.ensures.climbed S h r).1 b.new.t (v.v + 1)
    (v.ensures S h (p.ensures.climbed S h r).1) (λ z. omega arith) in
    subst (λ (w : ℕ). Made w (reached S a.from.step a.from.at (stepped a.from.d a.from.at)) (stepped a.from.d a.from.at) e.new.t (ref_by e.result)
    (max a.nodes (ref_by e.result))) d.1 (e.ensures S d.0)

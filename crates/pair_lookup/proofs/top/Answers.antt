-- `pair_lookup::top` meets its contract.
use mathlib.Core.Path.{◌≡◌, ap, sym, ◌∙◌}
use native.Mathlib.Omega.{arith}
use Rattle.grid.specs.Tree.{is_root}
use Rattle.pair_lookup.proofs.ClimbLaws.{stands_bound}
use Rattle.pair_lookup.proofs.LiftLaws.{looks_known, looks_root, looks_lift, looks_first}
use Rattle.pair_lookup.proofs.top.Goals as goal

pub own-requires : goal.own-requires
own-requires c =
    let a = c.args in
    let k = c.requires.looking in
    (stands_bound a.t.now k.slots k.both a.q a.from.node a.from.at k.looks.stands, c.requires.q_bound.0, omega (arith, a.from.way))

pub word-known-requires : goal.word-known-requires
word-known-requires c =
    let a = c.args in
    let k = c.requires.looking in
    omega (arith, stands_bound a.t.now k.slots k.both a.q a.from.node a.from.at k.looks.stands, a.from.way)

pub overflow_sub-result : goal.overflow_sub-result
overflow_sub-result c =
    let a = c.args in
    let k = c.requires.looking in
    omega (arith, (looks_known a.t.now k.slots k.both a.q a.from.node a.from.at a.s k.looks c.requires.q_bound.0 a.from.d a.from.step a.from.way a.from.counted (omega (arith, c.own.ensures, c.if-own-ne0.true)) c.word-known.result c.word-known.ensures).0)

pub returns-then-own-ne0 : goal.returns-then-own-ne0
returns-then-own-ne0 c =
    let a = c.args in
    λ slots B k. (looks_known a.t.now slots B a.q a.from.node a.from.at a.s k c.requires.q_bound.0 a.from.d a.from.step a.from.way a.from.counted
    (omega (arith, c.own.ensures, c.if-own-ne0.true)) c.word-known.result c.word-known.ensures).1

pub link-requires : goal.link-requires
link-requires c =
    let a = c.args in
    let k = c.requires.looking in
    record {
      in_table = (stands_bound a.t.now k.slots k.both a.q a.from.node a.from.at k.looks.stands, looks_first a.t.now k.slots k.both a.q a.from.node a.from.at a.s k.looks);
      q_bound = (c.requires.q_bound.0, a.from.way, c.requires.q_bound.2);
    }

pub returns-then-is_root : goal.returns-then-is_root
returns-then-is_root c =
    let a = c.args in
    let o = c.own in
    let z : o.result ≡ 0 = omega (arith, c.if-own-ne0.false) in
    let g = ap is_root (sym c.moved-e.ensures) ∙ sym c.is_root.ensures ∙ c.if-is_root.true in
    λ slots B k. looks_root a.t.now slots B a.q a.from.node a.from.at a.s k c.requires.q_bound.0 a.from.d a.from.step a.from.way a.from.counted
    (sym o.ensures ∙ z) g c.link.new.t c.link.ensures

pub parent_or_self-over-requires : goal.parent_or_self-over-requires
parent_or_self-over-requires c =
    let a = c.args in
    let k = c.requires.looking in
    let b = stands_bound a.t.now k.slots k.both a.q a.from.node a.from.at k.looks.stands in
    (b, omega (arith, b, c.requires.q_bound.2))

pub overflow_sub-above : goal.overflow_sub-above
overflow_sub-above c =
    let a = c.args in
    let k = c.requires.looking in
    let o = c.own in
    let z : o.result ≡ 0 = omega (arith, c.if-own-ne0.false) in
    let g = ap is_root (sym c.moved-e.ensures) ∙ sym c.is_root.ensures ∙ c.if-is_root.false in
    let p = c.parent_or_self-over in
    omega (arith, (looks_lift a.t.now k.slots k.both a.q a.from.node a.from.at a.s k.looks c.requires.q_bound.0 a.from.d a.from.step a.from.way a.from.counted (sym o.ensures ∙ z) g c.requires.d_value p.result p.ensures).0)

pub level_down-requires : goal.level_down-requires
level_down-requires c =
    let a = c.args in
    let k = c.requires.looking in
    let o = c.own in
    let z : o.result ≡ 0 = omega (arith, c.if-own-ne0.false) in
    let g = ap is_root (sym c.moved-e.ensures) ∙ sym c.is_root.ensures ∙ c.if-is_root.false in
    let p = c.parent_or_self-over in
    record {
      lifting = record {
        slots = k.slots;
        both = k.both;
        lifts = (looks_lift a.t.now k.slots k.both a.q a.from.node a.from.at a.s k.looks c.requires.q_bound.0 a.from.d a.from.step a.from.way
            a.from.counted (sym o.ensures ∙ z) g c.requires.d_value p.result p.ensures).1;
      };
      q_bound = c.requires.q_bound;
    }

pub returns : goal.returns
returns c =
    let a = c.args in
    let o = c.own in
    let z : o.result ≡ 0 = omega (arith, c.if-own-ne0.false) in
    let g = ap is_root (sym c.moved-e.ensures) ∙ sym c.is_root.ensures ∙ c.if-is_root.false in
    let p = c.parent_or_self-over in
    λ slots B k. c.level_down.ensures slots B
    (looks_lift a.t.now slots B a.q a.from.node a.from.at a.s k c.requires.q_bound.0 a.from.d a.from.step a.from.way a.from.counted (sym o.ensures ∙ z) g
    c.requires.d_value p.result p.ensures).1

-- `pair_lookup::reach` meets its contract.
use native.Mathlib.Omega.{arith}
use Rattle.pair_lookup.proofs.ClimbLaws.{stands_bound}
use Rattle.pair_lookup.proofs.LiftLaws.{looks_known}
use Rattle.pair_lookup.proofs.reach.Goals as goal

pub own-requires : goal.own-requires
own-requires c =
    let a = c.args in
    let k = c.requires.looking in
    (stands_bound a.t.now k.slots k.both a.q a.from.node a.from.at k.looks.stands, c.requires.q_bound.0, omega (arith, a.from.way))

pub word-known-requires : goal.word-known-requires
word-known-requires c =
    let a = c.args in
    let k = c.requires.looking in
    omega (arith, stands_bound a.t.now k.slots k.both a.q a.from.node a.from.at k.looks.stands, a.from.way)

pub overflow_sub-result : goal.overflow_sub-result
overflow_sub-result c =
    let a = c.args in
    let k = c.requires.looking in
    omega (arith, (looks_known a.t.now k.slots k.both a.q a.from.node a.from.at a.s k.looks c.requires.q_bound.0 a.from.d a.from.step a.from.way a.from.counted (omega (arith, c.own.ensures, c.if-own-ne0.true)) c.word-known.result c.word-known.ensures).0)

pub returns-then-own-ne0 : goal.returns-then-own-ne0
returns-then-own-ne0 c =
    let a = c.args in
    λ slots B k. (looks_known a.t.now slots B a.q a.from.node a.from.at a.s k c.requires.q_bound.0 a.from.d a.from.step a.from.way a.from.counted
    (omega (arith, c.own.ensures, c.if-own-ne0.true)) c.word-known.result c.word-known.ensures).1

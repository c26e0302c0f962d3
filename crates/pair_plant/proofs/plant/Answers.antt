-- `pair_plant::plant` meets its contract.
use native.Mathlib.Omega.{arith}
use Rattle.pair_plant.proofs.GrowLaws.{plants_in, plants_visits, plants_visit}
use Rattle.pair_plant.proofs.plant.Goals as goal

pub returns-in_err-to : goal.returns-in_err-to
returns-in_err-to c = rw c.from_residual.ensures c.in_err-to.ensures

pub visit-requires : goal.visit-requires
visit-requires c =
    let a = c.args in
    let k = c.requires.planting in
    let q = c.requires.near in
    let o = c.in_ok-to in
    let h = o.ensures k.slots k.both k.plants in
    (plants_in a.t.now k.slots k.both a.q a.s k.plants q.1 a.c a.t.now c.grow.new.t o.to h, q.1, omega (arith, plants_visits a.t.now k.slots k.both a.q a.s k.plants q.1 a.c a.t.now c.grow.new.t o.to h), omega arith)

pub returns : goal.returns
returns c =
    let a = c.args in
    let o = c.in_ok-to in
    λ slots C k. plants_visit a.t.now slots C a.q a.s k c.requires.near.1 a.c a.t.now c.grow.new.t
    o.to (o.ensures slots C k) c.visit.new.t c.visit.ensures

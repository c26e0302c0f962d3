-- `walk_step::go` meets its contract.
use mathlib.Core.Path.{refl}
use Prim.Native.Nat.{◌+◌, max}
use native.Mathlib.Omega.{arith}
use Rattle.walk_step.specs.declared.Spot.{Spot}
use Rattle.walk_step.proofs.SpotLaws.{step_stood, step_full, step_visits, step_treads, step_to}
use Rattle.walk_step.proofs.go.Goals as goal

pub invariant_of-from : goal.invariant_of-from
invariant_of-from c =
    let q = c.requires.at_bound in
    record { near = (q.0, q.1); way = q.2; counted = omega arith }

pub reach-requires : goal.reach-requires
reach-requires c =
    let a = c.args in
    let k = c.requires.standing in
    let q = c.requires.at_bound in
    record {
      stood = step_stood a.t.now k.start k.chain a.w k.walked;
      t_len_bound = q.4;
    }

pub returns-in_err-at : goal.returns-in_err-at
returns-in_err-at c =
    let a = c.args in
    let o = c.in_err-at.ensures in
    rw c.from_residual.ensures (λ x ds h. (step_full a.t.now x ds a.w h a.d c.requires.at_bound.2 c.reach.new.t 0 (max a.w.nodes 0) o.made refl, o.t_after refl))

pub visit-requires : goal.visit-requires
visit-requires c =
    let a = c.args in
    let k = c.requires.standing in
    let q = c.requires.at_bound in
    let o = c.in_ok-at in
    let v = step_visits a.t.now k.start k.chain a.w k.walked a.d q.2 c.reach.new.t (o.at + 1)
    (max a.w.nodes (o.at + 1)) o.ensures.made o.at refl in
    (v.0, omega (arith, v.1, q.3), omega (arith, q.3))

pub tread-requires : goal.tread-requires
tread-requires c =
    let a = c.args in
    let k = c.requires.standing in
    let q = c.requires.at_bound in
    let o = c.in_ok-at in
    let v = c.visit in
    let r = step_treads a.t.now k.start k.chain a.w k.walked a.d q.2 c.reach.new.t (o.at + 1)
    (max a.w.nodes (o.at + 1)) o.ensures.made o.at refl v.new.t v.ensures v.auto.t in
    (r.0, r.1, q.2, omega (arith, r.2, q.3))

pub overflow_add-at : goal.overflow_add-at
overflow_add-at c =
    let a = c.args in
    let k = c.requires.standing in
    let q = c.requires.at_bound in
    let o = c.in_ok-at in
    let v = step_visits a.t.now k.start k.chain a.w k.walked a.d q.2 c.reach.new.t (o.at + 1)
    (max a.w.nodes (o.at + 1)) o.ensures.made o.at refl in
    record { fits = omega (arith, v.0, q.4) }

pub returns : goal.returns
returns c =
    let a = c.args in
    let q = c.requires.at_bound in
    let o = c.in_ok-at in
    let v = c.visit in
    let e = c.tread in
    let m = c.moved-there in
    let r : Spot = record { node = o.at; at = m.result; steps = a.w.steps + 1; nodes = c.max.result } in
    λ x ds h.
    step_to a.t.now x ds a.w h a.d q.2 c.reach.new.t (o.at + 1) (max a.w.nodes (o.at + 1)) o.ensures.made
    o.at refl v.new.t v.ensures e.new.t e.ensures r refl m.ensures refl c.max.ensures

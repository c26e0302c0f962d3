-- `walk_step::take_back` meets its contract.
use mathlib.Core.Path.{refl, sym, subst}
use Prim.Native.Nat.{ℕ, suc, ◌+◌, ◌-◌, ◌*◌, ◌%◌, ◌≤◌}
use native.Mathlib.Omega.{arith}
use Rattle.grid.specs.Grid.{stepped, corners_from, end_from}
use Rattle.layout.specs.Table.{width}
use Rattle.tree_laws.specs.State.{state_of}
use Rattle.walk_step.specs.declared.Spot.{Spot}
use Rattle.walk_step.proofs.SpotLaws.{back-steps, back_bound, back-linked, back_treads, back_visits, back_unlinks, back_drops, back_to}
use Rattle.walk_step.proofs.take_back.Goals as goal

pub word-requires : goal.word-requires
word-requires c =
    let a = c.args in
    let k = c.requires.stepped in
    let q = c.requires.at_bound in
    let dir = q.2 in
    let T = a.t.now in
    omega (arith, back_bound T k.start k.chain a.d a.w k.walked dir)

pub overflow_sub-from : goal.overflow_sub-from
overflow_sub-from c =
    let a = c.args in
    let k = c.requires.stepped in
    let q = c.requires.at_bound in
    let dir = q.2 in
    let T = a.t.now in
    let e = c.word in
    let l = back-linked T k.start k.chain a.d a.w k.walked dir e.result e.ensures in
    omega (arith, l.0)

pub untread-requires : goal.untread-requires
untread-requires c =
    let a = c.args in
    let k = c.requires.stepped in
    let q = c.requires.at_bound in
    let dir = q.2 in
    let T = a.t.now in
    let e = c.word in
    let l = back-linked T k.start k.chain a.d a.w k.walked dir e.result e.ensures in
    let y = back_treads T k.start k.chain a.d a.w k.walked dir (e.result - 1) l.1 in
    (y.0, back_bound T k.start k.chain a.d a.w k.walked dir, dir, y.1)

pub unvisit-requires : goal.unvisit-requires
unvisit-requires c =
    let a = c.args in
    let k = c.requires.stepped in
    let q = c.requires.at_bound in
    let dir = q.2 in
    let T = a.t.now in
    let e = c.word in
    let l = back-linked T k.start k.chain a.d a.w k.walked dir e.result e.ensures in
    let o = c.untread in
    (subst (λ (n : ℕ). suc a.w.node * width ≤ n) (sym o.auto.t) (back_bound T k.start k.chain a.d a.w k.walked dir), back_visits T k.start k.chain a.d a.w k.walked dir o.new.t (e.result - 1) o.ensures)

pub unlink_up-requires : goal.unlink_up-requires
unlink_up-requires c =
    let a = c.args in
    let k = c.requires.stepped in
    let q = c.requires.at_bound in
    let dir = q.2 in
    let T = a.t.now in
    let e = c.word in
    let l = back-linked T k.start k.chain a.d a.w k.walked dir e.result e.ensures in
    let o = c.untread in
    let v = c.unvisit in
    let u = back_unlinks T k.start k.chain a.d a.w k.walked dir o.new.t v.new.t (e.result - 1) l.1
    o.ensures v.ensures in
    record { state = state_of (corners_from k.start k.chain); end = stepped a.d (end_from k.start k.chain); holds = u.0 }

pub drop_up-left-requires : goal.drop_up-left-requires
drop_up-left-requires c =
    let a = c.args in
    let k = c.requires.stepped in
    let q = c.requires.at_bound in
    let dir = q.2 in
    let T = a.t.now in
    let e = c.word in
    let l = back-linked T k.start k.chain a.d a.w k.walked dir e.result e.ensures in
    let o = c.untread in
    let v = c.unvisit in
    let n = c.unlink_up in
    let S = state_of (corners_from k.start k.chain) in
    let u = back_unlinks T k.start k.chain a.d a.w k.walked dir o.new.t v.new.t (e.result - 1) l.1
    o.ensures v.ensures in
    record { state = S; holds = (back_drops T k.start k.chain a.d a.w k.walked dir v.new.t n.new.t u.1 (n.ensures S (stepped a.d (end_from k.start k.chain)) u.0)).0 }

pub overflow_sub-result : goal.overflow_sub-result
overflow_sub-result c =
    let a = c.args in
    let k = c.requires.stepped in
    let q = c.requires.at_bound in
    let dir = q.2 in
    let T = a.t.now in
    omega (arith, back-steps T k.start k.chain a.d a.w k.walked dir)

pub returns : goal.returns
returns c =
    let a = c.args in
    let dir = c.requires.at_bound.2 in
    let T = a.t.now in
    let e = c.word in
    let o = c.untread in
    let v = c.unvisit in
    let n = c.unlink_up in
    let m = c.drop_up-left in
    let r : Spot = record { node = e.result - 1; at = c.moved-there.result; steps = a.w.steps - 1; nodes = m.result } in
    λ x ds h.
    let S = state_of (corners_from x ds) in
    let l = back-linked T x ds a.d a.w h dir e.result e.ensures in
    let u = back_unlinks T x ds a.d a.w h dir o.new.t v.new.t (e.result - 1) l.1 o.ensures v.ensures in
    let g = back_drops T x ds a.d a.w h dir v.new.t n.new.t u.1
    (n.ensures S (stepped a.d (end_from x ds)) u.0) in
    back_to T x ds a.d a.w h dir n.new.t m.new.t m.result g.1 (m.ensures S g.0) r ((a.d + 2) % 4)
    (e.result - 1) refl l.1 refl c.moved-there.ensures refl refl

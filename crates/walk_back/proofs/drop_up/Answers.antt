-- `walk_back::drop_up` meets its contract.
use mathlib.Core.Path.{refl, ap, sym, ◌∙◌}
use native.Mathlib.Omega.{arith}
use lib.ListN.{length}
use Rattle.walk_back.proofs.RoundLaws.{newest_bounds, dropped_bound, dropped_newest, dropped_left, dropped_stop, dropped_next, length_node}
use Rattle.walk_back.proofs.drop_up.Goals as goal

pub loop-here-init : goal.loop-here-init
loop-here-init c = (refl, λ S h. h)

pub word-requires : goal.word-requires
word-requires c =
    let l = c.loop-here in
    let a = c.args in
    omega (arith, dropped_bound a.t.now a.nodes a.u a.c a.step l.t l.left l.at l.here l.invariant.1 c.requires)

pub drop_node-at-requires : goal.drop_node-at-requires
drop_node-at-requires c =
    let l = c.loop-here in
    let a = c.args in
    dropped_newest a.t.now a.nodes a.u a.c a.step l.t l.left l.at l.here l.invariant.1 c.requires
    (sym c.word.ensures ∙ c.loop-here-test.true)

pub overflow_sub-left : goal.overflow_sub-left
overflow_sub-left c =
    let l = c.loop-here in
    let a = c.args in
    omega (arith, dropped_left a.t.now a.nodes a.u a.c a.step l.t l.left l.at l.here l.invariant.1 c.requires (sym c.word.ensures ∙ c.loop-here-test.true))

pub loop-here-smaller : goal.loop-here-smaller
loop-here-smaller c =
    let l = c.loop-here in
    let a = c.args in
    let k = dropped_newest a.t.now a.nodes a.u a.c a.step l.t l.left l.at l.here l.invariant.1
    c.requires (sym c.word.ensures ∙ c.loop-here-test.true) in
    omega (arith, (newest_bounds l.t l.at l.here k).2, c.drop_node-at.ensures.0)

pub loop-here-preserved : goal.loop-here-preserved
loop-here-preserved c =
    let l = c.loop-here in
    let a = c.args in
    let n = c.drop_node-at in
    let q = n.ensures in
    (ap length q.1 ∙ length_node l.t l.at l.here n.result ∙ l.invariant.0, dropped_next a.t.now a.nodes a.u a.c a.step l.t l.left l.at l.here l.invariant.1 (sym c.word.ensures ∙ c.loop-here-test.true) n.new.t n.result c.parent_of-here.result q.0 q.1 c.parent_of-here.ensures)

pub returns : goal.returns
returns c =
    let l = c.loop-here in
    let a = c.args in
    dropped_stop a.t.now a.nodes a.u a.c a.step l.t l.left l.at l.here l.invariant.1 l.invariant.0
    (λ e. c.loop-here-test.false (c.word.ensures ∙ e))

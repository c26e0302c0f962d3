-- `pair_back::unlink_up` meets its contract.
use mathlib.Core.Path.{◌∙◌}
use Rattle.pair_back.proofs.RoundLaws.{unlinked_joined, unlinked_falls, unlinked_next}
use Rattle.pair_back.proofs.unlink_up.Goals as goal

pub unlink_level-next-requires : goal.unlink_level-next-requires
unlink_level-next-requires c =
    let l = c.loop-next in
    let a = c.args in
    unlinked_joined a.t.now a.q a.u a.c a.d a.step c.requires l.t l.next l.here l.invariant.1 c.in-Some.at c.in-Some.is

pub loop-next-smaller : goal.loop-next-smaller
loop-next-smaller c =
    let l = c.loop-next in
    let a = c.args in
    let n = c.unlink_level-next in
    unlinked_falls a.t.now a.q a.u a.c a.d a.step c.requires l.t l.next l.here l.invariant.1 c.in-Some.at c.in-Some.is
    n.new.t n.result n.ensures c.parent_of-here.result c.parent_of-here.ensures

pub loop-next-preserved : goal.loop-next-preserved
loop-next-preserved c =
    let l = c.loop-next in
    let a = c.args in
    let n = c.unlink_level-next in
    (n.auto.t ∙ l.invariant.0, unlinked_next a.t.now a.q a.u a.c a.d a.step c.requires l.t l.next l.here l.invariant.1 c.in-Some.at c.in-Some.is n.new.t n.result n.ensures c.parent_of-here.result c.parent_of-here.ensures)

pub returns : goal.returns
returns c = let l = c.loop-next in λ C slots S z h. (l.invariant.1 C slots S z h).0 c.in_default.is

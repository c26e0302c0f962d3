-- `pair_change::changed` meets its contract.
use mathlib.Core.Path.{refl, ap, sym, ◌∙◌}
use Prim.Native.Nat.{ℕ, ◌+◌}
use native.Mathlib.Omega.{arith}
use Rattle.grid.specs.Tree.{parent_of}
use Rattle.walk_change.proofs.LevelLaws.{level_told}
use Rattle.pair_change.proofs.ChangedLaws.{stepped-from, count_few, count-is, last_held, up_start, up_held, up_few, up-linked, up_next, up_end}
use Rattle.pair_change.proofs.changed.Goals as goal

pub word-requires : goal.word-requires
word-requires c =
    let a = c.args in
    let k = c.requires.some_step in
    omega (arith, last_held a.t.now a.q a.p.node a.p.steps a.d k.both k.slots k.more k.start k.holds)

pub overflow_sub-u : goal.overflow_sub-u
overflow_sub-u c =
    let a = c.args in
    let k = c.requires.some_step in
    omega (arith, (up_start a.t.now a.q a.p.node a.p.steps a.d k.both k.slots k.more k.start k.holds c.word.result c.word.ensures k.start refl).0)

pub moved-here-requires : goal.moved-here-requires
moved-here-requires c = (c.requires.at_bound.0, c.requires.at_bound.1)

pub loop-here-init : goal.loop-here-init
loop-here-init c =
    let a = c.args in
    λ B slots more o k p. (up_start a.t.now a.q a.p.node a.p.steps a.d B slots more o k c.word.result
    c.word.ensures c.moved-here.result p).1

pub links_up-requires : goal.links_up-requires
links_up-requires c =
    let a = c.args in
    let k = c.requires.some_step in
    let l = c.loop-here in
    let g = up_held a.t.now a.q a.p.node a.p.steps a.d k.both k.slots k.more k.start k.holds
    l.u l.v l.here l.sum
    (l.invariant k.both k.slots k.more k.start k.holds
    (c.moved-here.ensures ∙ stepped-from a.d a.p.at k.start k.holds.dir k.end)) in
    (g.0, k.holds.party, k.holds.dir, g.2)

pub rise-level-requires : goal.rise-level-requires
rise-level-requires c =
    let a = c.args in
    let k = c.requires.some_step in
    let l = c.loop-here in
    let x = l.invariant k.both k.slots k.more k.start k.holds
    (c.moved-here.ensures ∙ stepped-from a.d a.p.at k.start k.holds.dir k.end) in
    ((up_held a.t.now a.q a.p.node a.p.steps a.d k.both k.slots k.more k.start k.holds l.u l.v l.here l.sum x).0, omega arith, k.holds.dir, up-linked a.t.now a.q a.p.node a.p.steps a.d k.both k.slots k.more k.start k.holds l.u l.v l.here l.sum x (sym c.links_up.ensures ∙ c.loop-here-test.true))

pub overflow_add-sum : goal.overflow_add-sum
overflow_add-sum c =
    let a = c.args in
    let k = c.requires.some_step in
    let l = c.loop-here in
    let x = l.invariant k.both k.slots k.more k.start k.holds
    (c.moved-here.ensures ∙ stepped-from a.d a.p.at k.start k.holds.dir k.end) in
    let r = c.rise-level in
    let told = level_told _ _ _ _ _ r.ensures in
    let g = up_next a.t.now a.q a.p.node a.p.steps a.d k.both k.slots k.more k.start k.holds
    l.u l.v l.here l.sum x (sym c.links_up.ensures ∙ c.loop-here-test.true) r.result.u r.result.v
    r.result.count (parent_of l.here) told.0 told.1 told.2 refl in
    let f = up_few a.t.now a.q a.p.node a.p.steps a.d k.both k.slots k.more k.start k.holds
    r.result.u r.result.v (parent_of l.here) (l.sum + r.result.count) g.1 in
    omega (arith, f, count_few k.both a.q a.d a.p.at k.start k.holds.dir k.end c.requires.at_bound.0 c.requires.at_bound.1)

pub loop-here-smaller : goal.loop-here-smaller
loop-here-smaller c =
    let a = c.args in
    let k = c.requires.some_step in
    let l = c.loop-here in
    let r = c.rise-level in
    let told = level_told _ _ _ _ _ r.ensures in
    (up_next a.t.now a.q a.p.node a.p.steps a.d k.both k.slots k.more k.start k.holds l.u
    l.v l.here l.sum (l.invariant k.both k.slots k.more k.start k.holds
    (c.moved-here.ensures ∙ stepped-from a.d a.p.at k.start k.holds.dir k.end)) (sym c.links_up.ensures ∙ c.loop-here-test.true) r.result.u r.result.v r.result.count c.parent_of-here.result told.0 told.1 told.2 c.parent_of-here.ensures).0

pub loop-here-preserved : goal.loop-here-preserved
loop-here-preserved c =
    let a = c.args in
    let l = c.loop-here in
    let r = c.rise-level in
    let told = level_told _ _ _ _ _ r.ensures in
    λ B slots more o k p.
    (up_next a.t.now a.q a.p.node a.p.steps a.d B slots more o k l.u l.v l.here l.sum
    (l.invariant B slots more o k p) (sym c.links_up.ensures ∙ c.loop-here-test.true) r.result.u r.result.v
    r.result.count c.parent_of-here.result told.0 told.1 told.2 c.parent_of-here.ensures).1

pub above_made-requires : goal.above_made-requires
above_made-requires c =
    let a = c.args in
    let k = c.requires.some_step in
    let l = c.loop-here in
    let g = up_held a.t.now a.q a.p.node a.p.steps a.d k.both k.slots k.more k.start k.holds
    l.u l.v l.here l.sum
    (l.invariant k.both k.slots k.more k.start k.holds
    (c.moved-here.ensures ∙ stepped-from a.d a.p.at k.start k.holds.dir k.end)) in
    (g.1, k.holds.party, omega (arith, g.0, c.requires.at_bound.3), omega (arith, c.requires.at_bound.2))

pub overflow_add-result : goal.overflow_add-result
overflow_add-result c =
    let a = c.args in
    let k = c.requires.some_step in
    let l = c.loop-here in
    let x = l.invariant k.both k.slots k.more k.start k.holds
    (c.moved-here.ensures ∙ stepped-from a.d a.p.at k.start k.holds.dir k.end) in
    omega (arith, c.above_made.ensures, up_end a.t.now a.q a.p.node a.p.steps a.d k.both k.slots k.more k.start k.holds l.u l.v l.here l.sum x (sym c.links_up.ensures ∙ c.loop-here-test.false), count_few k.both a.q a.d a.p.at k.start k.holds.dir k.end c.requires.at_bound.0 c.requires.at_bound.1)

pub returns : goal.returns
returns c =
    let a = c.args in
    let l = c.loop-here in
    λ B slots more o k p t₀ h m.
    ap (λ (n : ℕ). l.sum + n) c.above_made.ensures
    ∙ up_end a.t.now a.q a.p.node a.p.steps a.d B slots more o k l.u l.v l.here l.sum
    (l.invariant B slots more o k (c.moved-here.ensures ∙ stepped-from a.d a.p.at o k.dir p))
    (sym c.links_up.ensures ∙ c.loop-here-test.false)
    ∙ count-is a.t.now a.q a.p.node a.p.steps a.d B slots more o k t₀ h m

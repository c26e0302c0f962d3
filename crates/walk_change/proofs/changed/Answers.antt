-- `walk_change::changed` meets its contract.
use mathlib.Core.Bool.{not, ◌&&◌, true}
use mathlib.Core.Path.{◌≡◌, refl, ap, sym, ◌∙◌, subst}
use Prim.Native.Nat.{ℕ, ◌+◌, ◌-◌, ◌%◌, ◌<◌}
use native.Mathlib.Omega.{arith}
use lib.Dec.{eqb}
use lib.ListN.{get_or}
use Rattle.layout.specs.Table.{word_at, parent_word, neighbour_word, link_word}
use Rattle.walk_step.proofs.SpotLaws.{back_bound}
use Rattle.walk_change.proofs.LevelLaws.{level_told}
use Rattle.walk_change.proofs.ChangedLaws.{Up, up_start, up_held, up_few, up-linked, up_next, up_end}
use Rattle.walk_change.proofs.changed.Goals as goal

pub word-requires : goal.word-requires
word-requires c =
    let a = c.args in
    omega (arith, back_bound a.t.now c.requires.stepped.start c.requires.stepped.chain a.d a.w c.requires.stepped.walked c.requires.d_bound.0)

pub overflow_sub-u : goal.overflow_sub-u
overflow_sub-u c =
    let a = c.args in
    omega (arith, (up_start c.requires.stepped.start c.requires.stepped.chain a.d c.requires.d_bound.0 a.t.now a.w c.requires.stepped.walked c.word.result c.word.ensures).0)

pub loop-level-init : goal.loop-level-init
loop-level-init c =
    let a = c.args in
    λ w n m x ds small h.
    subst (λ (v : ℕ). Up x ds a.d small (c.word.result - 1) v 2) n
    (up_start x ds a.d small a.t.now w h c.word.result
    (c.word.ensures ∙ ap (λ (v : ℕ). get_or a.t.now (word_at v (neighbour_word ((a.d + 2) % 4))) 0) (sym n))).1

pub links_up-requires : goal.links_up-requires
links_up-requires c =
    let a = c.args in
    let k = c.requires.stepped in
    let q = c.requires.d_bound in
    let l = c.loop-level in
    let g = up_held k.start k.chain a.d q.0 a.t.now a.w k.walked l.u l.v l.sum
    (l.invariant a.w refl refl k.start k.chain q.0 k.walked) in
    (g.0, q.0, g.2)

pub rise-level-requires : goal.rise-level-requires
rise-level-requires c =
    let a = c.args in
    let k = c.requires.stepped in
    let q = c.requires.d_bound in
    let l = c.loop-level in
    let r = l.invariant a.w refl refl k.start k.chain q.0 k.walked in
    let h = sym c.links_up.ensures ∙ c.loop-level-test.true in
    ((up_held k.start k.chain a.d q.0 a.t.now a.w k.walked l.u l.v l.sum r).0, omega arith, q.0, up-linked k.start k.chain a.d q.0 a.t.now a.w k.walked l.u l.v l.sum r h)

pub overflow_add-sum : goal.overflow_add-sum
overflow_add-sum c =
    let a = c.args in
    let k = c.requires.stepped in
    let q = c.requires.d_bound in
    let l = c.loop-level in
    let x = c.rise-level in
    let told = level_told _ _ _ _ _ x.ensures in
    let r = l.invariant a.w refl refl k.start k.chain q.0 k.walked in
    let h = sym c.links_up.ensures ∙ c.loop-level-test.true in
    let g = up_next k.start k.chain a.d q.0 a.t.now a.w k.walked l.u l.v l.sum r h x.result.u
    x.result.v x.result.count told.0 told.1 told.2 in
    let f = up_few k.start k.chain a.d q.0 a.t.now a.w k.walked x.result.u x.result.v
    (l.sum + x.result.count) g.1 in
    omega (arith, f.0, f.1, q.2)

pub loop-level-smaller : goal.loop-level-smaller
loop-level-smaller c =
    let a = c.args in
    let k = c.requires.stepped in
    let q = c.requires.d_bound in
    let l = c.loop-level in
    let x = c.rise-level in
    let told = level_told _ _ _ _ _ x.ensures in
    (up_next k.start k.chain a.d q.0 a.t.now a.w k.walked l.u l.v l.sum
    (l.invariant a.w refl refl k.start k.chain q.0 k.walked) (sym c.links_up.ensures ∙ c.loop-level-test.true)
    x.result.u x.result.v x.result.count told.0 told.1 told.2).0

pub loop-level-preserved : goal.loop-level-preserved
loop-level-preserved c =
    let a = c.args in
    let l = c.loop-level in
    let x = c.rise-level in
    let told = level_told _ _ _ _ _ x.ensures in
    let h = sym c.links_up.ensures ∙ c.loop-level-test.true in
    λ w n m o ds small k.
    let t = subst (λ (z : ℕ). (not (eqb (get_or a.t.now (word_at l.u parent_word) 0) 0) && eqb
    (get_or a.t.now (word_at (get_or a.t.now (word_at l.u parent_word) 0 - 1) (link_word a.d)) 0) z) ≡ true) (sym m) h in
    (up_next o ds a.d small a.t.now w k l.u l.v l.sum (l.invariant w n m o ds small k) t x.result.u x.result.v
    x.result.count told.0 told.1 told.2).1

pub above_made-requires : goal.above_made-requires
above_made-requires c =
    let a = c.args in
    let k = c.requires.stepped in
    let q = c.requires.d_bound in
    let l = c.loop-level in
    let g = up_held k.start k.chain a.d q.0 a.t.now a.w k.walked l.u l.v l.sum
    (l.invariant a.w refl refl k.start k.chain q.0 k.walked) in
    (g.1, omega (arith, g.0, q.2))

pub overflow_add-result : goal.overflow_add-result
overflow_add-result c =
    let a = c.args in
    let k = c.requires.stepped in
    let q = c.requires.d_bound in
    let l = c.loop-level in
    let r = l.invariant a.w refl refl k.start k.chain q.0 k.walked in
    let f = up_few k.start k.chain a.d q.0 a.t.now a.w k.walked l.u l.v l.sum r in
    omega (arith, c.above_made.ensures, up_end k.start k.chain a.d q.0 a.t.now a.w k.walked l.u l.v l.sum r (sym c.links_up.ensures ∙ c.loop-level-test.false), f.1, q.2)

pub returns : goal.returns
returns c =
    let a = c.args in
    let l = c.loop-level in
    let t = sym c.links_up.ensures ∙ c.loop-level-test.false in
    λ x ds h.
    let small : a.d < 4 = c.requires.d_bound.0 in
    ap (λ (z : ℕ). l.sum + z) c.above_made.ensures
    ∙ up_end x ds a.d small a.t.now a.w h l.u l.v l.sum (l.invariant a.w refl refl x ds small h) t

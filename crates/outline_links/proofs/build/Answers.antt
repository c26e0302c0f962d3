-- `outline_links::build` meets its contract.
use mathlib.Core.Path.{◌≡◌}
use mathlib.Core.Bool.{cond}
use lib.Dec.{ltb}
use Rattle.grid.specs.Grid.{origin}
use Rattle.outline_links.proofs.BuildLaws.{building_start, building_key, building_ready, building_next, building_end, first_of, second_of}
use Rattle.outline_links.proofs.build.Goals.{then-k-least, else-k-least}
use Rattle.outline_links.proofs.build.Goals as goal

pub loop-d-init : goal.loop-d-init
loop-d-init c = λ a. building_start a c.args.chain.now c.args.keys.now c.args.kids.now c.args.links.now c.requires

pub key_after-k-requires : goal.key_after-k-requires
key_after-k-requires c =
    let l = c.loop-d in
    building_key origin c.args.chain.now l.keys l.kids l.links l.k l.least l.home l.used
    l.node l.d-index (l.invariant origin) c.loop-d-test.true

pub advance-s-requires : goal.advance-s-requires
advance-s-requires c =
    let l = c.loop-d in
    (building_ready origin c.args.chain.now l.keys l.kids l.links l.k l.least l.home l.used l.node l.d-index (l.invariant origin) c.loop-d-test.true, (l.invariant origin).sized.digits l.d-index)

pub loop-d-preserved : goal.loop-d-preserved
loop-d-preserved c =
    let b = c.args in
    let t = c.loop-d-test.true in
    let e = c.key_after-k in
    let f = c.advance-s in
    let l = c.loop-d in
    let m : c.if-k-least.least ≡ cond (ltb e.result l.least) e.result l.least =
    elim c.if-k-least.branch [ then-k-least w ↦ first_of _ _ _ w.if-k-least.true w.least-is | else-k-least w ↦ second_of _ _ _ w.if-k-least.false w.least-is ] in
    let h : c.if-k-least.home ≡ cond (ltb e.result l.least) f.result.node l.home =
    elim c.if-k-least.branch [ then-k-least w ↦ first_of _ _ _ w.if-k-least.true w.home-is | else-k-least w ↦ second_of _ _ _ w.if-k-least.false w.home-is ] in
    λ a. building_next a b.chain.now l.keys l.kids l.links l.k l.least l.home l.used l.node l.d-index (l.invariant a) t e.ensures f.ensures m h

pub returns : goal.returns
returns c =
    λ a. let l = c.loop-d in building_end a c.args.chain.now l.keys l.kids l.links l.k l.least
    l.home l.used l.node l.d-index (l.invariant a) c.loop-d-test.false

-- `polygon_call::put_bends` meets its contract.
use Rattle.polygon_laws.specs.Bends.{point_laid}
use Rattle.lists.specs.Lists.{tally}
use Prim.Native.Nat.{◌*◌}
use mathlib.Core.Bool.{Bool}
use mathlib.Core.Path.{sym, subst}
use mathlib.Core.Path.{ap, ◌∙◌}
use Prim.Native.Nat.{◌+◌, ◌≤◌}
use native.Mathlib.Omega.{arith}
use lib.ListN.{length}
use Rattle.lists.proofs.BelowLaws.{below_get_d}
use Rattle.polygon_laws.proofs.BendLaws.{bent_first, bent_room, bent_more, bent_last}
use Rattle.polygon_call.proofs.put_bends.Goals as goal

pub loop-d-init : goal.loop-d-init
loop-d-init c =
    bent_first c.args.buf.now c.args.start c.args.chain.now c.first-last.result
    c.requires.0 c.first-last.ensures

pub bent-requires : goal.bent-requires
bent-requires c = (c.loop-d.invariant.small, below_get_d 4 c.args.chain.now c.loop-d.d-index c.requires.0.digits c.loop-d-test.true)

pub put_bend-k-requires : goal.put_bend-k-requires
put_bend-k-requires c =
    let at = c.loop-d in
    let p = at.invariant in
    let h = c.loop-d-test.true in
    let m = bent_room c.args.buf.now c.args.start c.args.chain.now at.buf at.at
    at.last at.k at.d-index c.requires.1 h p in
    (subst (λ (b : Bool). 16 * (at.k + tally b) ≤ length at.buf) (sym c.bent.ensures) m, omega (arith, p.near_x, h, c.requires.0.few), omega (arith, p.near_y, h, c.requires.0.few))

pub moved-at-requires : goal.moved-at-requires
moved-at-requires c =
    let p = c.loop-d.invariant in
    let h = c.loop-d-test.true in
    (omega (arith, p.near_x, h, c.requires.0.few), omega (arith, p.near_y, h, c.requires.0.few))

pub loop-d-preserved : goal.loop-d-preserved
loop-d-preserved c =
    let at = c.loop-d in
    let h = c.loop-d-test.true in
    let b = c.bent.ensures in
    let e = c.put_bend-k.ensures in
    bent_more c.args.buf.now c.args.start c.args.chain.now at.buf
    c.put_bend-k.new.buf at.at at.last at.k c.put_bend-k.result at.d-index c.requires.1
    c.requires.0.digits h
    (e.0 ∙ ap (λ (t : Bool). at.k + tally t) b) (e.1 ∙ ap (λ (t : Bool). point_laid at.buf at.k t at.at) b)
    c.moved-at.result c.moved-at.ensures at.invariant

pub shape_of-buf : goal.shape_of-buf
shape_of-buf c = c.loop-d.invariant.laid.same

pub returns : goal.returns
returns c = bent_last _ _ _ _ _ _ _ _ c.requires.0.digits (omega arith) c.loop-d.invariant

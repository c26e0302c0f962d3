-- `overlay_call::narrow` meets its contract.
use borrow.Author.Rules.{sfits_of}
use native.Mathlib.Omega.{arith}
use mathlib.Core.Path.{refl, sym, ◌∙◌, subst}
use Prim.Native.Nat.{◌≤◌}
use lib.ListN.{length, get_or, take, length-set}
use lib.Seq.{length-take-le, get_or-take, ext_get_or}
use lib.IntN.{ℤ, pos, nat_abs}
use mir.Facts.{to_z-of_z}
use mir.Syntax.{w16}
use Rattle.overlay_sweep.proofs.EndLaws.{long-back}
use Rattle.overlay_call.proofs.ListLaws.{copied_step}
use Rattle.overlay_call.proofs.narrow.Goals as goal

pub loop-k-init : goal.loop-k-init
loop-k-init c = (refl, λ j h. absurd (omega arith))

pub short-requires : goal.short-requires
short-requires c =
    let k = c.loop-k.k in
    let s = c.requires.0 k (omega arith) in
    subst (λ (v : ℤ). nat_abs v ≤ 32767) (sym (long-back (get_or c.args.list.now k (pos 0)) (omega (arith, s)))) s

pub bounds-out-k : goal.bounds-out-k
bounds-out-k c = omega (arith, c.loop-k.invariant.0, c.requires.1)

pub loop-k-preserved : goal.loop-k-preserved
loop-k-preserved c =
    let l = c.loop-k in
    let s = c.requires.0 l.k (omega arith) in
    let v = c.short in
    (length-set l.out l.k _ ∙ l.invariant.0, copied_step c.args.list.now l.out l.k _ (omega (arith, l.invariant.0, c.requires.1)) (to_z-of_z (sfits_of {w = w16} {z = v.result} v.type_inv) ∙ v.ensures ∙ long-back (get_or c.args.list.now l.k (pos 0)) (omega (arith, s))) l.invariant.1)

pub shape_of-out : goal.shape_of-out
shape_of-out c = c.loop-k.invariant.0

pub returns : goal.returns
returns c =
    let l = c.loop-k in
    let s = c.args.list.now in
    let size = length-take-le (length s) l.out (omega (arith, l.invariant.0, c.requires.1)) in
    ext_get_or (pos 0) (take (length s) l.out) s size (λ i h. get_or-take (length s) l.out i (pos 0) (omega (arith, h, size)) ∙ l.invariant.1 i (omega (arith, h, size)))

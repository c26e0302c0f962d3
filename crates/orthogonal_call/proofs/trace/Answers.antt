-- `orthogonal_call::trace` meets its contract.
use native.Mathlib.Omega.{arith}
use borrow.Author.Rules.{sfits_of}
use mathlib.Core.Path.{◌≡◌, refl, sym, ap, ◌∙◌, subst}
use Prim.Native.Nat.{ℕ, ◌≤◌}
use lib.IntN.{ℤ, pos, nat_abs, ◌-ℤ◌}
use lib.ListN.{length}
use mir.Syntax.{w32}
use mir.Val.{SFits, to_z, of_z}
use mir.Facts.{to_z-of_z}
use Rattle.answer.specs.Limits.{most_start}
use Rattle.orthogonal_call.proofs.CallLaws.{ready_accepted, ready_m, ready_stays, ready_span, ready_far, ready_ruled, ready_laned, ready_high}
use Rattle.orthogonal_call.proofs.trace.Goals as goal

-- a coordinate in its register is itself
axis : {z r : ℤ} (m : ℕ) → SFits w32 z → to_z w32 (of_z w32 z) -ℤ pos m ≡ r → z -ℤ pos m ≡ r
axis m f e = ap (λ (w : ℤ). w -ℤ pos m) (sym (to_z-of_z f)) ∙ e

pub lifted-x-requires : goal.lifted-x-requires
lifted-x-requires c =
    let a = ready_accepted c.requires in (subst (λ (w : ℤ). nat_abs w ≤ most_start) (sym (to_z-of_z (sfits_of {w = w32} {z = c.args.start.0} c.struct_told-1.given.0.1))) a.near.0, ready_m c.requires, a.some, a.most)

pub lifted-y-requires : goal.lifted-y-requires
lifted-y-requires c =
    let a = ready_accepted c.requires in (subst (λ (w : ℤ). nat_abs w ≤ most_start) (sym (to_z-of_z (sfits_of {w = w32} {z = c.args.start.1} c.struct_told-2-1.given.1.0.1))) a.near.1, ready_m c.requires, a.some, a.most)

pub overflow_mul-lo : goal.overflow_mul-lo
overflow_mul-lo c = record { fits = omega (arith, ready_far c.requires) }

pub gather-requires : goal.gather-requires
gather-requires c =
    let p = c.requires in
    (ready_stays p, (ready_accepted p).digits, ready_ruled p c.lifted-x.result c.lifted-y.result (length c.args.lo.now) refl, ready_high p)

pub cut-requires : goal.cut-requires
cut-requires c =
    let a = c.args in
    let p = c.requires in
    let g = c.gather in
    let x = c.lifted-x in
    let y = c.lifted-y in
    let some = (ready_accepted p).some in
    (some, g.auto.hi ∙ ready_high p ∙ sym g.auto.lo, p.store ∙ sym g.auto.lo, omega (arith, ready_span p, g.auto.lo), x.ensures.1, y.ensures.1, (a.start, a.chain.now, a.m, ready_laned p x.result y.result g.new.lo g.new.hi g.auto.lo (axis a.m (sfits_of {w = w32} {z = a.start.0} c.struct_told-1.given.0.1) x.ensures.0) (axis a.m (sfits_of {w = w32} {z = a.start.1} c.struct_told-2-1.given.1.0.1) y.ensures.0) g.ensures.0 g.ensures.1))

pub returns : goal.returns
returns c =
    let a = c.args in
    let p = c.requires in
    let g = c.gather in
    let x = c.lifted-x in
    let y = c.lifted-y in
    c.cut.ensures a.start a.chain.now a.m
    (ready_laned p x.result y.result g.new.lo g.new.hi g.auto.lo
    (axis a.m (sfits_of {w = w32} {z = a.start.0} c.struct_told-1.given.0.1) x.ensures.0) (axis a.m (sfits_of {w = w32} {z = a.start.1} c.struct_told-2-1.given.1.0.1) y.ensures.0) g.ensures.0 g.ensures.1)

-- `orthogonal_call::outline_rows` meets its contract.
use borrow.Author.Rules.{sfits_of}
use mathlib.Core.Path.{◌∙◌}
use mir.Syntax.{w32}
use mir.Val.{to_z, of_z}
use mir.Facts.{to_z-of_z}
use native.Mathlib.Omega.{arith}
use Rattle.orthogonal_call.proofs.CallLaws.{ends_fit, steps_are, answer_short, answer_outlined}
use Rattle.orthogonal_call.proofs.outline_rows.Goals as goal

pub around-steps-requires : goal.around-steps-requires
around-steps-requires c =
    let a = c.args in let p = c.requires.0 in (omega (arith, p.some, p.same), p.same, c.home_row-home.ensures.1, omega (arith, p.few), omega (arith, p.narrow), ends_fit a.span a.lo.now a.hi.now c.home_row-home.result c.home_row-home.ensures.1 p.same c.requires.1.3.fits)

pub returns-then-out-steps : goal.returns-then-out-steps
returns-then-out-steps c =
    let a = c.args in λ s ds g d. answer_short d c.home_row-home.result c.home_row-home.ensures.0
    c.around-steps.result c.around-steps.ensures a.out.now c.if-out-steps.true

pub draw-requires : goal.draw-requires
draw-requires c =
    let a = c.args in let p = c.requires.0 in let d = c.requires.1.3 in (p.some, p.same, c.home_row-home.ensures.0, c.home_row-home.ensures.1, λ q h. omega (arith, d.fits q (omega (arith, h, p.same))), omega (arith, c.if-out-steps.false, steps_are d c.home_row-home.result c.home_row-home.ensures.0 c.around-steps.result c.around-steps.ensures))

pub returns : goal.returns
returns c =
    let a = c.args in
    let u = c.lowered in
    let v = c.lowered-2 in
    λ s ds g d. answer_outlined d c.home_row-home.result c.home_row-home.ensures.0 c.around-steps.result
    c.around-steps.ensures a.out.now c.draw.new.out c.if-out-steps.false c.draw.ensures
    (to_z w32 (of_z w32 u.result)) (to_z w32 (of_z w32 v.result)) c.from.result c.count-blocks.result
    c.from.ensures (to_z-of_z (sfits_of {w = w32} {z = u.result} u.type_inv) ∙ u.ensures)
    (to_z-of_z (sfits_of {w = w32} {z = v.result} v.type_inv) ∙ v.ensures) c.count-blocks.ensures

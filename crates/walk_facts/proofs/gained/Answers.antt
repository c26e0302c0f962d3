-- `walk_facts::gained` meets its contract.
use mathlib.Core.Path.{◌≡◌, sym, ap₂, subst, ◌∙◌}
use native.Mathlib.Omega.{arith}
use lib.IntN.{◌+ℤ◌, ◌*ℤ◌}
use mir.Syntax.{w32}
use mir.Val.{SFits, to_z, of_z}
use mir.ValLaws.{to_z-of_z}
use Rattle.walk_corner.proofs.SignedLaws.{back}
use Rattle.int_laws.proofs.RangeLaws.{abs+, sfits_abs}
use Rattle.walk_facts.specs.Settled.{gain}
use Rattle.walk_facts.proofs.FactLaws.{gain_bound}
use Rattle.walk_facts.proofs.gained.Goals as goal

pub overflow_mul-result : goal.overflow_mul-result
overflow_mul-result c =
    let n = c.north in
    let p : to_z w32 (of_z w32 c.args.x) *ℤ to_z w32 (of_z w32 n.result) ≡ gain c.args.d
    c.args.x = ap₂ ◌*ℤ◌ (to_z-of_z w32 c.args.x c.ranges.x)
    (back n.result n.type_inv ∙ n.ensures) in
    subst (SFits w32) (sym p) (sfits_abs w32 (gain c.args.d c.args.x)
    (omega (arith, gain_bound c.args.d c.args.x, c.requires.1)))

pub overflow_add-result : goal.overflow_add-result
overflow_add-result c =
    let n = c.north in
    let p = to_z-of_z w32 _ (overflow_mul-result c) ∙ ap₂ ◌*ℤ◌ (to_z-of_z w32 c.args.x c.ranges.x)
    (back n.result n.type_inv ∙ n.ensures) in
    subst (SFits w32) (sym (ap₂ ◌+ℤ◌ (to_z-of_z w32 c.args.sum c.ranges.sum) p))
    (sfits_abs w32 (c.args.sum +ℤ gain c.args.d c.args.x)
    (omega (arith, abs+ c.args.sum (gain c.args.d c.args.x), gain_bound c.args.d c.args.x, c.requires.0, c.requires.1)))

pub returns : goal.returns
returns c =
    let n = c.north in
    to_z-of_z w32 _ (overflow_add-result c)
    ∙ ap₂ ◌+ℤ◌ (to_z-of_z w32 c.args.sum c.ranges.sum)
    (to_z-of_z w32 _ (overflow_mul-result c) ∙ ap₂ ◌*ℤ◌ (to_z-of_z w32 c.args.x c.ranges.x)
    (back n.result n.type_inv ∙ n.ensures))

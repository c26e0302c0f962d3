-- `overlay_call::short` meets its contract.
use native.Mathlib.Omega.{arith}
use mathlib.Core.Path.{ap, sym, ◌∙◌, subst}
use lib.IntN.{ℤ}
use mir.Val.{SFits, to_z, of_z}
use mir.Syntax.{w16}
use Rattle.overlay_sweep.proofs.EndLaws.{short_back, long-back}
use Rattle.int_laws.proofs.RangeLaws.{sfits_abs}
use Rattle.overlay_call.proofs.short.Goals as goal

pub overflow_cast-result : goal.overflow_cast-result
overflow_cast-result c =
    subst (SFits w16) (sym (long-back c.args.x (omega (arith, c.requires)))) (sfits_abs w16 c.args.x (omega (arith, c.requires)))

pub returns : goal.returns
returns c =
    ap (λ (z : ℤ). to_z w16 (of_z w16 z)) (long-back c.args.x (omega (arith, c.requires))) ∙ short_back c.args.x c.requires

-- `polygon_call::millimetres` meets its contract.
use mathlib.Core.Path.{sym, subst}
use lib.IntN.{ℤ, pos, ◌*ℤ◌}
use mir.Syntax.{w32}
use mir.Val.{SFits}
use mir.Facts.{to_z-of_z}
use Rattle.polygon.specs.Coordinate.{coordinate_of}
use Rattle.polygon_laws.proofs.SignedLaws.{scaled_fits}
use Rattle.polygon_call.proofs.millimetres.Goals as goal

pub overflow_mul-x : goal.overflow_mul-x
overflow_mul-x c = subst (λ (z : ℤ). SFits w32 (pos 600 *ℤ z)) (sym (to_z-of_z c.ranges.x)) (scaled_fits c.args.x c.requires)

pub returns : goal.returns
unfolding coordinate_of
returns c = simp (to_z-of_z c.ranges.x, to_z-of_z (scaled_fits c.args.x c.requires)) at c.from.ensures

-- `polygon_ring_call::along` meets its contract.
use mathlib.Core.Path.{sym, ap, ap₂, ◌∙◌}
use mathlib.Core.Bool.{Bool, cond}
use Prim.Native.Nat.{◌+◌}
use lib.Signed.{lt_z}
use mir.Facts.{to_z-of_z}
use Rattle.polygon_ring_call.proofs.along.Goals as goal

pub returns-then-less : goal.returns-then-less
returns-then-less c =
    sym (ap (λ (b : Bool). cond b c.args.d (c.args.d + 2))
    (sym (c.less.ensures ∙ ap₂ lt_z (to_z-of_z c.ranges.x) (to_z-of_z c.ranges.y)) ∙ c.if-less.true))

pub returns-else-less : goal.returns-else-less
returns-else-less c =
    sym (ap (λ (b : Bool). cond b c.args.d (c.args.d + 2))
    (sym (c.less.ensures ∙ ap₂ lt_z (to_z-of_z c.ranges.x) (to_z-of_z c.ranges.y)) ∙ c.if-less.false))

-- `polygon_ring_call::direction` meets its contract.
use mathlib.Core.Path.{sym, ap, ◌∙◌}
use mathlib.Core.Bool.{Bool, cond}
use Rattle.polygon_ring_laws.proofs.AxisLaws.{goes}
use Rattle.polygon_ring_call.proofs.direction.Goals as goal

pub returns-then-equal : goal.returns-then-equal
returns-then-equal c =
    let x = c.along-level in
    let y = c.along-upright in
    let e = c.equal in
    sym (ap (λ (b : Bool). cond b y.result x.result) c.if-equal.true)
    ∙ goes c.args.a c.args.b c.requires.0 c.requires.1 e.result x.result y.result
    e.ensures x.ensures y.ensures

pub returns-else-equal : goal.returns-else-equal
returns-else-equal c =
    let x = c.along-level in
    let y = c.along-upright in
    let e = c.equal in
    sym (ap (λ (b : Bool). cond b y.result x.result) c.if-equal.false)
    ∙ goes c.args.a c.args.b c.requires.0 c.requires.1 e.result x.result y.result
    e.ensures x.ensures y.ensures

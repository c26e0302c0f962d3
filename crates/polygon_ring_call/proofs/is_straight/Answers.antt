-- `polygon_ring_call::is_straight` meets its contract.
use Rattle.polygon_ring_laws.proofs.AxisLaws.{straight-is}
use mathlib.Core.Bool.{Bool, cond, not}
use mathlib.Core.Path.{◌∙◌, sym, ap}
use Rattle.polygon_ring_call.proofs.is_straight.Goals as goal

pub returns-then-equal : goal.returns-then-equal
returns-then-equal c =
    let e = c.equal-level in
    sym (ap (λ (m : Bool). cond m (not e.result) e.result) c.if-equal.true)
    ∙ straight-is c.args.a c.args.b c.requires.0 c.requires.1 e.result
    c.equal.result e.ensures c.equal.ensures

pub returns-else-equal : goal.returns-else-equal
returns-else-equal c =
    let e = c.equal-level in
    sym (ap (λ (m : Bool). cond m (not e.result) e.result) c.if-equal.false)
    ∙ straight-is c.args.a c.args.b c.requires.0 c.requires.1 e.result
    c.equal.result e.ensures c.equal.ensures

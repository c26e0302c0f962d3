-- `polygon_ring_call::Points::survey` meets its contract.
use Rattle.std.specs.Prelude.{Err}
use Rattle.std.proofs.Common.{rules}
use mathlib.Core.Path.{◌≡◌, ◌∙◌}
use native.Mathlib.Omega.{arith}
use Rattle.polygon_ring.specs.Ring.{points_from}
use Rattle.polygon_ring_call.proofs.SurveyLaws.{refused_measured, refused_long, refused_short, accepted_all}
use Rattle.polygon_ring_call.proofs.Points.survey.Goals as goal

pub returns-then-found-gt-MOST_STEPS : goal.returns-then-found-gt-MOST_STEPS
returns-then-found-gt-MOST_STEPS c =
    let m = c.measure in
    refused_long (points_from c.args.self.now.little c.args.self.now.bytes.now 0 c.args.self.now.n) c.args.size
    m.result m.ensures c.in_ok-found.found c.in_ok-found.was (omega (arith, c.if-found-gt-MOST_STEPS.true))

pub returns-then-size-found : goal.returns-then-size-found
returns-then-size-found c =
    let m = c.measure in
    refused_short (points_from c.args.self.now.little c.args.self.now.bytes.now 0 c.args.self.now.n) c.args.size
    m.result m.ensures c.in_ok-found.found c.in_ok-found.was (omega (arith, c.if-found-gt-MOST_STEPS.false)) (omega (arith, c.if-size-found.true))

pub returns-in_err-found : goal.returns-in_err-found
returns-in_err-found c =
    let r : c.from_residual.result ≡ Err c.in_err-found.field-0.0 = search rules in
    r ∙ refused_measured (points_from c.args.self.now.little c.args.self.now.bytes.now 0 c.args.self.now.n) c.args.size
    c.measure.result c.measure.ensures c.in_err-found.field-0.0 c.in_err-found.was

pub returns : goal.returns
returns c =
    let m = c.measure in
    accepted_all (points_from c.args.self.now.little c.args.self.now.bytes.now 0 c.args.self.now.n) c.args.size
    m.result m.ensures c.in_ok-found.found c.in_ok-found.was (omega (arith, c.if-found-gt-MOST_STEPS.false)) (omega (arith, c.if-size-found.false))

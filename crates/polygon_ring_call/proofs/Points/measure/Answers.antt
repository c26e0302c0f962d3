-- `polygon_ring_call::Points::measure` meets its contract.
use Rattle.std.specs.Prelude.{Err, None, Some}
use mathlib.Core.Bool.{true, false}
use mathlib.Core.Path.{◌≡◌, refl, sym, ap, ◌∙◌}
use native.Mathlib.Omega.{arith}
use Rattle.std.proofs.Common.{rules}
use Rattle.answer.specs.declared.{Refusal.TheVariants.BadCoordinate}
use Rattle.polygon_ring.specs.Ring.{point_at, points_from, is_faulty, corner_in}
use Rattle.polygon_ring_laws.specs.Reading.{PointFits}
use Rattle.polygon_ring_laws.proofs.AxisLaws.{apart_le}
use Rattle.polygon_ring_laws.proofs.RingLaws.{near_of, faulty_first, faulty_found, measuring_first, measuring_near, measuring_more, measuring_last}
use Rattle.polygon_ring_call.proofs.SurveyLaws.{measured_none, measured_faulty, measured_whole}
use Rattle.polygon_ring_call.proofs.Points.measure.Goals as goal
use Rattle.polygon_ring_call.proofs.Points.measure.Goals.{In_ok-b}

pub returns-then-self-eq0 : goal.returns-then-self-eq0
returns-then-self-eq0 c = measured_none c.args.self.now.little c.args.self.now.bytes.now c.args.self.now.n c.if-self-eq0.true

pub returns-in_err-first : goal.returns-in_err-first
returns-in_err-first c =
    let r : c.from_residual.result ≡ Err BadCoordinate = search rules in
    let none : c.first.result ≡ None = search rules in
    r ∙ measured_faulty (points_from c.args.self.now.little c.args.self.now.bytes.now 0 c.args.self.now.n)
    (faulty_found c.args.self.now.little c.args.self.now.bytes.now 0 c.args.self.now.n true
    (omega (arith, c.if-self-eq0.false)) (ap is_faulty (sym none ∙ c.first.ensures)) refl (faulty_first c.args.self.now.little c.args.self.now.bytes.now c.args.self.now.n))

pub returns-in_err-b : goal.returns-in_err-b
returns-in_err-b c =
    let at = c.loop-i in
    let r : c.from_residual-in_err-b.result ≡ Err BadCoordinate = search rules in
    let none : c.later.result ≡ None = search rules in
    r ∙ measured_faulty (points_from c.args.self.now.little c.args.self.now.bytes.now 0 c.args.self.now.n)
    (faulty_found c.args.self.now.little c.args.self.now.bytes.now at.i c.args.self.now.n true
    c.loop-i-test.true (ap is_faulty (sym none ∙ c.later.ensures)) refl at.invariant.sound)

pub loop-i-init : goal.loop-i-init
loop-i-init c =
    let some : c.first.result ≡ Some c.in_ok-first.first = search rules in
    measuring_first c.args.self.now.little c.args.self.now.bytes.now c.args.self.now.n false c.in_ok-first.first
    (omega (arith, c.if-self-eq0.false)) (ap is_faulty (sym some ∙ c.first.ensures)) refl
    (ap corner_in (sym some ∙ c.first.ensures))

-- the later point, where it is a corner
later : (c : In_ok-b) → Some c.in_ok-b.b ≡ point_at c.args.self.now.little c.args.self.now.bytes.now c.loop-i.i
later c = let some : c.later.result ≡ Some c.in_ok-b.b = search rules in sym some ∙ c.later.ensures

near : (c : In_ok-b) → PointFits c.loop-i.a × PointFits c.in_ok-b.b
near c =
    (measuring_near c.loop-i.invariant, near_of c.args.self.now.little c.args.self.now.bytes.now c.loop-i.i c.in_ok-b.b (ap corner_in (later c)))

pub goes_on-line-requires : goal.goes_on-line-requires
goes_on-line-requires c = near (goal.at.goes_on-line-requires c).In_ok-b

pub distance-requires : goal.distance-requires
distance-requires c = near (goal.at.distance-requires c).In_ok-b

pub overflow_add-steps : goal.overflow_add-steps
overflow_add-steps c =
    let n = near (goal.at.overflow_add-steps c).In_ok-b in
    record { fits = omega (arith, c.loop-i.invariant.small, c.distance.ensures, apart_le c.loop-i.a c.in_ok-b.b n.0 n.1) }

pub loop-i-preserved : goal.loop-i-preserved
loop-i-preserved c =
    let at = c.loop-i in
    let some = later (goal.at.loop-i-preserved c).In_ok-b in
    measuring_more c.args.self.now.little c.args.self.now.bytes.now c.args.self.now.n at.a c.in_ok-b.b at.line at.steps at.i c.loop-i-test.true
    (ap corner_in some) at.invariant false c.goes_on-line.result c.distance.result c.cap-steps.result
    (ap is_faulty some) refl c.goes_on-line.ensures c.distance.ensures c.cap-steps.ensures

pub returns : goal.returns
returns c =
    let at = c.loop-i in
    let some : c.first.result ≡ Some c.in_ok-first.first = search rules in
    let first = ap corner_in (sym some ∙ c.first.ensures) in
    measured_whole c.args.self.now.little c.args.self.now.bytes.now c.args.self.now.n c.in_ok-first.first at.a at.line
    at.steps c.closed.result (omega (arith, at.invariant.some, at.invariant.within)) first
    (measuring_last c.args.self.now.little c.args.self.now.bytes.now c.args.self.now.n c.in_ok-first.first at.a at.line
    at.steps at.i (omega (arith, c.loop-i-test.false)) first at.invariant)
    c.closed.ensures

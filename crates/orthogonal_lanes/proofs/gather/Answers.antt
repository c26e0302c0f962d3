-- `orthogonal_lanes::gather` meets its contract.
use mathlib.Core.Path.{refl, ap, ◌∙◌}
use Prim.Native.Nat.{ℕ, ◌+◌, ◌*◌, ◌-◌}
use native.Mathlib.Omega.{arith}
use lib.ListN.{get_or}
use Rattle.lists.proofs.BelowLaws.{below_get_d}
use Rattle.hull_laws.specs.Lowest.{sinks}
use Rattle.orthogonal_row_laws.specs.Lanes.{from_west, from_east}
use Rattle.orthogonal_lanes.proofs.LaneLaws.{edge_shift, gathering_bounds, gathering_step, gathering_end}
use Rattle.orthogonal_lanes.proofs.gather.Goals as goal

pub overflow_add-x : goal.overflow_add-x
overflow_add-x c =
    let b = gathering_bounds c.loop-d.invariant c.loop-d-test.true (2 * c.args.m) c.requires.0 in
    record { fits = omega (arith, b.1, c.requires.2.across, c.requires.2.narrow) }

pub mark-requires : goal.mark-requires
mark-requires c =
    let l = c.loop-d in
    let r = c.requires.2 in
    let b = gathering_bounds l.invariant c.loop-d-test.true (2 * c.args.m) c.requires.0 in (
      below_get_d 4 c.args.chain.now l.d-index c.requires.1 c.loop-d-test.true,
      b.2,
      r.some,
      omega (arith, b.1, r.across),
      omega (arith, r.narrow),
      omega (arith, r.low),
      omega (arith, b.3, r.along, ap (λ (n : ℕ). n * c.args.g) l.auto.lo),
      omega (arith, c.requires.3),
    )

pub across-x-requires : goal.across-x-requires
across-x-requires c =
    let l = c.loop-d in
    let b = gathering_bounds l.invariant c.loop-d-test.true (2 * c.args.m) c.requires.0 in
    (refl, below_get_d 4 c.args.chain.now l.d-index c.requires.1 c.loop-d-test.true, b.0, omega (arith, b.1, c.requires.0.narrow))

pub upward-y-requires : goal.upward-y-requires
upward-y-requires c =
    let l = c.loop-d in
    let b = gathering_bounds l.invariant c.loop-d-test.true (2 * c.args.m) c.requires.0 in
    (refl, below_get_d 4 c.args.chain.now l.d-index c.requires.1 c.loop-d-test.true, b.2, omega (arith, b.3, c.requires.0.narrow))

pub loop-d-preserved : goal.loop-d-preserved
loop-d-preserved c =
    let l = c.loop-d in
    let a = c.args in
    let d = get_or a.chain.now l.d-index 0 in
    let u = c.mark in
    gathering_step l.invariant c.loop-d-test.true c.across-x.result c.upward-y.result u.new.lo u.new.hi c.across-x.ensures c.upward-y.ensures
    (u.ensures.0 ∙ ap (sinks l.lo) (edge_shift a.g a.up (λ c. c) (from_west a.right) (l.x + a.right) l.x l.y d refl))
    (u.ensures.1 ∙ ap (sinks l.hi) (edge_shift a.g a.up (λ c. a.far - c) (from_east a.far a.right) (l.x + a.right) l.x l.y d refl))

pub returns : goal.returns
returns c = gathering_end c.loop-d.invariant c.loop-d-test.false

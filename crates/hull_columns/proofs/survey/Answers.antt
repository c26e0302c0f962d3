-- `hull_columns::survey` meets its contract.
use native.Mathlib.Omega.{arith}
use mathlib.Core.Path.{ap₂, refl}
use Prim.Native.Nat.{ℕ}
use Rattle.column_laws.proofs.SurveyLaws.{surveyed_start, surveyed_room, surveyed_step, surveyed_west, surveyed_east}
use Rattle.steps.proofs.ChainLaws.{good_digits, good_short}
use Rattle.hull_columns.specs.declared.Extent.{Extent}
use Rattle.hull_columns.proofs.survey.Goals as goal

pub loop-d-init : goal.loop-d-init
loop-d-init c = surveyed_start c.args.chain.now

pub across-x-requires : goal.across-x-requires
across-x-requires c =
    let l = c.loop-d in
    let chain = c.args.chain.now in
    let r = surveyed_room chain l.x l.west l.east l.d-index l.invariant
    (λ e. omega (arith, e, good_short 0 chain (omega arith) c.requires)) in
    (refl, good_digits 0 chain c.requires l.d-index, r.0, r.1)

pub loop-d-preserved : goal.loop-d-preserved
loop-d-preserved c =
    let l = c.loop-d in
    let chain = c.args.chain.now in
    surveyed_step chain l.x l.west l.east l.d-index l.invariant c.across-x.result c.min-west.result
    c.max-east.result c.loop-d-test.true (omega (arith, good_digits 0 chain c.requires l.d-index))
    (λ e. omega (arith, e, good_short 0 chain (omega arith) c.requires)) c.across-x.ensures
    c.min-west.ensures c.max-east.ensures

pub returns : goal.returns
returns c =
    let l = c.loop-d in
    let n = c.loop-d-test.false in
    let chain = c.args.chain.now in
    let west = surveyed_west chain l.x l.west l.east l.d-index l.invariant n in
    let east = surveyed_east chain l.x l.west l.east l.d-index l.invariant n in
    record {
      extent = ap₂ whole west east;
      spans = record {
        digits = good_digits 0 chain c.requires;
        short = omega (arith, good_short 0 chain (omega arith) c.requires);
        west = west;
        east = east;
      };
    }
  where
    whole : ℕ → ℕ → Extent
    whole w e = record { west = w; east = e }

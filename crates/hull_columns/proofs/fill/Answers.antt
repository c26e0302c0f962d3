-- `hull_columns::fill` meets its contract.
use native.Mathlib.Omega.{arith}
use mathlib.Core.Path.{refl}
use Rattle.hull_laws.specs.Lowest.{blank}
use Rattle.hull_laws.proofs.FillLaws.{filling_west, filling_east, filling_top, filling_in_lo, filling_column, filling_row, filling_low}
use Rattle.hull_columns.proofs.MirrorLaws.{filled-start, filled_in_hi, filled_step, filled-high}
use Rattle.hull_columns.proofs.fill.Goals as goal

pub loop-d-init : goal.loop-d-init
loop-d-init c =
    filled-start blank c.args.lo.now c.args.hi.now c.requires.0 c.requires.2
    c.requires.3

pub overflow_sub-c : goal.overflow_sub-c
overflow_sub-c c = filling_west c.loop-d.invariant.filling

pub keep-requires : goal.keep-requires
keep-requires c = filling_in_lo c.loop-d.invariant.filling c.requires.1

pub overflow_sub-y : goal.overflow_sub-y
overflow_sub-y c = filling_top c.loop-d.invariant.filling

pub keep-requires-in-loop-d : goal.keep-requires-in-loop-d
keep-requires-in-loop-d c = filled_in_hi c.loop-d.invariant c.requires.2

pub across-x-requires : goal.across-x-requires
across-x-requires c =
    let r = filling_column c.loop-d.invariant.filling c.loop-d-test.true in
    (refl, c.requires.0.digits c.loop-d.d-index, r.0, r.1)

pub upward-y-requires : goal.upward-y-requires
upward-y-requires c =
    let r = filling_row c.loop-d.invariant.filling c.loop-d-test.true in
    (refl, c.requires.0.digits c.loop-d.d-index, r.0, r.1)

pub loop-d-preserved : goal.loop-d-preserved
loop-d-preserved c =
    let k = c.keep in
    let a = c.keep-in-loop-d in
    filled_step c.loop-d.invariant c.requires.2 c.across-x.result c.upward-y.result k.new.ys a.new.ys
    c.loop-d-test.true c.across-x.ensures c.upward-y.ensures k.ensures a.ensures

pub overflow_sub-c-2 : goal.overflow_sub-c-2
overflow_sub-c-2 c = filling_west c.loop-d.invariant.filling

pub keep-requires-2 : goal.keep-requires-2
keep-requires-2 c = filling_in_lo c.loop-d.invariant.filling c.requires.1

pub overflow_sub-y-2 : goal.overflow_sub-y-2
overflow_sub-y-2 c = filling_top c.loop-d.invariant.filling

pub keep-requires-3 : goal.keep-requires-3
keep-requires-3 c = filled_in_hi c.loop-d.invariant c.requires.2

pub overflow_sub-extent : goal.overflow_sub-extent
overflow_sub-extent c = let f = c.loop-d.invariant.filling in omega (arith, filling_west f, filling_east f)

pub returns : goal.returns
returns c =
    let l = c.loop-d in
    let n = c.loop-d-test.false in
    let k = c.keep-2 in
    let a = c.keep-3 in
    let m = c.mirror in
    (filling_low l.invariant.filling k.new.ys n k.ensures, filled-high l.invariant c.requires.2 a.new.ys m.new.ys n a.ensures m.ensures)

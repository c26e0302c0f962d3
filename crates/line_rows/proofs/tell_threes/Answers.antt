-- `line_rows::tell_threes` meets its contract.
use Prim.Native.Nat.{◌-◌, ◌*◌}
use native.Mathlib.Omega.{arith}
use lib.ListN.{length, drop, length-drop}
use lib.Seq.{take_all}
use Rattle.line_rows.proofs.ThreeLaws.{threes_none, threes_at, threes_more}
use Rattle.line_rows.proofs.tell_threes.Goals as goal

pub loop-i-init : goal.loop-i-init
loop-i-init c = threes_none c.args.xs.now c.args.at c.args.out.now

pub tell_three-next-requires : goal.tell_three-next-requires
tell_three-next-requires c =
    let l = c.loop-i in
    let a = c.args in
    let k = threes_at a.xs.now l.i a.at l.invariant (omega arith) (omega arith) in
    (omega (arith, length-drop (3 * l.i) a.xs.now), omega (arith, k.0, k.1))

pub loop-i-preserved : goal.loop-i-preserved
loop-i-preserved c =
    let l = c.loop-i in
    let a = c.args in
    threes_more a.xs.now l.i a.at l.invariant (omega arith) (omega arith) (take_all (length a.xs.now - 3 * l.i) (drop (3 * l.i) a.xs.now) (omega (arith, length-drop (3 * l.i) a.xs.now))) c.tell_three-next.ensures

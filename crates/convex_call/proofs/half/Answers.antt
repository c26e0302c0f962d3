-- `convex_call::half` meets its contract.
use native.Mathlib.Omega.{arith}
use Rattle.convex_call.proofs.PartLaws.{store_less}
use Rattle.convex_call.proofs.half.Goals as goal

pub judge-requires : goal.judge-requires
judge-requires c = (c.requires.0, omega arith, c.requires.3)

pub judge-requires-then-judge : goal.judge-requires-then-judge
judge-requires-then-judge c =
    let j = c.judge.auto in
    (c.requires.1, omega arith, store_less c.requires.4 (omega arith) j.ys j.s)

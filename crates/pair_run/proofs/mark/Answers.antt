-- `pair_run::mark` meets its contract.
use mathlib.Core.Path.{ap}
use Prim.Native.Nat.{ℕ, ◌+◌, ◌*◌}
use native.Mathlib.Omega.{arith}
use lib.ListN.{set, length-set}
use Rattle.layout.specs.Marks.{mark_words}
use Rattle.pair_run.proofs.mark.Goals as goal

pub bounds-marks-i-2 : goal.bounds-marks-i-2
bounds-marks-i-2 c =
    let a = c.args in
    omega (arith, length-set a.marks.now (mark_words * a.i) a.x.stock.nodes, c.requires.2)

pub returns : goal.returns
returns c =
    let a = c.args in
    ap (λ (v : ℕ). set (set (set a.marks.now (mark_words * a.i) a.x.stock.nodes) (mark_words * a.i + 1) v)
    (mark_words * a.i + 2) a.changed) c.own.ensures

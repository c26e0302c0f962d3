-- `orthogonal_lanes::first_row` meets its contract.
use mathlib.Core.Path.{◌≡◌}
use Prim.Native.Nat.{ℕ}
use lib.ListN.{get_or}
use borrow.Author.Count.{below_more}
use Rattle.hull_laws.specs.Lowest.{blank}
use Rattle.orthogonal_lanes.proofs.first_row.Goals as goal

pub loop-q-preserved : goal.loop-q-preserved
loop-q-preserved c =
    below_more (λ (k : ℕ). get_or c.args.a.now k 0 ≡ blank) c.loop-q.q c.loop-q.invariant c.if-x.false

-- What the loops of `row_spans::Base::put_row` keep, and how they end.
use mathlib.Core.Path.{◌≡◌}
use mathlib.Core.List.{List}
use Prim.Native.Nat.{ℕ, ◌-◌, ◌%◌, ◌<◌}
use lib.ListN.{length}
use Rattle.row_bucket_laws.specs.Buckets.{Strung, LineAt}
use Rattle.row_spans.proofs.Base.put_row.Given as goal

abbrev pub invariant-loop-p : goal.invariant-loop-p
invariant-loop-p l = (l.p < 65536) × ((ls : List ℕ) → Strung l.next l.first ls → length ls % 2 ≡ 0 → LineAt l.next l.at l.self.at ls l.initial.out l.o l.p l.to l.out)

abbrev pub decreases-loop-p : goal.decreases-loop-p
decreases-loop-p l = length l.out - l.to

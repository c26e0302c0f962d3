-- What the loops of `hull_corners::put` keep.
use mathlib.Core.Path.{◌≡◌}
use mathlib.Core.List.{List, map}
use Prim.Native.Nat.{ℕ, ◌+◌, ◌*◌}
use lib.ListN.{length}
use lib.IntN.{ℤ}
use lib.Seq.{sets, slice}
use Rattle.grid.specs.declared.Corner.{Corner}
use Rattle.grid.specs.Grid.{numbers}
use Rattle.hull_laws.specs.Chain.{spot_by, col_at}
use Rattle.hull_corners.proofs.put.Given as goal

-- the corner of a column
abbrev pub corner : Corner → ℤ → List ℕ → ℕ → Corner
corner base way ys k = spot_by base way (col_at ys k)

abbrev pub invariant-loop-c : goal.invariant-loop-c
invariant-loop-c l =
    (l.o ≡ l.at + 2 * l.c-index) × (length l.out ≡ length l.initial.out)
    × (sets l.out l.o (numbers (map (corner l.base l.way l.ys) (slice l.c-index (length l.s) l.s))) ≡ sets l.initial.out l.at (numbers (map (corner l.base l.way l.ys) l.s)))

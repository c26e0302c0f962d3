-- Which way round a closed walk goes, by the columns of its steps north and south.
-- Assumes nothing.
use Rattle.std.specs.Prelude.{Bool, cond, List, [], ◌∷◌, ◌≡◌, ℕ, zero, suc, ◌+◌, pos}
use Rattle.std.specs.Int.Signed.{lt_z}
use Rattle.grid.specs.declared.Corner.{Corner}
use Rattle.grid.specs.Grid.{end_from}
use Rattle.trace.specs.Verdict.{sweep_from}
use Rattle.column_laws.specs.Columns.{col_after}
use Rattle.panels.specs.Moved.{backward}

-- the column x if the step d leads north, else 0
abbrev pub north_in : ℕ → ℕ → ℕ
north_in x zero = 0
north_in x (suc zero) = x
north_in x (suc (suc d)) = 0

-- the column x if it leads south, else 0
abbrev pub south_in : ℕ → ℕ → ℕ
south_in x zero = 0
south_in x (suc zero) = 0
south_in x (suc (suc zero)) = 0
south_in x (suc (suc (suc d))) = x

-- the sum over a walk from column x of one of them
unfoldable pub column_sum : (ℕ → ℕ → ℕ) → ℕ → List ℕ → ℕ
column_sum f x [] = 0
column_sum f x (d ∷ ds) = f x d + column_sum f (col_after x d) ds

-- whether the area of a closed walk is above 0, whatever its start
abbrev pub Leftward : List ℕ → Bool → Type 0
Leftward ds b = (c : Corner) → end_from c ds ≡ c → b ≡ lt_z (pos 0) (sweep_from c ds)

-- the steps as they are, or backwards
abbrev pub travelled : Bool → List ℕ → List ℕ
travelled b ds = cond b (backward ds) ds

-- Every closed walk has its list of rows, and sorted lower ends of its vertical edges in pairs are it.
-- Assumes nothing.
use mathlib.Core.Bool.{Bool}
use mathlib.Core.List.{List}
use mathlib.Core.Path.{◌≡◌, sym, ◌∙◌}
use Prim.Native.Nat.{ℕ, ◌%◌}
use Rattle.lists.specs.Lists.{count}
use Rattle.grid.specs.declared.Corner.{Corner}
use Rattle.grid.specs.Grid.{end_from}
use Rattle.panels.specs.{Edges.edges_from, Edges.beside, Inside.Inside}
use Rattle.row.specs.Rows.{Span, RowsIs}
use Rattle.area_laws.proofs.EvenLaws.{row_even}
use Rattle.row_laws.specs.Feet.{feet_of, pairs_of, rows_of}
use Rattle.row_laws.proofs.{OneLaws.rows_is_one, FootLaws.Ahead, FootLaws.InTurn, FootLaws.feet_in_turn, FootLaws.feet_parity, PairLaws.on_row, PairLaws.pairs_rows}

-- of every kind the list has as many as the walk has edges, up to two
abbrev pub Matches : Corner → List ℕ → List Corner → Type 0
Matches c ds qs = (t : Corner → Bool) → count t qs % 2 ≡ count (λ e. t e.foot) (edges_from c ds) % 2

pub sorted_rows : (c : Corner) (ds : List ℕ) (qs : List Corner) → end_from c ds ≡ c → InTurn Ahead qs → Matches c ds qs → RowsIs (Inside c ds) (pairs_of qs)
sorted_rows c ds qs h g m =
    let k = pairs_rows qs g (λ b. m (on_row b) ∙ row_even b c ds h) in
    record { order = k.order; panels = λ p. (λ n. sym (m (beside p)) ∙ (k.panels p).0 n, λ n. (k.panels p).1 (m (beside p) ∙ n)) }

-- the computed list is that of the panels inside, for every closed walk
pub rows_of-rows : (c : Corner) (ds : List ℕ) → end_from c ds ≡ c → RowsIs (Inside c ds) (rows_of c ds)
rows_of-rows c ds h = sorted_rows c ds (feet_of (edges_from c ds)) h (feet_in_turn (edges_from c ds)) (λ t. feet_parity t (edges_from c ds))

-- and any other list that is theirs is the computed one
pub rows_is_rows_of : (c : Corner) (ds : List ℕ) (L : List Span) → end_from c ds ≡ c → RowsIs (Inside c ds) L → L ≡ rows_of c ds
rows_is_rows_of c ds L h g = rows_is_one (Inside c ds) L (rows_of c ds) g (rows_of-rows c ds h)

-- A closed walk has an even number of vertical edges in every row.
-- Assumes nothing.
use mathlib.Core.Bool.{Bool}
use mathlib.Core.List.{List, [], ◌∷◌}
use mathlib.Core.Logic.{◌⊎◌, inl, inr}
use mathlib.Core.Path.{◌≡◌, ap, sym, ◌∙◌}
use Prim.Native.Nat.{ℕ, zero, suc, ◌+◌, ◌%◌}
use native.Mathlib.Omega.{arith}
use lib.IntN.{ℤ, suc_ℤ, pred_ℤ, suc-pred}
use lib.Signed.{◌≤ℤ◌, ◌<ℤ◌, lt_z}
use Rattle.int_laws.proofs.LinearLaws.{zarith, le_or_lt}
use Rattle.int_laws.proofs.NextLaws.{bal_suc, true_lt, false_lt}
use Rattle.lists.specs.Lists.{tally, count}
use Rattle.lists.proofs.FindLaws.{count-append}
use Rattle.grid.specs.declared.Corner.{Corner}
use Rattle.grid.specs.Grid.{eq_z, stepped, end_from}
use Rattle.grid.proofs.CornerLaws.{eq_z_refl, eq_z_not}
use Rattle.panels.specs.Edges.{Edge, edge_of, edges_from}

-- from y to y + 1 a walk gets above row b exactly if y is the row
pub crossed : (b y : ℤ) → tally (lt_z b (suc_ℤ y)) ≡ tally (eq_z y b) + tally (lt_z b y)
crossed b y = by (le_or_lt y b) (le_or_lt b y)
  where
    by : (y ≤ℤ b) ⊎ (b <ℤ y) → (b ≤ℤ y) ⊎ (y <ℤ b) → tally (lt_z b (suc_ℤ y)) ≡ tally (eq_z y b) + tally (lt_z b y)
    by (inl h) (inl g) =
        let e : y ≡ b = omega zarith in
        omega (arith, ap tally (true_lt b (suc_ℤ y) (omega (zarith, g, bal_suc y))), ap tally (ap (eq_z y) (sym e) ∙ eq_z_refl y), ap tally (false_lt b y h))
    by (inl h) (inr g) =
        omega (arith, ap tally (false_lt b (suc_ℤ y) (omega (zarith, g, bal_suc y))), ap tally (eq_z_not y b (λ e. omega (zarith, e, g))), ap tally (false_lt b y h))
    by (inr h) g = omega (arith, ap tally (true_lt b (suc_ℤ y) (omega (zarith, h, bal_suc y))), ap tally (eq_z_not y b (λ e. omega (zarith, e, h))), ap tally (true_lt b y h))

abbrev in_row : ℤ → Edge → Bool
in_row b e = eq_z e.foot.1 b

step_parity : (b : ℤ) (d : ℕ) (c : Corner) → (count (in_row b) (edge_of d c) + tally (lt_z b c.1) + tally (lt_z b (stepped d c).1)) % 2 ≡ 0
step_parity b zero c = omega arith
step_parity b (suc zero) c = omega (arith, crossed b c.1)
step_parity b (suc (suc zero)) c = omega arith
step_parity b (suc (suc (suc d))) c = omega (arith, crossed b (pred_ℤ c.1), ap (λ (z : ℤ). tally (lt_z b z)) (suc-pred c.1))

walk_parity : (b : ℤ) (c : Corner) (ds : List ℕ) → (count (in_row b) (edges_from c ds) + tally (lt_z b c.1) + tally (lt_z b (end_from c ds).1)) % 2 ≡ 0
walk_parity b c [] = omega arith
walk_parity b c (d ∷ ds) = omega (arith, count-append (in_row b) (edge_of d c) (edges_from (stepped d c) ds), step_parity b d c, walk_parity b (stepped d c) ds)

pub row_even : (b : ℤ) (c : Corner) (ds : List ℕ) → end_from c ds ≡ c → count (λ e. eq_z e.foot.1 b) (edges_from c ds) % 2 ≡ 0
row_even b c ds h = omega (arith, walk_parity b c ds, ap (λ (p : Corner). tally (lt_z b p.1)) h)

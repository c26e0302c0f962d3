-- The bounding box of a walk, and the sum over its panels (RULES 1.10). Assumes nothing.
use Rattle.lists.specs.Lists.{sum_of}
use Rattle.std.specs.Prelude.{cond, List, [], ◌∷◌, ◌++◌, ℕ, zero, suc, ℤ, nat_abs, ◌-ℤ◌}
use Rattle.std.proofs.Math.IntN.{suc_ℤ}
use Rattle.std.specs.Int.Signed.{le_z}
use Rattle.grid.specs.{declared.Corner.Corner, declared.Panel.Panel, Grid.corner, Grid.panel_at, Grid.stepped}
use Rattle.panels.specs.Edges.{surplus_of}

-- the lesser and the greater of two numbers
abbrev pub lesser : ℤ → ℤ → ℤ
lesser a b = cond (le_z a b) a b

abbrev pub greater : ℤ → ℤ → ℤ
greater a b = cond (le_z a b) b a

-- the least or the greatest value of f at the corners p0 to pn, by the choice of one of two
abbrev pub extreme_from : (ℤ → ℤ → ℤ) → (Corner → ℤ) → Corner → List ℕ → ℤ
extreme_from pick f c [] = f c
extreme_from pick f c (d ∷ ds) = pick (f c) (extreme_from pick f (stepped d c) ds)

-- a box: x from west to east, y from south to north
pub record Box : Type 0 where
  pub west : ℤ
  pub east : ℤ
  pub south : ℤ
  pub north : ℤ

-- the bounding box of the corners p0 to pn
abbrev pub box_of : Corner → List ℕ → Box
box_of c ds =
    record {
      west = extreme_from lesser (λ p. p.0) c ds;
      east = extreme_from greater (λ p. p.0) c ds;
      south = extreme_from lesser (λ p. p.1) c ds;
      north = extreme_from greater (λ p. p.1) c ds;
    }

-- n panels of row b, from a eastwards
abbrev pub panel_row : ℤ → ℤ → ℕ → List Panel
panel_row b a zero = []
panel_row b a (suc n) = panel_at (corner a b) ∷ panel_row b (suc_ℤ a) n

-- m such rows, from b northwards
abbrev pub panel_rows : ℤ → ℤ → ℕ → ℕ → List Panel
panel_rows b a n zero = []
panel_rows b a n (suc m) = panel_row b a n ++ panel_rows (suc_ℤ b) a n m

-- all panels of a box
abbrev pub panels_in : Box → List Panel
panels_in k = panel_rows k.south k.west (nat_abs (k.east -ℤ k.west)) (nat_abs (k.north -ℤ k.south))

-- the sum over all panels of the bounding box of northward minus southward edges in that panel's row with x above the panel's
abbrev pub panel_sum : Corner → List ℕ → ℤ
panel_sum c ds = sum_of (surplus_of c ds) (panels_in (box_of c ds))

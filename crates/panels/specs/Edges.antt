-- The vertical edges of a walk, with their direction, and those that a panel sees (RULES 1.8). Assumes nothing.
use Rattle.lists.specs.Lists.{count}
use Rattle.std.specs.Prelude.{Bool, true, false, not, ◌&&◌, List, [], ◌∷◌, ◌++◌, ℕ, zero, suc, ℤ, pos, ◌-ℤ◌}
use Rattle.std.specs.Int.Signed.{lt_z}
use Rattle.grid.specs.{declared.Corner.Corner, declared.Panel.Panel, Grid.eq_z, Grid.stepped}

-- a vertical edge: its lower end, and whether it is walked north
pub record Edge : Type 0 where
  pub foot : Corner
  pub north : Bool

-- what a step from c walks: north from its lower end, south to it, and no vertical edge if it goes east or west
abbrev pub edge_of : ℕ → Corner → List Edge
edge_of zero c = []
edge_of (suc zero) c = record { foot = c; north = true } ∷ []
edge_of (suc (suc zero)) c = []
edge_of (suc (suc (suc d))) c = record { foot = stepped 3 c; north = false } ∷ []

-- the vertical edges of a walk, in its order
abbrev pub edges_from : Corner → List ℕ → List Edge
edges_from c [] = []
edges_from c (d ∷ ds) = edge_of d c ++ edges_from (stepped d c) ds

-- the vertical edge with this lower end is in the panel's row, and its x is above the panel's
abbrev pub beside : Panel → Corner → Bool
beside p q = eq_z q.1 p.1 && lt_z p.0 q.0

abbrev pub surplus_by : List Edge → Panel → ℤ
surplus_by es p =
    pos (count (λ e. beside p e.foot && e.north) es) -ℤ pos (count (λ e. beside p e.foot && not e.north) es)

-- northward minus southward edges in the panel's row with x above the panel's
abbrev pub surplus_of : Corner → List ℕ → Panel → ℤ
surplus_of c ds p = surplus_by (edges_from c ds) p

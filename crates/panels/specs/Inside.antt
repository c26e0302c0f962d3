-- The panels inside a walk, and on which side of its steps they lie (RULES 1.9). Assumes nothing.
use mathlib.Core.List.{Memᴰ}
use Rattle.lists.specs.Lists.{count, Distinct}
use Rattle.std.specs.Prelude.{◌≡◌, Bool, ◌↔◌, List, [], ◌∷◌, ℕ, zero, suc, ◌%◌, eqb}
use Rattle.std.proofs.Math.IntN.{pred_ℤ}
use Rattle.grid.specs.{declared.Corner.Corner, declared.Panel.Panel, Grid.corner, Grid.panel_at, Grid.stepped}
use Rattle.panels.specs.{Edges.edges_from, Edges.beside, Box.box_of, Box.panels_in}

-- how many of the walk's vertical edges in the panel's row have x above the panel's
abbrev pub edges_beside : Corner → List ℕ → Panel → ℕ
edges_beside c ds p = count (λ e. beside p e.foot) (edges_from c ds)

-- the panel is inside the walk: an odd number of them
abbrev pub Inside : Corner → List ℕ → Panel → Type 0
Inside c ds p = edges_beside c ds p % 2 ≡ 1

-- the same as a test
abbrev pub inside : Corner → List ℕ → Panel → Bool
inside c ds p = eqb (edges_beside c ds p % 2) 1

-- how many panels of the walk's bounding box are inside it
abbrev pub panels_inside : Corner → List ℕ → ℕ
panels_inside c ds = count (inside c ds) (panels_in (box_of c ds))

-- ps lists the panels inside the walk, each once
pub record ListsInside (c : Corner) (ds : List ℕ) (ps : List Panel) : Type 0 where
  pub once : Distinct ps
  pub panels : (p : Panel) → Memᴰ p ps ↔ Inside c ds p

-- the panel on the left of the step d from c
abbrev pub left_of : ℕ → Corner → Panel
left_of zero c = panel_at c
left_of (suc zero) c = panel_at (corner (pred_ℤ c.0) c.1)
left_of (suc (suc zero)) c = panel_at (corner (pred_ℤ c.0) (pred_ℤ c.1))
left_of (suc (suc (suc d))) c = panel_at (corner c.0 (pred_ℤ c.1))

-- the panel on its right: on the left of the step a quarter turn further to the right
abbrev pub right_of : ℕ → Corner → Panel
right_of zero c = left_of 3 c
right_of (suc zero) c = left_of 0 c
right_of (suc (suc zero)) c = left_of 1 c
right_of (suc (suc (suc d))) c = left_of 2 c

-- P holds of each step and of the corner that it is taken from
abbrev pub EachStep : (ℕ → Corner → Type 0) → Corner → List ℕ → Type 0
EachStep P c [] = Unit {0}
EachStep P c (d ∷ ds) = P d c × EachStep P (stepped d c) ds

-- walked with the inside on the left: of the two panels beside each step the left one is inside, the right one is not
abbrev pub InsideLeft : Corner → List ℕ → Type 0
InsideLeft c ds = EachStep (λ d q. Inside c ds (left_of d q) × (Inside c ds (right_of d q) → ⊥)) c ds

-- walked with the inside on the right
abbrev pub InsideRight : Corner → List ℕ → Type 0
InsideRight c ds = EachStep (λ d q. Inside c ds (right_of d q) × (Inside c ds (left_of d q) → ⊥)) c ds

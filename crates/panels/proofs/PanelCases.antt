-- Edges, boxes, sums over panels, panels inside, and changed outlines, computed on small closed walks.
-- Assumes nothing.
use mathlib.Core.Bool.{true, false}
use mathlib.Core.List.{List, [], ◌∷◌, map}
use mathlib.Core.Path.{◌≡◌, refl}
use native.Mathlib.Omega.{arith}
use Prim.Native.Nat.{ℕ}
use lib.IntN.{pos, negsuc, neg_ℤ}
use Rattle.grid.specs.Grid.{corner, origin, panel_at}
use Rattle.panels.specs.Edges.{edges_from, surplus_of}
use Rattle.panels.specs.Box.{box_of, panels_in, panel_sum}
use Rattle.panels.specs.Inside.{panels_inside, left_of, right_of, InsideLeft, InsideRight}
use Rattle.panels.specs.Moved.{turned, mirrored, flipped, started_at, backward}

-- P2 and P3: one panel, walked round to the left and to the right
abbrev pub p2 : List ℕ
p2 = 0 ∷ 1 ∷ 2 ∷ 3 ∷ []

abbrev pub p3 : List ℕ
p3 = 3 ∷ 2 ∷ 1 ∷ 0 ∷ []

-- P11: (0,0) and (1,0) are walked round to the left, (2,1) and (3,1) to the right
abbrev pub p11 : List ℕ
p11 = 0 ∷ 0 ∷ 1 ∷ 1 ∷ 0 ∷ 0 ∷ 3 ∷ 2 ∷ 2 ∷ 2 ∷ 2 ∷ 3 ∷ []

-- a figure of eight, whose wings cancel
abbrev pub eight : List ℕ
eight = 0 ∷ 1 ∷ 2 ∷ 3 ∷ 3 ∷ 2 ∷ 1 ∷ 0 ∷ []

-- twice round one panel
abbrev pub twice : List ℕ
twice = 0 ∷ 1 ∷ 2 ∷ 3 ∷ 0 ∷ 1 ∷ 2 ∷ 3 ∷ []

-- a U of five panels, to the left
abbrev pub u : List ℕ
u = 0 ∷ 0 ∷ 0 ∷ 1 ∷ 1 ∷ 2 ∷ 3 ∷ 2 ∷ 1 ∷ 2 ∷ 3 ∷ 3 ∷ []

-- a spiral of ten panels, to the right
abbrev pub spiral : List ℕ
spiral = 1 ∷ 1 ∷ 1 ∷ 1 ∷ 0 ∷ 0 ∷ 0 ∷ 0 ∷ 3 ∷ 3 ∷ 3 ∷ 2 ∷ 2 ∷ 1 ∷ 0 ∷ 1 ∷ 2 ∷ 2 ∷ 3 ∷ 3 ∷ 3 ∷ 2 ∷ []

-- up at x = 1, down at x = 0, both along row 0
edges_round-one-panel : edges_from origin p2 ≡ record { foot = corner (pos 1) (pos 0); north = true } ∷ record { foot = origin; north = false } ∷ []
edges_round-one-panel = refl

box_of_p11 : box_of origin p11 ≡ record { west = pos 0; east = pos 4; south = pos 0; north = pos 2 }
box_of_p11 = refl

panels_of_two-by-two : panels_in (record { west = negsuc 0; east = pos 1; south = pos 0; north = pos 2 })
    ≡ panel_at (corner (negsuc 0) (pos 0)) ∷ panel_at origin ∷ panel_at (corner (negsuc 0) (pos 1)) ∷ panel_at (corner (pos 0) (pos 1)) ∷ []
panels_of_two-by-two = refl

-- an edge at x counts for the panels left of it, not for the panel that it is the left side of
surplus_of_p2 : map (surplus_of origin p2) (panel_at origin ∷ panel_at (corner (pos 1) (pos 0)) ∷ panel_at (corner (negsuc 0) (pos 0)) ∷ []) ≡ pos 1 ∷ pos 0 ∷ pos 0 ∷ []
surplus_of_p2 = refl

pub sum_of_p2 : panel_sum origin p2 ≡ pos 1
sum_of_p2 = refl

pub sum_of_p3 : panel_sum origin p3 ≡ negsuc 0
sum_of_p3 = refl

sum_of_nothing : panel_sum origin [] ≡ pos 0
sum_of_nothing = refl

-- wings that cancel: two panels are inside, and their surpluses are 1 and -1
pub sum_of_eight : panel_sum origin eight ≡ pos 0
sum_of_eight = refl

pub surplus_of_eight : map (surplus_of origin eight) (panels_in (box_of origin eight)) ≡ negsuc 0 ∷ pos 0 ∷ pos 0 ∷ pos 1 ∷ []
surplus_of_eight = refl

pub inside_of_eight : panels_inside origin eight ≡ 2
inside_of_eight = refl

pub sum_of_p11 : panel_sum origin p11 ≡ pos 0
sum_of_p11 = refl

-- twice round, the panel counts twice, far from the origin too
pub sum_of_twice : panel_sum (corner (negsuc 16383) (pos 16384)) twice ≡ pos 2
sum_of_twice = refl

-- a U has surplus 0 in its mouth, and a spiral -1 at each of its panels; row by row from the south
surplus_of_u : map (surplus_of origin u) (panels_in (box_of origin u)) ≡ pos 1 ∷ pos 1 ∷ pos 1 ∷ pos 1 ∷ pos 0 ∷ pos 1 ∷ []
surplus_of_u = refl

surplus_of_spiral : map (λ p. neg_ℤ (surplus_of origin spiral p)) (panels_in (box_of origin spiral))
    ≡ map pos (1 ∷ 0 ∷ 0 ∷ 0 ∷ 1 ∷ 0 ∷ 1 ∷ 1 ∷ 1 ∷ 0 ∷ 0 ∷ 1 ∷ 1 ∷ 1 ∷ 1 ∷ 1 ∷ [])
surplus_of_spiral = refl

inside_of_p3 : panels_inside origin p3 ≡ 1
inside_of_p3 = refl

pub inside_of_u : panels_inside origin u ≡ 5
inside_of_u = refl

pub inside_of_spiral : panels_inside origin spiral ≡ 10
inside_of_spiral = refl

-- round a panel to the left it is on the left of each step
left_of_p2 : left_of 0 origin ∷ left_of 1 (corner (pos 1) (pos 0)) ∷ left_of 2 (corner (pos 1) (pos 1)) ∷ left_of 3 (corner (pos 0) (pos 1)) ∷ []
    ≡ panel_at origin ∷ panel_at origin ∷ panel_at origin ∷ panel_at origin ∷ []
left_of_p2 = refl

right_of_p3 : right_of 3 origin ∷ right_of 2 (corner (pos 0) (negsuc 0)) ∷ right_of 1 (corner (negsuc 0) (negsuc 0)) ∷ right_of 0 (corner (negsuc 0) (pos 0)) ∷ []
    ≡ map panel_at (corner (negsuc 0) (negsuc 0) ∷ corner (negsuc 0) (negsuc 0) ∷ corner (negsuc 0) (negsuc 0) ∷ corner (negsuc 0) (negsuc 0) ∷ [])
right_of_p3 = refl

sides_of_p2 : InsideLeft origin p2
sides_of_p2 = ((refl, λ e. omega arith), ((refl, λ e. omega arith), ((refl, λ e. omega arith), ((refl, λ e. omega arith), tt))))

sides_of_p3 : InsideRight origin p3
sides_of_p3 = ((refl, λ e. omega arith), ((refl, λ e. omega arith), ((refl, λ e. omega arith), ((refl, λ e. omega arith), tt))))

-- outlines changed
turned-p2 : map turned p2 ≡ 1 ∷ 2 ∷ 3 ∷ 0 ∷ []
turned-p2 = refl

mirrored-p2 : map mirrored p2 ≡ 2 ∷ 1 ∷ 0 ∷ 3 ∷ []
mirrored-p2 = refl

flipped-p2 : map flipped p2 ≡ 0 ∷ 3 ∷ 2 ∷ 1 ∷ []
flipped-p2 = refl

started_p2 : started_at 1 p2 ≡ 1 ∷ 2 ∷ 3 ∷ 0 ∷ []
started_p2 = refl

-- walked backwards the sign changes
pub sum-backward : panel_sum origin (backward u) ≡ negsuc 4
sum-backward = refl

backward-u : backward u ≡ 1 ∷ 1 ∷ 0 ∷ 3 ∷ 0 ∷ 1 ∷ 0 ∷ 3 ∷ 3 ∷ 2 ∷ 2 ∷ 2 ∷ []
backward-u = refl

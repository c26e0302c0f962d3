-- Corners, panels and steps (RULES 1.1, 1.2, 1.4). A step is a digit: 0 east, 1 north, 2 west, 3 south. Assumes nothing.
use Rattle.lists.specs.Lists.{zip}
use Rattle.std.specs.Prelude.{◌≡◌, ◌⊎◌, Bool, false, ◌&&◌, ◌||◌, List, [], ◌∷◌, take, ℕ, zero, suc, eqb, ℤ, pos, negsuc, ◌≤ℤ◌, ◌<ℤ◌}
use Rattle.std.proofs.Math.IntN.{suc_ℤ, pred_ℤ}
use Rattle.grid.specs.declared.{Corner.Corner, Panel.Panel}

-- the corner with these coordinates
abbrev pub corner : ℤ → ℤ → Corner
corner x y = record { 0 = x; 1 = y }

-- the drawing's origin, where a walk starts if no start is given
abbrev pub origin : Corner
origin = corner (pos 0) (pos 0)

-- the panel whose lower left corner this is
abbrev pub panel_at : Corner → Panel
panel_at c = record { 0 = c.0; 1 = c.1 }

-- the two are one number
abbrev pub eq_z : ℤ → ℤ → Bool
eq_z (pos a) (pos b) = eqb a b
eq_z (pos a) (negsuc b) = false
eq_z (negsuc a) (pos b) = false
eq_z (negsuc a) (negsuc b) = eqb a b

-- the two are one corner
abbrev pub same : Corner → Corner → Bool
same a b = eq_z a.0 b.0 && eq_z a.1 b.1

-- b is left of q, or straight below it or at it
abbrev pub Begins : Corner → Corner → Type 0
Begins b q = (b.0 <ℤ q.0) ⊎ ((b.0 ≡ q.0) × (b.1 ≤ℤ q.1))

-- x and y of each corner
abbrev pub numbers : List Corner → List ℤ
numbers [] = []
numbers (c ∷ cs) = c.0 ∷ c.1 ∷ numbers cs

-- where a step leads: 0 east (+1,0), 1 north (0,+1), 2 west (-1,0), 3 south (0,-1); a digit above 3 is never walked
abbrev pub stepped : ℕ → Corner → Corner
stepped zero c = corner (suc_ℤ c.0) c.1
stepped (suc zero) c = corner c.0 (suc_ℤ c.1)
stepped (suc (suc zero)) c = corner (pred_ℤ c.0) c.1
stepped (suc (suc (suc d))) c = corner c.0 (pred_ℤ c.1)

-- the direction back: west for east, south for north
abbrev pub back : ℕ → ℕ
back zero = 2
back (suc zero) = 3
back (suc (suc zero)) = 0
back (suc (suc (suc d))) = 1

-- what a step adds to x, and to y: where it leads from (0,0)
abbrev pub east_of : ℕ → ℤ
east_of d = (stepped d origin).0

abbrev pub north_of : ℕ → ℤ
north_of d = (stepped d origin).1

-- the corners p1 to pn of the walk of these steps from c, which is p0; and p0 to pn
abbrev pub later_from : Corner → List ℕ → List Corner
later_from c [] = []
later_from c (d ∷ ds) = stepped d c ∷ later_from (stepped d c) ds

abbrev pub corners_from : Corner → List ℕ → List Corner
corners_from c ds = c ∷ later_from c ds

-- its last corner pn
abbrev pub end_from : Corner → List ℕ → Corner
end_from c [] = c
end_from c (d ∷ ds) = end_from (stepped d c) ds

-- its corner pk: the last of its first k steps
abbrev pub corner_at : Corner → List ℕ → ℕ → Corner
corner_at c ds k = end_from c (take k ds)

-- the steps of a walk with the corners ps, each as its two ends, where it begins first; and those of the walk of these steps from
-- c
abbrev pub legs_of : List Corner → List (Corner × Corner)
legs_of [] = []
legs_of (p ∷ ps) = zip (p ∷ ps) ps

abbrev pub legs_from : Corner → List ℕ → List (Corner × Corner)
legs_from c ds = legs_of (corners_from c ds)

-- a pair is a and b, in either order
abbrev pub joins : Corner → Corner → Corner × Corner → Bool
joins a b l = same l.0 a && same l.1 b || same l.0 b && same l.1 a

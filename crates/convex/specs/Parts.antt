-- A room travelled clockwise, its four extremal corners, and the parts between them (RULES 17.2, 17.3). Assumes nothing.
use mathlib.Core.List.{Memᴰ}
use Rattle.std.specs.Prelude.{◌≡◌, cond, List, [], ◌∷◌, ◌++◌, length, ◌⊎◌, ℕ, zero, suc, ◌+◌, ◌%◌, ◌<◌, pos, ◌≤ℤ◌, ◌<ℤ◌}
use Rattle.std.specs.Int.Signed.{lt_z}
use Rattle.grid.specs.{declared.Corner.Corner, Grid.corners_from, Grid.end_from}
use Rattle.trace.specs.Verdict.{sweep_from}
use Rattle.panels.specs.Moved.{backward}

-- steps turned by i quarter turns to the left: one turn takes east to north
abbrev pub turned_by : ℕ → List ℕ → List ℕ
turned_by i [] = []
turned_by i (d ∷ ds) = (d + i) % 4 ∷ turned_by i ds

-- the steps of a room travelled clockwise: backwards if its area is above 0
abbrev pub clockwise : Corner → List ℕ → List ℕ
clockwise c ds = cond (lt_z (pos 0) (sweep_from c ds)) (backward ds) ds

-- a is farther left than b, or as far left and not above it
abbrev pub LowestLeft : Corner → Corner → Type 0
LowestLeft a b = (a.0 <ℤ b.0) ⊎ ((a.0 ≡ b.0) × (a.1 ≤ℤ b.1))

-- a is higher than b, or as high and not right of it
abbrev pub LeftmostTop : Corner → Corner → Type 0
LeftmostTop a b = (b.1 <ℤ a.1) ⊎ ((a.1 ≡ b.1) × (a.0 ≤ℤ b.0))

-- a is farther right than b, or as far right and not below it
abbrev pub HighestRight : Corner → Corner → Type 0
HighestRight a b = (b.0 <ℤ a.0) ⊎ ((a.0 ≡ b.0) × (b.1 ≤ℤ a.1))

-- a is lower than b, or as low and not left of it
abbrev pub RightmostBottom : Corner → Corner → Type 0
RightmostBottom a b = (a.1 <ℤ b.1) ⊎ ((a.1 ≡ b.1) × (b.0 ≤ℤ a.0))

-- a comes before b, or is b, in the order of extremal corner i: 0 for the lowest on the left, 1 for the leftmost on top, 2 for
-- the highest on the right, 3 for the rightmost at the bottom
abbrev pub ComesFirst : ℕ → Corner → Corner → Type 0
ComesFirst zero a b = LowestLeft a b
ComesFirst (suc zero) a b = LeftmostTop a b
ComesFirst (suc (suc zero)) a b = HighestRight a b
ComesFirst (suc (suc (suc i))) a b = RightmostBottom a b

-- q comes first in this order among the corners of the walk of these steps from c
abbrev pub Extremal : (Corner → Corner → Type 0) → Corner → List ℕ → Corner → Type 0
Extremal R c ds q = (p : Corner) → Memᴰ p (corners_from c ds) → R q p

-- w is part i, 0 to 3, of the closed walk of ds from c, said by itself: the steps from extremal corner i round to the next, and
-- less than all of them
pub record PartIs (i : ℕ) (c : Corner) (ds w : List ℕ) : Type 0 where
  pub before : List ℕ
  pub after : List ℕ
  pub rest : List ℕ
  pub whole : before ++ after ≡ ds
  pub round : after ++ before ≡ w ++ rest
  pub more : 0 < length rest
  pub begins : Extremal (ComesFirst i) c ds (end_from c before)
  pub ends : Extremal (ComesFirst ((i + 1) % 4)) c ds (end_from c (before ++ w))

-- the steps of a room travelled clockwise from c, cut into four parts: from the lowest corner on the left to the leftmost on top,
-- the highest on the right, the rightmost at the bottom, and back
pub record Split (c : Corner) (ds one two three four : List ℕ) : Type 0 where
  pub before : List ℕ
  pub after : List ℕ
  pub whole : before ++ after ≡ ds
  pub round : after ++ before ≡ one ++ (two ++ (three ++ four))
  pub west : Extremal LowestLeft c ds (end_from c before)
  pub north : Extremal LeftmostTop c ds (end_from c (before ++ one))
  pub east : Extremal HighestRight c ds (end_from c (before ++ (one ++ two)))
  pub south : Extremal RightmostBottom c ds (end_from c (before ++ (one ++ (two ++ three))))

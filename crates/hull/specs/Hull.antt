-- The convex hull of some corners (RULES 5.5). L lists it when it begins at the lowest of the leftmost corners, holds exactly the
-- exposed ones, each once, and any three in its order turn left: so no three are in a line and the order is counterclockwise.
-- There is no special case: one corner gives one, and corners along one line give their two outermost. Assumes nothing.
use mathlib.Core.List.{Memᴰ}
use Rattle.lists.specs.Lists.{Distinct}
use Rattle.std.specs.Prelude.{◌≡◌, List, [], ◌∷◌, ◌++◌, ◌↔◌, ℤ, pos, ◌+ℤ◌, ◌-ℤ◌, ◌*ℤ◌, ◌≤ℤ◌, ◌<ℤ◌}
use Rattle.grid.specs.{declared.Corner.Corner, Grid.Begins}

-- above 0 if c lies left of the way from a to b, below 0 if right of it, 0 if the three are in a line
unfoldable pub cross : Corner → Corner → Corner → ℤ
cross a b c = ((b.0 -ℤ a.0) *ℤ (c.1 -ℤ a.1)) -ℤ ((b.1 -ℤ a.1) *ℤ (c.0 -ℤ a.0))

-- a, b and c turn left
pub record Left (a b c : Corner) : Type 0 where
  pub left : pos 0 <ℤ cross a b c

-- how far c lies in the direction (u,v)
unfoldable pub reach : ℤ → ℤ → Corner → ℤ
reach u v c = (u *ℤ c.0) +ℤ (v *ℤ c.1)

-- q is one of P, and in some direction it alone lies farthest
pub record Exposed (P : List Corner) (q : Corner) : Type 0 where
  pub visited : Memᴰ q P
  pub u : ℤ
  pub v : ℤ
  pub most : (p : Corner) → Memᴰ p P → ¬ (p ≡ q) → reach u v p <ℤ reach u v q

-- every two of the list, in its order, are related
abbrev pub Pairs : (Corner → Corner → Type 0) → List Corner → Type 0
Pairs R [] = Unit {0}
Pairs R (a ∷ l) = ((b : Corner) → Memᴰ b l → R a b) × Pairs R l

-- any three of the list, in its order, turn left
abbrev pub Ccw : List Corner → Type 0
Ccw [] = Unit {0}
Ccw (a ∷ l) = Pairs (λ b c. Left a b c) l × Ccw l

-- the list begins at the lowest of the leftmost of P
abbrev pub Starts : List Corner → List Corner → Type 0
Starts P [] = ⊥
Starts P (b ∷ l) = Memᴰ b P × ((q : Corner) → Memᴰ q P → Begins b q)

-- c lies on or left of the way from a to b
pub record OnLeft (a b c : Corner) : Type 0 where
  pub on : pos 0 ≤ℤ cross a b c

-- every corner of P does
abbrev pub AllLeft : List Corner → Corner → Corner → Type 0
AllLeft P a b = (p : Corner) → Memᴰ p P → OnLeft a b p

-- every corner of P lies on or left of each edge of the path
abbrev pub LeftOfPath : List Corner → List Corner → Type 0
LeftOfPath P [] = Unit {0}
LeftOfPath P (b ∷ []) = Unit {0}
LeftOfPath P (b ∷ (a ∷ s)) = AllLeft P b a × LeftOfPath P (a ∷ s)

-- and of the edge from its last corner back to its first
abbrev pub Encloses : List Corner → List Corner → Type 0
Encloses P [] = Unit {0}
Encloses P (b ∷ s) = LeftOfPath P (b ∷ (s ++ (b ∷ [])))

-- L lists the corners of the convex hull of P
pub record HullIs (P L : List Corner) : Type 0 where
  pub starts : Starts P L
  pub corners : (q : Corner) → Memᴰ q L ↔ Exposed P q
  pub once : Distinct L
  pub ccw : Ccw L

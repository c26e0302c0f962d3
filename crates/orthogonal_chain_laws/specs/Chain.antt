-- A pile of rows of blocks, and the chain around it. The rows are 0 to t from the south. Row q has the blocks with the columns l
-- q to r q - 1.
-- Code that has the ends in two lists passes `λ q. get_or ls q 0` and `λ q. get_or rs q 0`. Assumes nothing.
use Rattle.std.specs.Prelude.{◌≡◌, cond, List, [], ◌∷◌, ◌++◌, replicate, ℕ, zero, suc, ◌+◌, ◌-◌, ◌<◌, ◌≤◌, ltb, pos, ◌+ℤ◌, ◌≤ℤ◌, ◌<ℤ◌}
use Rattle.grid.specs.{declared.Corner.Corner, declared.Panel.Panel, Grid.corner}

-- every row has a block, and two rows next to each other have blocks of one column
pub record Piled (l r : ℕ → ℕ) (t : ℕ) : Type 0 where
  pub wide : (q : ℕ) → q ≤ t → l q < r q
  pub below : (q : ℕ) → q < t → l q < r (suc q)
  pub above : (q : ℕ) → q < t → l (suc q) < r q

-- the corner x east and y north of o
abbrev pub corner_by : Corner → ℕ → ℕ → Corner
corner_by o x y = corner (o.0 +ℤ pos x) (o.1 +ℤ pos y)

-- the block is in one of these rows; column 0 begins at o, and so does row 0
pub record InPile (o : Corner) (l r : ℕ → ℕ) (t : ℕ) (p : Panel) : Type 0 where
  pub row : ℕ
  pub among : row ≤ t
  pub level : p.1 ≡ o.1 +ℤ pos row
  pub west : (o.0 +ℤ pos (l row)) ≤ℤ p.0
  pub east : p.0 <ℤ (o.0 +ℤ pos (r row))

-- how many blocks n rows have together, from row m on
abbrev pub blocks_from : (ℕ → ℕ) → (ℕ → ℕ) → ℕ → ℕ → ℕ
blocks_from l r m zero = 0
blocks_from l r m (suc n) = (r m - l m) + blocks_from l r (suc m) n

-- the steps from column a to column b: all east or all west
abbrev pub sideways : ℕ → ℕ → List ℕ
sideways a b = replicate (b - a) 0 ++ replicate (a - b) 2

-- down the left side, from the foot of row m + n to the foot of row m: for each of n rows to its left end and then south along it
abbrev pub left_side : (ℕ → ℕ) → ℕ → ℕ → List ℕ
left_side l m zero = []
left_side l m (suc n) = sideways (l (m + suc n)) (l (m + n)) ++ (3 ∷ left_side l m n)

-- up the right side, from the foot of row q to the top of row q + n: north along each row, and then to the right end of the next
abbrev pub right_side : (ℕ → ℕ) → ℕ → ℕ → List ℕ
right_side r q zero = 1 ∷ []
right_side r q (suc n) = 1 ∷ (sideways (r q) (r (suc q)) ++ right_side r (suc q) n)

-- the chain around the rows 0 to t, counterclockwise from the south-west corner of row k: down the left side to row 0, east along
-- its foot, up the right side, west along the top, and down the left side to row k, at last south along that row
abbrev pub chain_from_row : (ℕ → ℕ) → (ℕ → ℕ) → ℕ → ℕ → List ℕ
chain_from_row l r t k =
    left_side l 0 k ++ (sideways (l 0) (r 0) ++ (right_side r 0 t ++ (sideways (r t) (l t) ++ (3 ∷ left_side l k (t - k)))))

-- the lowest of the rows 0 to t whose left end is least
abbrev pub home_row : (ℕ → ℕ) → ℕ → ℕ
home_row l zero = 0
home_row l (suc q) = cond (ltb (l (suc q)) (l (home_row l q))) (suc q) (home_row l q)

-- the chain from the lowest of the leftmost corners, which is the south-west corner of that row
abbrev pub chain_from_home : (ℕ → ℕ) → (ℕ → ℕ) → ℕ → List ℕ
chain_from_home l r t = chain_from_row l r t (home_row l t)

-- the left ends fall up to row k and rise after it; the right ends rise up to row j and fall after it
pub record Bulges (l r : ℕ → ℕ) (t k j : ℕ) : Type 0 where
  pub left : k ≤ t
  pub left_falls : (q : ℕ) → q < k → l (suc q) ≤ l q
  pub left_rises : (q : ℕ) → k ≤ q → q < t → l q ≤ l (suc q)
  pub right : j ≤ t
  pub right_rises : (q : ℕ) → q < j → r q ≤ r (suc q)
  pub right_falls : (q : ℕ) → j ≤ q → q < t → r (suc q) ≤ r q

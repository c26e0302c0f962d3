-- The rows of an orthogonal hull, from the ends of the rows of blocks. Rows are 0 to t from the south, columns count from the
-- west end of the bounding box, and the right end of a row is one past its last block. Code that has the ends in two lists passes
-- `λ q. get_or ls q 0` and `λ q. get_or rs q 0`. Assumes nothing.
use Rattle.std.specs.Prelude.{min, max, ◌≡◌, ℕ, zero, suc, ◌-◌, ◌≤◌, ◌<◌, pos, ◌+ℤ◌}
use Rattle.grid.specs.{declared.Corner.Corner, declared.Panel.Panel}
use Rattle.orthogonal.specs.Blocks.{block}
use Rattle.orthogonal_chain_laws.specs.Chain.{InPile}

-- what is picked of f m to f (m + n), the lesser or the greater of two at a time: the least and the greatest of them
abbrev pub pick_over : (ℕ → ℕ → ℕ) → (ℕ → ℕ) → ℕ → ℕ → ℕ
pick_over pick f m zero = f m
pick_over pick f m (suc n) = pick (f m) (pick_over pick f (suc m) n)

abbrev pub least_over : (ℕ → ℕ) → ℕ → ℕ → ℕ
least_over f m n = pick_over min f m n

abbrev pub most_over : (ℕ → ℕ) → ℕ → ℕ → ℕ
most_over f m n = pick_over max f m n

-- the left end of row q of the hull: the greater of the least left end of the rows up to q and the least of those from q on; and
-- its right end: the lesser of the greatest right ends
abbrev pub hull_left : (ℕ → ℕ) → ℕ → ℕ → ℕ
hull_left l t q = max (least_over l 0 q) (least_over l q (t - q))

abbrev pub hull_right : (ℕ → ℕ) → ℕ → ℕ → ℕ
hull_right r t q = min (most_over r 0 q) (most_over r q (t - q))

-- l and r are the ends of the rows of B: every block of B is in its row from l to r, and the first and the last block of each row
-- are in B
pub record RowEnds (B : Panel → Type 0) (o : Corner) (l r : ℕ → ℕ) (t : ℕ) : Type 0 where
  pub wide : (q : ℕ) → q ≤ t → l q < r q
  pub within : (p : Panel) → B p → InPile o l r t p
  pub first : (q : ℕ) → q ≤ t → B (block (o.0 +ℤ pos (l q)) (o.1 +ℤ pos q))
  pub last : (q x : ℕ) → q ≤ t → r q ≡ suc x → B (block (o.0 +ℤ pos x) (o.1 +ℤ pos q))

-- What the scan over columns asks and promises.
-- Assumes nothing.
use Rattle.std.specs.Prelude.{◌≡◌, List, ℕ, suc, ◌<◌, ◌≤◌, length, get_or, drop}
use Rattle.hull_laws.specs.Lowest.{blank}
use Rattle.hull_laws.specs.Chain.{chain_from}

-- from place q on s has columns of ys that are right of p
pub record Stack (ys s : List ℕ) (q p : ℕ) : Type 0 where
  pub begins : q ≤ length s
  pub columns : (j : ℕ) → q ≤ j → j < length s → (p < get_or s j 0) × (get_or s j 0 < length ys)
  pub short : length ys ≤ suc blank

-- s has the chain of the columns of ys, from place a on
pub record Scanned (ys s : List ℕ) (a : ℕ) : Type 0 where
  pub chain : drop a s ≡ chain_from ys 0 (length ys)
  pub begins : a ≤ length s

-- A chain laid down twice, one after the other, in a buffer.
-- Assumes nothing.
use Rattle.std.specs.Prelude.{List, ◌≡◌, ℕ, ◌+◌, ◌*◌, ◌<◌, ◌≤◌, length, get_or}
use Rattle.box_laws.specs.Box.{Boxable}

-- the first i steps of w stand at the start of out and from place n on
pub record LaidTwice (w : List ℕ) (n : ℕ) (out : List ℕ) (i : ℕ) : Type 0 where
  pub once : (j : ℕ) → j < i → get_or out j 0 ≡ get_or w j 0
  pub again : (j : ℕ) → j < i → get_or out (n + j) 0 ≡ get_or w j 0

-- the store is large enough to lay down a chain of at most n steps, and to judge its parts
pub record Roomy (ds out ys s : List ℕ) : Type 0 where
  pub steps : Boxable ds
  pub out-room : 2 * length ds ≤ length out
  pub depths : length ds < length ys
  pub stack : length ds < length s
  pub narrow : length ys ≤ 65536

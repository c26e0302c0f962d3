-- What the writing of a list of corners asks and promises.
-- Assumes nothing.
use Rattle.std.specs.Prelude.{◌≡◌, List, [], ◌∷◌, ◌++◌, map, ℕ, suc, ◌+◌, ◌*◌, ◌-◌, ◌<◌, ◌≤◌, ltb, ℤ, pos, nat_abs, ◌+ℤ◌, ◌-ℤ◌, length, get_or}
use Rattle.answer.specs.Answers.{Counted}
use Rattle.grid.specs.declared.Corner.{Corner}
use Rattle.grid.specs.Grid.{numbers}
use Rattle.answer.specs.declared.Refusal.TheVariants.{HullRoom}
use Rattle.answer.specs.Limits.{farthest}
use Rattle.answer.specs.Refusal.{when}
use Rattle.answer.specs.Listed.{counted_of, laid_if}
use Rattle.column_laws.specs.Columns.{middle, top, spot}
use Rattle.hull_laws.specs.Lowest.{blank}
use Rattle.hull_laws.specs.Chain.{spot_back, col_at, chain_from}

-- the list L is counted, and written if the buffer is long enough
pub record ListGiven (L : List Corner) (before : List ℤ) (r : Counted) (after : List ℤ) : Type 0 where
  pub answer : r ≡ counted_of (when (ltb (length before) (2 * length L)) HullRoom) (length L)
  pub buffer : after ≡ laid_if (when (ltb (length before) (2 * length L)) HullRoom) (numbers L) before

-- the columns s can be written from place o on, counted from base
pub record Puts (size o : ℕ) (base : Corner) (way : ℤ) (ys s : List ℕ) : Type 0 where
  pub fits : o + 2 * length s ≤ size
  pub x : nat_abs base.0 ≤ 2 * farthest
  pub y : nat_abs base.1 ≤ 2 * farthest
  pub one : nat_abs way ≤ 1
  pub columns : (j : ℕ) → j < length s → get_or s j 0 < length ys

-- the corners of s, and then of t
abbrev pub both_sides : Corner → ℕ → ℕ → List ℕ → List ℕ → List ℕ → List ℕ → List Corner
both_sides c w e lo hi s t =
    map (λ i. spot ((c.0 -ℤ pos middle) +ℤ pos w) (c.1 -ℤ pos middle) (col_at lo i)) s
    ++ map (λ i. spot_back ((c.0 -ℤ pos middle) +ℤ pos e) ((c.1 -ℤ pos middle) +ℤ pos top) (col_at hi i)) t

-- the two corners at the height of the start in the columns w and e
abbrev pub two_at : Corner → ℕ → ℕ → List Corner
two_at c w e =
    spot (c.0 -ℤ pos middle) (c.1 -ℤ pos middle) (w, middle) ∷ (spot (c.0 -ℤ pos middle) (c.1 -ℤ pos middle) (e, middle) ∷ [])

-- parts of the two chains of the columns w to e, and a buffer that is long enough for them
pub record Parts (w e : ℕ) (lo hi s t : List ℕ) (size : ℕ) : Type 0 where
  pub ordered : w ≤ e
  pub within : e ≤ top
  pub fits : 2 * (length s + length t) ≤ size
  pub columns : (j : ℕ) → j < length s → get_or s j 0 < length lo
  pub columns2 : (j : ℕ) → j < length t → get_or t j 0 < length hi

-- the two chains of the columns w to e
pub record TwoChains (w e : ℕ) (lo hi s t : List ℕ) : Type 0 where
  pub ordered : w ≤ e
  pub within : e ≤ top
  pub low : e - w < length lo
  pub high : e - w < length hi
  pub lower : s ≡ chain_from lo 0 (suc (e - w))
  pub upper : t ≡ chain_from hi 0 (suc (e - w))
  pub short : length s ≤ suc blank
  pub short2 : length t ≤ suc blank

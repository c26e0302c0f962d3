-- Lists of spans in buffers, and numbers of two sizes.
-- Assumes nothing.
use Rattle.std.specs.Prelude.{List, ◌≡◌, ℕ, ◌%◌, ◌<◌, ◌≤◌, ℤ, pos, nat_abs, length, get_or, take}
use Rattle.grid.specs.declared.Corner.{Corner}
use Rattle.overlay_sweep.specs.Parts.{ends_in, HoldsSpans}

-- numbers that fit 16 bits
abbrev pub AllFit : List ℤ → Type 0
AllFit list = (k : ℕ) → k < length list → nat_abs (get_or list k (pos 0)) ≤ 32767

-- the first n numbers of the list are the spans of a closed walk
pub record ListsSpans (c : Corner) (ds : List ℕ) (list : List ℤ) (n : ℕ) : Type 0 where
  pub within : n ≤ length list
  pub whole : n % 3 ≡ 0
  pub spans : HoldsSpans c ds (take n list) (ends_in (take n list))

-- What the passes over a walk's columns ask and promise.
-- Assumes nothing.
use Rattle.std.specs.Prelude.{◌≡◌, List, ℕ, ◌-◌, ◌<◌, ◌≤◌, length, get_or}
use Rattle.answer.specs.Limits.{most_steps}
use Rattle.column_laws.specs.Columns.{middle, west_from, east_from}
use Rattle.hull_columns.specs.declared.Extent.{Extent}

-- the westmost and the eastmost column of a walk
abbrev pub extent_of : List ℕ → Extent
extent_of chain = record { west = west_from middle chain; east = east_from middle chain }

-- a chain of steps that is not refused, and the columns that it goes through
pub record Spans (chain : List ℕ) (w e : ℕ) : Type 0 where
  pub digits : (k : ℕ) → get_or chain k 0 < 4
  pub short : length chain ≤ most_steps
  pub west : w ≡ west_from middle chain
  pub east : e ≡ east_from middle chain

-- after has the columns 0 to m of before from right to left, and the others as they are
pub record Mirrored (m : ℕ) (before after : List ℕ) : Type 0 where
  pub size : length before ≡ length after
  pub inside : (c : ℕ) → c ≤ m → get_or after c 0 ≡ get_or before (m - c) 0
  pub beyond : (c : ℕ) → m < c → get_or after c 0 ≡ get_or before c 0

-- The ref of a node that there may be.
-- Assumes nothing.
use Rattle.std.specs.Prelude.{Option, None, Some, ℕ, ◌+◌}

-- 0 if there is none
abbrev pub ref_by : Option ℕ → ℕ
ref_by None = 0
ref_by (Some u) = u + 1

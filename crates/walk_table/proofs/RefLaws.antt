-- A node's ref is its number and 1, and that of none is 0.
-- Assumes nothing.
use mathlib.Core.Bool.{false}
use mathlib.Core.Path.{◌≡◌, refl}
use Prim.Native.Nat.{ℕ, ◌+◌, ◌-◌}
use native.Mathlib.Omega.{arith}
use Rattle.std.specs.Prelude.{Option, None, Some}
use Rattle.std.specs.Option.{is_some}
use Rattle.walk_table.specs.Refs.{ref_by}

-- the number from the ref
pub number : (u : ℕ) → u + 1 - 1 ≡ u
number u = omega arith

-- the ref of none
pub ref_none : (r : Option ℕ) → is_some r ≡ false → ref_by r ≡ 0
ref_none None e = refl
ref_none (Some u) e = (cc)

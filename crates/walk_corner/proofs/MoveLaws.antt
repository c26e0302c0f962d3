-- A step by what it adds to x and to y.
-- Assumes nothing.
use mathlib.Core.Path.{◌≡◌, ap₂}
use Prim.Native.Nat.{ℕ, zero, suc, ◌≤◌}
use native.Mathlib.Omega.{arith}
use lib.IntN.{ℤ, nat_abs, ◌+ℤ◌, +ℤ_one, -ℤ_one, +ℤ_idr}
use mir.Syntax.{w32}
use mir.Val.{to_z, of_z}
use mir.ValLaws.{to_z-of_z}
use Rattle.grid.specs.declared.Corner.{Corner}
use Rattle.grid.specs.Grid.{corner, stepped, east_of, north_of}
use Rattle.int_laws.proofs.RangeLaws.{sfits_abs}

-- so small a number is what the machine reads back
pub read_back : (z : ℤ) → nat_abs z ≤ 65536 → to_z w32 (of_z w32 z) ≡ z
read_back z h = to_z-of_z w32 z (sfits_abs w32 z (omega arith))

pub stepped_by : (d : ℕ) (c : Corner) → corner (c.0 +ℤ east_of d) (c.1 +ℤ north_of d) ≡ stepped d c
stepped_by zero c = ap₂ corner (+ℤ_one c.0) (+ℤ_idr c.1)
stepped_by (suc zero) c = ap₂ corner (+ℤ_idr c.0) (+ℤ_one c.1)
stepped_by (suc (suc zero)) c = ap₂ corner (-ℤ_one c.0) (+ℤ_idr c.1)
stepped_by (suc (suc (suc d))) c = ap₂ corner (+ℤ_idr c.0) (-ℤ_one c.1)

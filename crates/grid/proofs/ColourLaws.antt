-- Corners are of two colours, as the squares of a chessboard: every step changes the colour, so a closed walk has an even number of steps.
-- Assumes nothing.
use mathlib.Core.List.{List, [], ◌∷◌}
use mathlib.Core.Path.{◌≡◌, ap}
use Prim.Native.Nat.{ℕ, zero, suc, ◌+◌, ◌%◌}
use native.Mathlib.Omega.{arith}
use lib.IntN.{ℤ, pos, negsuc, nat_abs, suc_ℤ, pred_ℤ}
use lib.ListN.{length}
use Rattle.grid.specs.declared.Corner.{Corner}
use Rattle.grid.specs.Grid.{stepped, end_from}
use Rattle.grid.specs.Tree.{size_of}

suc_parity : (z : ℤ) → nat_abs (suc_ℤ z) % 2 ≡ suc (nat_abs z) % 2
suc_parity (pos n) = omega arith
suc_parity (negsuc zero) = omega arith
suc_parity (negsuc (suc n)) = omega arith

pred_parity : (z : ℤ) → nat_abs (pred_ℤ z) % 2 ≡ suc (nat_abs z) % 2
pred_parity (pos zero) = omega arith
pred_parity (pos (suc n)) = omega arith
pred_parity (negsuc n) = omega arith

step_colour : (d : ℕ) (c : Corner) → size_of (stepped d c) % 2 ≡ suc (size_of c) % 2
step_colour zero c = omega (arith, suc_parity c.0)
step_colour (suc zero) c = omega (arith, suc_parity c.1)
step_colour (suc (suc zero)) c = omega (arith, pred_parity c.0)
step_colour (suc (suc (suc d))) c = omega (arith, pred_parity c.1)

walk_colour : (c : Corner) (ds : List ℕ) → size_of (end_from c ds) % 2 ≡ (size_of c + length ds) % 2
walk_colour c [] = omega arith
walk_colour c (d ∷ ds) = omega (arith, walk_colour (stepped d c) ds, step_colour d c)

pub closed_even : (c : Corner) (ds : List ℕ) → end_from c ds ≡ c → length ds % 2 ≡ 0
closed_even c ds e = omega (arith, walk_colour c ds, ap size_of e)

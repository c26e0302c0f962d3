-- How far a walk gets: a step changes each coordinate by one at most.
-- Assumes nothing.
use mathlib.Core.List.{List, [], ◌∷◌}
use Prim.Native.Nat.{ℕ, zero, suc, ◌+◌, ◌≤◌}
use native.Mathlib.Omega.{arith}
use lib.IntN.{ℤ, pos, negsuc, suc_ℤ, pred_ℤ, nat_abs}
use lib.ListN.{length}
use Rattle.grid.specs.declared.Corner.{Corner}
use Rattle.grid.specs.Grid.{stepped, end_from}

suc_bound : (z : ℤ) → nat_abs (suc_ℤ z) ≤ nat_abs z + 1
suc_bound (pos n) = omega arith
suc_bound (negsuc zero) = omega arith
suc_bound (negsuc (suc n)) = omega arith

pred_bound : (z : ℤ) → nat_abs (pred_ℤ z) ≤ nat_abs z + 1
pred_bound (pos zero) = omega arith
pred_bound (pos (suc n)) = omega arith
pred_bound (negsuc n) = omega arith

pub stepped_bound : (d : ℕ) (c : Corner) → (nat_abs (stepped d c).0 ≤ nat_abs c.0 + 1) × (nat_abs (stepped d c).1 ≤ nat_abs c.1 + 1)
stepped_bound zero c = (suc_bound c.0, omega arith)
stepped_bound (suc zero) c = (omega arith, suc_bound c.1)
stepped_bound (suc (suc zero)) c = (pred_bound c.0, omega arith)
stepped_bound (suc (suc (suc d))) c = (omega arith, pred_bound c.1)

pub end_from_bound : (ds : List ℕ) (c : Corner) → (nat_abs (end_from c ds).0 ≤ nat_abs c.0 + length ds) × (nat_abs (end_from c ds).1 ≤ nat_abs c.1 + length ds)
end_from_bound [] c = (omega arith, omega arith)
end_from_bound (d ∷ ds) c =
    let h = end_from_bound ds (stepped d c) in
    let m = stepped_bound d c in
    (omega (arith, h.0, m.0), omega (arith, h.1, m.1))

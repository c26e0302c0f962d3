-- Coordinates in 32 bits.
-- Assumes nothing.
use mathlib.Core.Path.{◌≡◌, sym, ap₂, ◌∙◌, subst}
use mathlib.Core.Bool.{true, false}
use Prim.Native.Nat.{ℕ, ◌≤◌}
use native.Mathlib.Omega.{arith}
use lib.IntN.{ℤ, pos, nat_abs, neg_ℤ, ◌-ℤ◌}
use mir.Syntax.{w32}
use mir.Val.{SFits, to_z, of_z}
use mir.ValLaws.{to_z_pos}
use mir.Facts.{to_z-of_z}
use Rattle.answer.specs.Limits.{farthest}
use Rattle.int_laws.proofs.LinearLaws.{nat_eq, bal-, neg_nat}
use Rattle.polygon.specs.Coordinate.{signed}
use Rattle.polygon_laws.proofs.SignedLaws.{small_fits, back}
use Rattle.polygon_ring_laws.proofs.TakeLaws.{nat_abs-signed}

-- a magnitude, and the same below 0
pub plain_is : (n : ℕ) → n ≤ farthest → to_z w32 n ≡ signed false n
plain_is n h = to_z_pos w32 n (omega arith)

negated : (n : ℕ) → n ≤ farthest → to_z w32 0 -ℤ to_z w32 n ≡ signed true n
negated n h = ap₂ ◌-ℤ◌ (to_z_pos w32 0 (omega arith)) (to_z_pos w32 n (omega arith)) ∙ nat_eq (pos 0 -ℤ pos n) (neg_ℤ (pos n)) (omega (arith, bal- (pos 0) (pos n), neg_nat (pos n)))

pub negated_fits : (n : ℕ) → n ≤ farthest → SFits w32 (to_z w32 0 -ℤ to_z w32 n)
negated_fits n h = subst (SFits w32) (sym (negated n h)) (small_fits (signed true n) (omega (arith, nat_abs-signed true n)))

pub negated_is : (n : ℕ) → n ≤ farthest → to_z w32 (of_z w32 (to_z w32 0 -ℤ to_z w32 n)) ≡ signed true n
negated_is n h = to_z-of_z (negated_fits n h) ∙ negated n h

-- a number in range, written and read back, is in range
pub back_le : (z : ℤ) → nat_abs z ≤ farthest → nat_abs (to_z w32 (of_z w32 z)) ≤ farthest
back_le z h = subst (λ (y : ℤ). nat_abs y ≤ farthest) (sym (back z h)) h

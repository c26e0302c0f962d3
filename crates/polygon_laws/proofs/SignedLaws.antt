-- Coordinates in 32 bits: 600 times one fits, one is read back from its bits, and a magnitude is negated.
-- Assumes nothing.
use mathlib.Core.Path.{◌≡◌, sym, ap, ◌∙◌, subst}
use Prim.Native.Nat.{suc, ◌*◌, ◌≤◌}
use native.Mathlib.Omega.{arith}
use lib.IntN.{ℤ, pos, negsuc, neg_ℤ, nat_abs, ◌*ℤ◌, pos-*ℤ-pos, pos-*ℤ-negsuc}
use lib.Signed.{mag}
use lib.Ieee.{Float}
use mir.Syntax.{w32}
use mir.Val.{SFits, to_z, of_z}
use mir.Facts.{to_z-of_z}
use Rattle.answer.specs.Limits.{farthest}
use Rattle.int_laws.proofs.RangeLaws.{mag_neg}
use Rattle.polygon.specs.Coordinate.{coordinate_of}

-- ---- a coordinate

pub scaled_fits : (z : ℤ) → nat_abs z ≤ farthest → SFits w32 (pos 600 *ℤ z)
scaled_fits (pos n) h = subst (SFits w32) (sym (pos-*ℤ-pos 600 n)) (record { sfits = omega arith })
scaled_fits (negsuc n) h =
    let m : mag (neg_ℤ (pos (600 * suc n))) ≤ 19660800 = mag_neg (600 * suc n) 19660800 (omega arith) in
    subst (SFits w32) (sym (pos-*ℤ-negsuc 600 n)) (record { sfits = omega arith })

pub small_fits : (z : ℤ) → nat_abs z ≤ farthest → SFits w32 z
small_fits (pos n) h = record { sfits = omega arith }
small_fits (negsuc n) h = record { sfits = omega arith }

-- a number in range, written and read back
pub back : (z : ℤ) → nat_abs z ≤ farthest → to_z w32 (of_z w32 z) ≡ z
back z h = to_z-of_z (small_fits z h)

pub sent : {x : Float} (z : ℤ) → nat_abs z ≤ farthest → x ≡ coordinate_of (to_z w32 (of_z w32 z)) → x ≡ coordinate_of z
sent z h e = e ∙ ap coordinate_of (back z h)

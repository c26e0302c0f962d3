-- Numbers of 16 and 32 bits.
-- Assumes nothing.
use mathlib.Core.Path.{◌≡◌, sym, ap, ◌∙◌, subst}
use Prim.Native.Nat.{◌≤◌}
use native.Mathlib.Omega.{arith}
use lib.Dec.{T}
use lib.IntN.{ℤ, pos, nat_abs, ◌+ℤ◌}
use lib.Signed.{non_neg, yes_non_neg}
use mir.Syntax.{w16, w32, w64}
use mir.Val.{SFits, Fits, to_z, of_z}
use mir.Facts.{to_z-of_z}
use Rattle.answer.specs.Limits.{farthest}
use Rattle.int_laws.proofs.LinearLaws.{zarith, bal+, nat_le}
use Rattle.int_laws.proofs.RangeLaws.{abs_nat, abs+, sfits_abs}

-- a small number is the one that its bits are
pub short_back : (z : ℤ) → nat_abs z ≤ 32767 → to_z w16 (of_z w16 z) ≡ z
short_back z h = to_z-of_z (sfits_abs w16 z (omega (arith, h)))

pub long-back : (z : ℤ) → nat_abs z ≤ 65536 → to_z w32 (of_z w32 z) ≡ z
long-back z h = to_z-of_z (sfits_abs w32 z (omega (arith, h)))

-- a number of 32 bits
abbrev wide : ℤ → ℤ
wide z = to_z w32 (of_z w32 z)

-- a coordinate counted from the least
module _ (z : ℤ) (h : nat_abs z ≤ farthest) where
  small_back : wide z ≡ z
  small_back = long-back z (omega (arith, h))

  sum_fits : SFits w32 (z +ℤ pos 32768)
  sum_fits = sfits_abs w32 (z +ℤ pos 32768) (omega (arith, h, abs+ z (pos 32768)))

  pub lift_fits : SFits w32 (wide z +ℤ pos 32768)
  lift_fits = subst (λ (y : ℤ). SFits w32 (y +ℤ pos 32768)) (sym small_back) sum_fits

  lift-back : wide (wide z +ℤ pos 32768) ≡ z +ℤ pos 32768
  lift-back = to_z-of_z lift_fits ∙ ap (λ (y : ℤ). y +ℤ pos 32768) small_back

  pub lift_cast : T (non_neg (wide (wide z +ℤ pos 32768))) × Fits w64 (nat_abs (wide (wide z +ℤ pos 32768)))
  lift_cast = subst (λ (y : ℤ). T (non_neg y) × Fits w64 (nat_abs y)) (sym lift-back) (yes_non_neg (nat_le (pos 0) (z +ℤ pos 32768) (omega (zarith, h, abs_nat z, bal+ z (pos 32768)))), record { fits = omega (arith, h, abs+ z (pos 32768)) })

  pub lift-is : (nat_abs (wide (wide z +ℤ pos 32768)) ≡ nat_abs (z +ℤ pos 32768)) × (nat_abs (wide (wide z +ℤ pos 32768)) ≤ 65536)
  lift-is = (ap nat_abs lift-back, subst (λ (y : ℤ). nat_abs y ≤ 65536) (sym lift-back) (omega (arith, h, abs+ z (pos 32768))))

-- What the needs of signed machine arithmetic ask: bounds on magnitudes. `nat_abs` is the absolute value.
-- Assumes nothing.
use mathlib.Core.Path.{◌≡◌, refl, sym, subst}
use Prim.Native.Nat.{ℕ, zero, suc, ◌+◌, ◌*◌, ◌^◌, ◌≤◌, ◌<◌}
use native.Mathlib.Nat.{mul-le-mul}
use native.Mathlib.Omega.{arith}
use lib.IntN.{ℤ, pos, negsuc, neg_ℤ, nat_abs, ◌+ℤ◌, ◌-ℤ◌, ◌*ℤ◌}
use lib.Signed.{mag, ◌≤ℤ◌, ◌<ℤ◌, le_z, lt_z, le_z_yes, lt_z_yes, lt_z_no}
use mathlib.Core.Bool.{Bool, true, false, not}
use lib.Dec.{T}
use mir.Syntax.{Width}
use mir.Val.{SFits, hbits}
use Rattle.int_laws.specs.Signed.{up, dn}
use Rattle.int_laws.proofs.LinearLaws.{bal+}

pub abs_nat : (z : ℤ) → nat_abs z ≡ up z + dn z
abs_nat (pos n) = omega arith
abs_nat (negsuc n) = omega arith

pub abs_neg : (z : ℤ) → nat_abs (neg_ℤ z) ≡ nat_abs z
abs_neg (pos zero) = refl
abs_neg (pos (suc n)) = refl
abs_neg (negsuc n) = refl

abs_either : (z : ℤ) (A B : ℕ) → up z + A ≡ dn z + B → nat_abs z ≤ A + B
abs_either (pos n) A B h = omega arith
abs_either (negsuc n) A B h = omega arith

pub abs+ : (x y : ℤ) → nat_abs (x +ℤ y) ≤ nat_abs x + nat_abs y
abs+ x y = omega (arith, abs_either (x +ℤ y) (dn x + dn y) (up x + up y) (bal+ x y), abs_nat x, abs_nat y)

pub abs- : (x y : ℤ) → nat_abs (x -ℤ y) ≤ nat_abs x + nat_abs y
abs- x y = omega (arith, abs+ x (neg_ℤ y), abs_neg y)

abs* : (x y : ℤ) → nat_abs (x *ℤ y) ≡ nat_abs x * nat_abs y
abs* (pos a) (pos b) = refl
abs* (pos a) (negsuc b) = abs_neg (pos (a * suc b))
abs* (negsuc a) (pos b) = abs_neg (pos (suc a * b))
abs* (negsuc a) (negsuc b) = refl

pub abs*≤ : (x y : ℤ) (A B : ℕ) → nat_abs x ≤ A → nat_abs y ≤ B → nat_abs (x *ℤ y) ≤ A * B
abs*≤ x y A B h g = omega (arith, abs* x y, mul-le-mul h g)

mag_abs : (z : ℤ) → mag z ≤ nat_abs z
mag_abs (pos n) = omega arith
mag_abs (negsuc n) = omega arith

pub sfits_abs : (w : Width) (z : ℤ) → nat_abs z < 2 ^ hbits w → SFits w z
sfits_abs w z h = record { sfits = omega (arith, mag_abs z) }

-- what a branch on a signed comparison leaves
pub lt_true : {a b : ℤ} → lt_z a b ≡ true → a <ℤ b
lt_true {a} {b} e = lt_z_yes (subst (λ (x : Bool). T x) (sym e) tt)

pub lt_false : {a b : ℤ} → lt_z a b ≡ false → b ≤ℤ a
lt_false {a} {b} e = lt_z_no (subst (λ (x : Bool). T (not x)) (sym e) tt)

pub le_true : {a b : ℤ} → le_z a b ≡ true → a ≤ℤ b
le_true {a} {b} e = le_z_yes (subst (λ (x : Bool). T x) (sym e) tt)

-- the magnitude of an i32 that is not above 0
pub mag_neg : (k n : ℕ) → k ≤ suc n → mag (neg_ℤ (pos k)) ≤ n
mag_neg zero n h = omega arith
mag_neg (suc k) n h = omega arith

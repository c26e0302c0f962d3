-- Tests: turned round, failing, and counted.
-- Assumes nothing.
use mathlib.Core.Bool.{Bool, true, false, not}
use mathlib.Core.Path.{◌≡◌, refl, sym}
use Prim.Native.Nat.{ℕ, zero, suc, ◌%◌, ◌≤◌}
use native.Mathlib.Omega.{arith}
use lib.Dec.{eqb}
use Rattle.lists.specs.Lists.{tally}

-- a test that is turned round
pub not-true : (b : Bool) → not b ≡ true → b ≡ false
not-true true e = sym e
not-true false e = refl

pub not-false : (b : Bool) → not b ≡ false → b ≡ true
not-false true e = refl
not-false false e = sym e

-- a test that fails if what it shows does not hold
pub unfit : {P : Type 0} (b : Bool) → (b ≡ true → P) → (P → ⊥) → b ≡ false
unfit true f n = absurd (n (f refl))
unfit false f n = refl

pub is_false : (b : Bool) → (b ≡ true → ⊥) → b ≡ false
is_false b f = unfit b (λ e. e) f

-- a test counts at most once, and that of being odd counts as much as is left
pub tally_le : (b : Bool) → tally b ≤ 1
tally_le true = omega arith
tally_le false = omega arith

pub tally-odd : (n : ℕ) → tally (eqb (n % 2) 1) ≡ n % 2
tally-odd n = by (n % 2) (omega arith)
  where
    by : (m : ℕ) → m % 2 ≡ m → tally (eqb m 1) ≡ m
    by zero h = refl
    by (suc zero) h = refl
    by (suc (suc m)) h = absurd (omega (arith, h))

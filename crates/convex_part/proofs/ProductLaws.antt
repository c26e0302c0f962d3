-- A product of two numbers of 16 bits.
-- Assumes nothing.
use Prim.Native.Nat.{ℕ, ◌*◌, ◌<◌}
use native.Mathlib.Omega.{arith}
use native.Mathlib.Nat.{mul-le-mul}

pub times_lt : (m n : ℕ) → m < 65536 → n < 65536 → m * n < 4294967296
times_lt m n h g = omega (arith, mul-le-mul {n₁ = m} {m₁ = n} {n₂ = 65535} {m₂ = 65535} (omega arith) (omega arith))

-- Floors of numbers that are counted from the beginning of a block, and sums of quotients.
-- Assumes nothing.
use mathlib.Core.Path.{◌≡◌, ap, sym, ◌∙◌}
use Prim.Native.Nat.{ℕ, zero, suc, ◌+◌, ◌*◌, ◌-◌, ◌/◌, ◌%◌, ◌<◌, ◌≤◌}
use native.Mathlib.Decide.{dec_lt}
use native.Mathlib.Nat.{div-add-mod', mod-lt, suc-mul, add-div_right, div-eq_of_lt, div-lt_iff_lt-mul, mul-add-div_right, div-mul-le_self, add-mul}
use native.Mathlib.Omega.{arith}
use lib.Arith.{digits_div}
use lib.IntN.{ℤ, pos, negsuc, ◌+ℤ◌, ◌-ℤ◌}
use Rattle.int_laws.proofs.LinearLaws.{zarith, bal+, bal-}
use Rattle.orthogonal.specs.Blocks.{floor_by}
use Rattle.orthogonal_row_laws.specs.Lanes.{Aligned}

module _ (g : ℕ) (some : 0 < g) where
  -- a whole block less
  floor_less : (z : ℤ) → floor_by g (z -ℤ pos g) ≡ floor_by g z -ℤ pos 1
  floor_less (pos n) = by (dec_lt n g)
    where
      by : Dec (n < g) → floor_by g (pos n -ℤ pos g) ≡ pos (n / g) -ℤ pos 1
      by (yes h) =
          let e : pos n -ℤ pos g ≡ negsuc (g - n - 1) = omega (zarith, bal- (pos n) (pos g)) in
          ap (floor_by g) e ∙ ap negsuc (div-eq_of_lt {n = g - n - 1} {m = g} (omega arith)) ∙ ap (λ (k : ℕ). pos k -ℤ pos 1) (sym (div-eq_of_lt h))
      by (no h) =
          let e : pos n -ℤ pos g ≡ pos (n - g) = omega (zarith, bal- (pos n) (pos g)) in
          let k : n - g + g ≡ n = omega arith in
          let q : n / g ≡ (n - g) / g + 1 = ap (λ (x : ℕ). x / g) (sym k) ∙ add-div_right (n - g) some in
          ap (floor_by g) e ∙ omega (zarith, q, bal- (pos (n / g)) (pos 1))
  floor_less (negsuc n) =
      let e : negsuc n -ℤ pos g ≡ negsuc (n + g) = omega (zarith, bal- (negsuc n) (pos g)) in
      let q : (n + g) / g ≡ n / g + 1 = add-div_right n some in
      ap (floor_by g) e ∙ omega (zarith, q, bal- (negsuc (n / g)) (pos 1))

  -- b blocks less
  floor_blocks : (u b : ℕ) → floor_by g (pos u -ℤ pos (b * g)) ≡ pos (u / g) -ℤ pos b
  floor_blocks u zero =
      let e : pos u -ℤ pos (0 * g) ≡ pos u = omega (zarith, bal- (pos u) (pos (0 * g)), zero-mul g) in
      ap (floor_by g) e ∙ omega (zarith, bal- (pos (u / g)) (pos 0))
    where
      zero-mul : (n : ℕ) → 0 * n ≡ 0
      zero-mul n = omega arith
  floor_blocks u (suc b) =
      let e : pos u -ℤ pos (suc b * g) ≡ (pos u -ℤ pos (b * g)) -ℤ pos g = omega (zarith, suc-mul b g, bal- (pos u) (pos (suc b * g)), bal- (pos u) (pos (b * g)), bal- (pos u -ℤ pos (b * g)) (pos g)) in
      ap (floor_by g) e ∙ floor_less (pos u -ℤ pos (b * g)) ∙ ap (λ (z : ℤ). z -ℤ pos 1) (floor_blocks u b)
      ∙ omega (zarith, bal- (pos (u / g)) (pos b), bal- (pos (u / g)) (pos (suc b)), bal- (pos (u / g) -ℤ pos b) (pos 1))

  -- a coordinate z - m that is t - b * g begins t % g after a block
  pub aligned : (z : ℤ) (t b : ℕ) → z ≡ pos t -ℤ pos (b * g) → Aligned g z (t % g) (pos (t / g) -ℤ pos b)
  aligned z t b e n =
      let s : z +ℤ pos n ≡ pos (t + n) -ℤ pos (b * g) = omega (zarith, e, bal+ z (pos n), bal- (pos t) (pos (b * g)), bal- (pos (t + n)) (pos (b * g))) in
      let k : t + n ≡ t / g * g + (n + t % g) = omega (arith, div-add-mod' t g) in
      let q : (t + n) / g ≡ t / g + (n + t % g) / g = ap (λ (x : ℕ). x / g) k ∙ mul-add-div_right some (t / g) (n + t % g) in
      ap (floor_by g) s ∙ floor_blocks (t + n) b
      ∙ omega (zarith, q, bal- (pos ((t + n) / g)) (pos b), bal- (pos (t / g)) (pos b), bal+ (pos (t / g) -ℤ pos b) (pos ((n + t % g) / g)))

  -- quotients of a sum that is less than s blocks
  pub quotients_below : (a b s : ℕ) → a + b < s * g → a / g + b / g < s
  quotients_below a b s h =
      let k : (a / g * g + b) / g < s = (div-lt_iff_lt-mul {k = g} {x = a / g * g + b} {y = s} some).1 (omega (arith, div-mul-le_self a g)) in
      omega (arith, k, mul-add-div_right some (a / g) b)

  -- and of one that is one block short of nothing: the block before z counted from west, and z counted from east
  pub quotients_whole : (z s : ℕ) → 0 < z → z ≤ s * g → (z - 1) / g + 1 + (s * g - z) / g ≡ s
  quotients_whole z s p h =
      let k : ℕ = (z - 1) / g in
      let j : ℕ = (z - 1) % g in
      let e : k * g + j ≡ z - 1 = div-add-mod' (z - 1) g in
      let l : j < g = mod-lt (z - 1) some in
      let b : k < s = (div-lt_iff_lt-mul {k = g} {x = z - 1} {y = s} some).1 (omega arith) in
      let d : s ≡ suc k + (s - suc k) = omega arith in
      let m : s * g ≡ suc k * g + (s - suc k) * g = ap (λ (n : ℕ). n * g) d ∙ add-mul (suc k) (s - suc k) g in
      let r : s * g - z ≡ (s - suc k) * g + (g - 1 - j) = omega (arith, e, l, m, suc-mul k g) in
      let q : (s * g - z) / g ≡ s - suc k = ap (λ (n : ℕ). n / g) r ∙ digits_div (s - suc k) {m = g} {r = g - 1 - j} (omega arith) in
      omega (arith, q, b)

  pub quotient_le : (a b : ℕ) → a ≤ b → a / g ≤ b / g
  quotient_le a b h = let k = quotients_below a 0 (suc (b / g)) (omega (arith, div-add-mod' b g, mod-lt b some, suc-mul (b / g) g)) in omega (arith, k)

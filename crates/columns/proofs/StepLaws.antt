-- Where a step leads, by its digit: a test counts 1 if it holds.
-- Assumes nothing.
use Rattle.std.proofs.Common.{◌≡◌, ℕ, zero, suc, ◌+◌, ◌-◌, ◌%◌, ◌^◌, ◌<◌, ◌≤◌, eqb, ltb, get_or, ap, arith, lt-ltb, ne_eqb}
use mir.Val.{bool_byte}
use Rattle.column_laws.specs.Columns.{col_after, row_after, top}
use Rattle.columns.specs.Steps.{east_steps, north_steps}

-- the test for another digit counts nothing
other : (d e : ℕ) → (d ≡ e → ⊥) → bool_byte (eqb d e) ≡ 0
other d e h = ap bool_byte (ne_eqb d e h)

pub column-by : (x d : ℕ) → 0 < x → (x + bool_byte (eqb d 0)) - bool_byte (eqb d 2) ≡ col_after x d
unfolding col_after
column-by x zero h = omega arith
column-by x (suc zero) h = omega arith
column-by x (suc (suc zero)) h = omega arith
column-by x (suc (suc (suc d))) h = omega (arith, other (suc (suc (suc d))) 0 (λ e. omega arith), other (suc (suc (suc d))) 2 (λ e. omega arith))

pub row_by : (y d : ℕ) → 0 < y → (y + bool_byte (eqb d 1)) - bool_byte (ltb 2 d) ≡ row_after y d
unfolding row_after
row_by y zero h = omega arith
row_by y (suc zero) h = omega arith
row_by y (suc (suc zero)) h = omega arith
row_by y (suc (suc (suc d))) h = omega (arith, other (suc (suc (suc d))) 1 (λ e. omega arith), ap bool_byte (lt-ltb 2 (suc (suc (suc d))) (omega arith)))

-- the same by the tables: what they add comes to one less if a step goes back
pub across_by : (x d : ℕ) → d < 4 → 0 < x → x ≤ top → (x + get_or east_steps d 0) % 2 ^ 32 ≡ col_after x d
unfolding col_after
across_by x zero h p q = omega arith
across_by x (suc zero) h p q = omega arith
across_by x (suc (suc zero)) h p q = omega arith
across_by x (suc (suc (suc zero))) h p q = omega arith
across_by x (suc (suc (suc (suc d)))) h p q = let z : ⊥ = omega arith in absurd z

pub upward_by : (y d : ℕ) → d < 4 → 0 < y → y ≤ top → (y + get_or north_steps d 0) % 2 ^ 16 ≡ row_after y d
unfolding row_after
upward_by y zero h p q = omega arith
upward_by y (suc zero) h p q = omega arith
upward_by y (suc (suc zero)) h p q = omega arith
upward_by y (suc (suc (suc zero))) h p q = omega arith
upward_by y (suc (suc (suc (suc d)))) h p q = let z : ⊥ = omega arith in absurd z

-- The numbers of spans, three each, in a buffer.
-- Assumes nothing.
use mathlib.Core.List.{List, [], ◌∷◌, ◌++◌}
use mathlib.Core.Path.{◌≡◌, refl, ap, ◌∙◌}
use Prim.Native.Nat.{ℕ, ◌+◌, ◌*◌, ◌≤◌}
use native.Mathlib.Omega.{arith}
use lib.IntN.{ℤ}
use lib.ListN.{length, drop}
use lib.Seq.{sets, sets-eq}
use Rattle.row.specs.Rows.{Span, span_numbers}

pub length-numbers : (L : List Span) → length (span_numbers L) ≡ 3 * length L
length-numbers [] = refl
length-numbers (s ∷ L) = omega (arith, length-numbers L)

-- what the numbers of a list leave of what stood there before
pub written : (before : List ℤ) (L : List Span) → 3 * length L ≤ length before → sets before 0 (span_numbers L) ≡ span_numbers L ++ drop (length (span_numbers L)) before
written before L h = sets-eq (span_numbers L) before 0 (omega (arith, length-numbers L)) ∙ ap (λ (k : ℕ). span_numbers L ++ drop k before) all
  where
    all : 0 + length (span_numbers L) ≡ length (span_numbers L)
    all = omega arith

-- three numbers for each span
pub numbers_thrice : (before : List ℤ) (L : List Span) → span_numbers L ++ drop (length (span_numbers L)) before ≡ span_numbers L ++ drop (3 * length L) before
numbers_thrice before L = ap (λ (k : ℕ). span_numbers L ++ drop k before) (length-numbers L)

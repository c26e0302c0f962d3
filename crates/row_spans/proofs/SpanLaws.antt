-- Three numbers for each span, and where a row begins.
-- Assumes nothing.
use mathlib.Core.Path.{◌≡◌, sym, ap, ap₂, ◌∙◌, subst}
use mathlib.Core.List.{List, [], ◌∷◌}
use Prim.Native.Nat.{ℕ, suc, ◌+◌, ◌<◌, ◌≤◌}
use native.Mathlib.Omega.{arith}
use lib.ListN.{set}
use lib.IntN.{ℤ, pos, nat_abs, ◌+ℤ◌, ◌-ℤ◌}
use Rattle.int_laws.proofs.LinearLaws.{zarith, bal+}
use Rattle.int_laws.proofs.RangeLaws.{abs+, abs-}
use Rattle.grid.specs.declared.Corner.{Corner}
use Rattle.grid.specs.Grid.{corner}
use Rattle.answer.specs.Limits.{most_start}
use lib.Seq.{sets}

-- three numbers in a row
pub three-put : (l : List ℤ) (o : ℕ) (y' a' b' y a b : ℤ) → y' ≡ y → a' ≡ a → b' ≡ b → set (set (set l o y') (o + 1) a') (o + 2) b' ≡ sets l o (y ∷ a ∷ b ∷ [])
three-put l o y' a' b' y a b e f g =
    ap₂ (λ (i j : ℕ). set (set (set l o y') i a') j b') one two
    ∙ ap₂ (λ (u v : ℤ). set (set (set l o u) (suc o) v) (suc (suc o)) b') e f
    ∙ ap (λ (u : ℤ). set (set (set l o y) (suc o) a) (suc (suc o)) u) g
  where
    one : o + 1 ≡ suc o
    one = omega arith

    two : o + 2 ≡ suc (suc o)
    two = omega arith

-- where a row begins
pub base_is : (c b : Corner) (m h : ℕ) → b ≡ corner ((c.0 -ℤ pos m) +ℤ pos 0) ((c.1 -ℤ pos m) +ℤ pos h) → b ≡ corner (c.0 -ℤ pos m) ((c.1 -ℤ pos m) +ℤ pos h)
base_is c b m h e = e ∙ ap (λ (z : ℤ). corner z ((c.1 -ℤ pos m) +ℤ pos h)) none
  where
    none : (c.0 -ℤ pos m) +ℤ pos 0 ≡ c.0 -ℤ pos m
    none = omega (zarith, bal+ (c.0 -ℤ pos m) (pos 0))

pub base_fits : (c b : Corner) (m : ℕ) {y : ℤ} → nat_abs c.0 ≤ most_start → m < 65536 → b ≡ corner ((c.0 -ℤ pos m) +ℤ pos 0) y → nat_abs b.0 ≤ most_start + 65535
base_fits c b m l g e = subst (λ (z : Corner). nat_abs z.0 ≤ most_start + 65535) (sym e) (omega (arith, abs+ (c.0 -ℤ pos m) (pos 0), abs- c.0 (pos m)))

-- The sums of the columns show the sign of the area.
-- Assumes nothing.
use mathlib.Core.List.{List, [], ◌∷◌}
use mathlib.Core.Path.{◌≡◌, refl, sym, ap, ap₂, ◌∙◌}
use Prim.Native.Nat.{ℕ, zero, suc, ◌+◌, ◌≤◌, ◌<◌}
use native.Mathlib.Decide.{dec_lt}
use native.Mathlib.Numerals.{add-one}
use native.Mathlib.Omega.{arith}
use borrow.Author.Tests.{lt-ltb, le-ltb}
use lib.Dec.{ltb}
use lib.IntN.{ℤ, pos, negsuc, ◌+ℤ◌, ◌-ℤ◌, ◌*ℤ◌}
use lib.ListN.{length}
use lib.Signed.{lt_z}
use Rattle.int_laws.proofs.LinearLaws.{zarith, bal-}
use Rattle.int_laws.proofs.NextLaws.{suc_sub, pred_sub, true_lt, false_lt}
use Rattle.int_laws.proofs.RingLaws.{ring, v, k, ◌⊕◌, ◌⊖◌, ◌⊗◌}
use Rattle.grid.specs.Grid.{corner, stepped}
use Rattle.trace.specs.Verdict.{sweep_from}
use Rattle.column_laws.specs.Columns.{middle, col_after}
use Rattle.area_laws.proofs.ImageLaws.{sweep_moved}
use Rattle.convex_laws.specs.Way.{north_in, south_in, column_sum, Leftward}

-- a step from column x leads to the column after it
column-next : (d x : ℕ) (y : ℤ) → 0 < x → (stepped d (corner (pos x) y)).0 ≡ pos (col_after x d)
unfolding col_after
column-next zero x y h = ap pos (sym (add-one x))
column-next (suc zero) x y h = refl
column-next (suc (suc zero)) (suc x) y h = ap pos (omega arith)
column-next (suc (suc zero)) zero y h = absurd (omega arith)
column-next (suc (suc (suc d))) x y h = refl

-- the share of a step
share : (d x : ℕ) (y : ℤ) → pos x *ℤ ((stepped d (corner (pos x) y)).1 -ℤ y) ≡ pos (north_in x d) -ℤ pos (south_in x d)
share zero x y = ring 2 (pos x ∷ y ∷ []) (v 0 ⊗ (v 1 ⊖ v 1)) (k (pos 0) ⊖ k (pos 0)) tt
share (suc zero) x y = ap (λ (z : ℤ). pos x *ℤ z) (suc_sub y) ∙ ring 1 (pos x ∷ []) (v 0 ⊗ k (pos 1)) (v 0 ⊖ k (pos 0)) tt
share (suc (suc zero)) x y = ring 2 (pos x ∷ y ∷ []) (v 0 ⊗ (v 1 ⊖ v 1)) (k (pos 0) ⊖ k (pos 0)) tt
share (suc (suc (suc d))) x y = ap (λ (z : ℤ). pos x *ℤ z) (pred_sub y) ∙ ring 1 (pos x ∷ []) (v 0 ⊗ k (negsuc 0)) (k (pos 0) ⊖ v 0) tt

after_le : (x d n : ℕ) → suc n ≤ x → n ≤ col_after x d
unfolding col_after
after_le x zero n h = omega arith
after_le x (suc zero) n h = omega arith
after_le x (suc (suc zero)) n h = omega arith
after_le x (suc (suc (suc d))) n h = omega arith

sweep_sums : (ds : List ℕ) (x : ℕ) (y : ℤ) → length ds ≤ x → sweep_from (corner (pos x) y) ds ≡ pos (column_sum north_in x ds) -ℤ pos (column_sum south_in x ds)
unfolding column_sum
sweep_sums [] x y h = refl
sweep_sums (d ∷ ds) x y h =
    let e = stepped d (corner (pos x) y) in
    ap₂ ◌+ℤ◌ (share d x y) (ap (λ (z : ℤ). sweep_from (corner z e.1) ds) (column-next d x y (omega arith)) ∙ sweep_sums ds (col_after x d) e.1 (after_le x d (length ds) h))
    ∙ joined (north_in x d) (south_in x d) (column_sum north_in (col_after x d) ds) (column_sum south_in (col_after x d) ds)
  where
    joined : (a b n s : ℕ) → (pos a -ℤ pos b) +ℤ (pos n -ℤ pos s) ≡ pos (a + n) -ℤ pos (b + s)
    joined a b n s = ring 4 (pos a ∷ pos b ∷ pos n ∷ pos s ∷ []) ((v 0 ⊖ v 1) ⊕ (v 2 ⊖ v 3)) ((v 0 ⊕ v 2) ⊖ (v 1 ⊕ v 3)) tt

above_zero : (a b : ℕ) → ltb b a ≡ lt_z (pos 0) (pos a -ℤ pos b)
above_zero a b = go (dec_lt b a)
  where
    go : Dec (b < a) → ltb b a ≡ lt_z (pos 0) (pos a -ℤ pos b)
    go (yes h) = lt-ltb b a h ∙ sym (true_lt (pos 0) (pos a -ℤ pos b) (omega (zarith, bal- (pos a) (pos b))))
    go (no h) = le-ltb b a (omega arith) ∙ sym (false_lt (pos 0) (pos a -ℤ pos b) (omega (zarith, bal- (pos a) (pos b))))

-- so the greater sum shows the way
pub sums_way : (ds : List ℕ) → length ds ≤ middle → Leftward ds (ltb (column_sum south_in middle ds) (column_sum north_in middle ds))
sums_way ds h c e =
    above_zero (column_sum north_in middle ds) (column_sum south_in middle ds)
    ∙ ap (λ (z : ℤ). lt_z (pos 0) z) (sym (sweep_sums ds middle (pos 0) h) ∙ sweep_moved c (corner (pos middle) (pos 0)) ds e)

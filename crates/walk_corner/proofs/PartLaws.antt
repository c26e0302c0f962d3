-- When the parents of two adjacent corners differ, neither is the root.
-- Assumes nothing.
use mathlib.Core.Bool.{Bool, true, false, not, ◌&&◌}
use mathlib.Core.Path.{◌≡◌, refl, ap, ap₂, sym, ◌∙◌}
use Prim.Native.Nat.{ℕ, zero, suc}
use Rattle.grid.specs.declared.Corner.{Corner}
use Rattle.grid.specs.Grid.{same, stepped, back}
use Rattle.grid.specs.Tree.{root, is_root, parent_of}
use Rattle.grid.proofs.CornerLaws.{same_sound, same_refl}
use Rattle.grid.proofs.StepLaws.{stepped-back}
use Rattle.walk_corner.specs.Moves.{parted_by}

-- the root and each neighbour of it have the same parent
beside-root : (d : ℕ) → parent_of (stepped d root) ≡ root
beside-root zero = refl
beside-root (suc zero) = refl
beside-root (suc (suc zero)) = refl
beside-root (suc (suc (suc d))) = refl

one_parent : (a b : Corner) → parent_of a ≡ root → parent_of b ≡ root → same (parent_of a) (parent_of b) ≡ true
one_parent a b p q = ap₂ same p q ∙ same_refl root

from-root : (d : ℕ) (c : Corner) → is_root c ≡ true → same (parent_of c) (parent_of (stepped d c)) ≡ true
from-root d c h = let e = same_sound c root h in one_parent c (stepped d c) (ap parent_of e) (ap (λ (x : Corner). parent_of (stepped d x)) e ∙ beside-root d)

to-root : (d : ℕ) (c : Corner) → is_root (stepped d c) ≡ true → same (parent_of c) (parent_of (stepped d c)) ≡ true
to-root d c h =
    let e = same_sound (stepped d c) root h in
    one_parent c (stepped d c) (ap parent_of (sym (stepped-back d c) ∙ ap (stepped (back d)) e) ∙ beside-root (back d)) (ap parent_of e)

either : (x y k : Bool) → (x ≡ true → k ≡ true) → (y ≡ true → k ≡ true) → not k ≡ not x && (not y && not k)
either true y k f g = ap not (f refl)
either false true k f g = ap not (g refl)
either false false k f g = refl

-- the parents alone show it
pub parents_tell : (d : ℕ) (c : Corner) → not (same (parent_of c) (parent_of (stepped d c))) ≡ parted_by d c
parents_tell d c = either (is_root (stepped d c)) (is_root c) (same (parent_of c) (parent_of (stepped d c))) (to-root d c) (from-root d c)

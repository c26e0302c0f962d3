-- A pair that joins two corners, in either order.
-- Assumes nothing.
use mathlib.Core.Bool.{Bool, true, false, ◌&&◌, ◌||◌}
use mathlib.Core.Logic.{◌⊎◌, ⊎_map}
use mathlib.Core.Path.{◌≡◌, refl, ap, ap₂, sym, ◌∙◌}
use Prim.Native.Nat.{ℕ, ◌<◌}
use Rattle.grid.specs.declared.Corner.{Corner}
use Rattle.grid.specs.Grid.{same, stepped, joins, back}
use Rattle.grid.proofs.CornerLaws.{same_refl, same_sound}
use Rattle.grid.proofs.StepLaws.{back_small, stepped_inj, stepped-back}
use Rattle.lists.proofs.GatherLaws.{and_left, and_right, or_cases}

-- a pair is x and y: the two ways round
pub joins_cases : (x y a e : Corner) → joins x y (a, e) ≡ true → ((a ≡ x) × (e ≡ y)) ⊎ ((a ≡ y) × (e ≡ x))
joins_cases x y a e h =
    ⊎_map
    (λ k. (same_sound a x (and_left (same a x) (same e y) k), same_sound e y (and_right (same a x) (same e y) k)))
    (λ k. (same_sound a y (and_left (same a y) (same e x) k), same_sound e x (and_right (same a y) (same e x) k)))
    (or_cases (same a x && same e y) (same a y && same e x) h)

pub joins_pair : (x y : Corner) (l : Corner × Corner) → joins x y l ≡ true → (l ≡ (x, y)) ⊎ (l ≡ (y, x))
joins_pair x y l h = ⊎_map (λ k. ap₂ (λ (a b : Corner). (a, b)) k.0 k.1) (λ k. ap₂ (λ (a b : Corner). (a, b)) k.0 k.1) (joins_cases x y l.0 l.1 h)

pub joins_here : (a e : Corner) → joins a e (a, e) ≡ true
joins_here a e = rw (same_refl a, same_refl e)

or_comm : (a b : Bool) → (a || b) ≡ (b || a)
or_comm true true = refl
or_comm true false = refl
or_comm false true = refl
or_comm false false = refl

pub joins_flip : (x y : Corner) (l : Corner × Corner) → joins x y l ≡ joins y x l
joins_flip x y l = or_comm (same l.0 x && same l.1 y) (same l.0 y && same l.1 x)

pub joins-there : (a e : Corner) → joins e a (a, e) ≡ true
joins-there a e = joins_flip e a (a, e) ∙ joins_here a e

-- which words a link is in: that of a in direction d, and that of its neighbour in the direction back
pub joins-stepped : (k d : ℕ) (x a : Corner) → k < 4 → d < 4 → joins x (stepped k x) (a, stepped d a) ≡ true
    → ((x ≡ a) × (k ≡ d)) ⊎ ((x ≡ stepped d a) × (k ≡ back d))
joins-stepped k d x a h i e =
    ⊎_map
    (λ p. (sym p.0, stepped_inj k d x h i (sym p.1 ∙ ap (stepped d) p.0)))
    (λ p. (sym p.1, stepped_inj k (back d) x h (back_small d) (sym p.0 ∙ sym (stepped-back d a) ∙ ap (stepped (back d)) p.1)))
    (joins_cases x (stepped k x) a (stepped d a) e)

-- Links: one step more, and that a link joins neighbours.
-- Assumes nothing.
use mathlib.Core.Bool.{Bool, true, false, ◌&&◌, ◌||◌, false≢true}
use mathlib.Core.List.{List, [], ◌∷◌}
use mathlib.Core.Logic.{◌⊎◌, inl, inr, ⊎_map, ⊎_elim}
use mathlib.Core.Path.{◌≡◌, refl, ap, sym, ◌∙◌, subst₂}
use Prim.Native.Nat.{ℕ, zero, suc}
use Rattle.grid.specs.declared.Corner.{Corner}
use Rattle.grid.specs.Grid.{same, stepped, joins}
use Rattle.grid.specs.Tree.{parent_of, is_root, size_of, ancestors_by}
use Rattle.lists.specs.Lists.{any, zip}
use Rattle.grid.proofs.CornerLaws.{same_sound}
use Rattle.grid.proofs.ParentLaws.{parent_of-stepped}
use Rattle.lists.proofs.GatherLaws.{and_left, and_right, or_cases}
use Rattle.tree.specs.Nodes.{links}

-- q is p, or its neighbour in direction d
abbrev pub Near : ℕ → Corner → Corner → Type 0
Near d p q = (q ≡ p) ⊎ (q ≡ stepped d p)

pub near_parent : (d : ℕ) (p q : Corner) → Near d p q → Near d (parent_of p) (parent_of q)
near_parent d p q (inl e) = inl (ap parent_of e)
near_parent d p q (inr e) = ⊎_map (λ h. ap parent_of e ∙ h) (λ h. ap parent_of e ∙ h) (parent_of-stepped d p)

-- a pair that is a and b, in either order, at one level
joined : (d : ℕ) (p q a b : Corner) → Near d p q → joins a b (p, q) ≡ true → Near d a b ⊎ Near d b a
joined d p q a b n e =
    ⊎_map
    (λ h. subst₂ (λ x y. Near d x y) (same_sound p a (and_left (same p a) (same q b) h)) (same_sound q b (and_right (same p a) (same q b) h)) n)
    (λ h. subst₂ (λ x y. Near d x y) (same_sound p b (and_left (same p b) (same q a) h)) (same_sound q a (and_right (same p b) (same q a) h)) n)
    (or_cases (same p a && same q b) (same p b && same q a) e)

pub zip_nil : (l : List Corner) → zip {B = Corner} l [] ≡ []
zip_nil [] = refl
zip_nil (x ∷ l) = refl

-- at each level that a step's ends share, they are equal, or neighbours in the step's direction
near-above : (f g d : ℕ) (p q a b : Corner) → Near d p q → any (joins a b) (zip (ancestors_by f p) (ancestors_by g q)) ≡ true → Near d a b ⊎ Near d b a
near-above zero g d p q a b n e = absurd (false≢true e)
near-above (suc f) zero d p q a b n e = absurd (false≢true (sym (ap (any (joins a b)) (zip_nil (ancestors_by (suc f) p))) ∙ e))
near-above (suc f) (suc g) d p q a b n e = go (is_root p) refl (is_root q) refl (λ h. near-above f g d (parent_of p) (parent_of q) a b (near_parent d p q n) h)
  where
    go : (u : Bool) → is_root p ≡ u → (v : Bool) → is_root q ≡ v → (any (joins a b) (zip (ancestors_by f (parent_of p)) (ancestors_by g (parent_of q))) ≡ true → Near d a b ⊎ Near d b a) → Near d a b ⊎ Near d b a
    go true x v y ih = absurd (false≢true (rw (x, ancestors_by) at e))
    go false x true y ih = absurd (false≢true (rw (x, y, ancestors_by) at e))
    go false x false y ih =
        let k : (joins a b (parent_of p, parent_of q) || any (joins a b) (zip (ancestors_by f (parent_of p)) (ancestors_by g (parent_of q)))) ≡ true = rw (x, y, ancestors_by) at e in
        ⊎_elim (joined d (parent_of p) (parent_of q) a b (near_parent d p q n)) ih (or_cases (joins a b (parent_of p, parent_of q)) (any (joins a b) (zip (ancestors_by f (parent_of p)) (ancestors_by g (parent_of q)))) k)

-- what a step links are neighbours in its direction
pub link_near : (d : ℕ) (p a b : Corner) → links a b (p, stepped d p) ≡ true → Near d a b ⊎ Near d b a
link_near d p a b e =
    ⊎_elim
    (joined d p (stepped d p) a b (inr refl))
    (near-above (size_of p) (size_of (stepped d p)) d p (stepped d p) a b (inr refl))
    (or_cases (joins a b (p, stepped d p)) (any (joins a b) (zip (ancestors_by (size_of p) p) (ancestors_by (size_of (stepped d p)) (stepped d p)))) e)

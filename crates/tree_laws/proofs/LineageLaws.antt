-- A node and its ancestors, level by level.
-- Assumes nothing.
use mathlib.Core.Bool.{Bool, true, false, ◌||◌}
use mathlib.Core.List.Memᴰ
use mathlib.Core.List.{List, [], ◌∷◌, Memᴰ}
use mathlib.Core.Logic.{◌⊎◌, ⊎_map, ⊎_elim}
use mathlib.Core.Path.{◌≡◌, refl, ap, ap₂, sym, ◌∙◌}
use Prim.Native.Nat.{◌+◌, ◌≤◌}
use native.Mathlib.Omega.{arith}
use Rattle.grid.specs.declared.Corner.{Corner}
use Rattle.grid.specs.Grid.{joins}
use Rattle.grid.specs.Tree.{parent_of, is_root, size_of, ancestors_by, lineage_of, path_of}
use Rattle.lists.specs.Lists.{any, zip}
use Rattle.tree.specs.Nodes.{links}
use Rattle.grid.proofs.AncestorLaws.{lineage_of-root, lineage_of_cons, mem_path}
use Rattle.grid.proofs.PathLaws.{size_of-parent_of, path_of_snoc, tree_ind}
use Rattle.lists.proofs.FindLaws.{bool_agree}
use Rattle.lists.proofs.GatherLaws.{or_cases, or_right}
use Rattle.grid.proofs.JoinLaws.{joins_cases, joins_here, joins-there}
use Rattle.tree.proofs.LinkLaws.{zip_nil}
use Rattle.tree.proofs.LinkStepLaws.{links-over}

or_nothing : (b : Bool) → (b || false) ≡ b
or_nothing true = refl
or_nothing false = refl

-- two nodes, both up until one is the root
pub pair_ind : (P : Corner → Corner → Type 0) → ((a e : Corner) → is_root a ≡ true → P a e) → ((a e : Corner) → is_root e ≡ true → P a e)
    → ((a e : Corner) → is_root a ≡ false → is_root e ≡ false → P (parent_of a) (parent_of e) → P a e) → (a e : Corner) → P a e
pair_ind P l r s = tree_ind (λ a. (e : Corner) → P a e) (λ a h e. l a e h) (λ a h ih e. go a h ih e (is_root e) refl)
  where
    go : (a : Corner) → is_root a ≡ false → ((e : Corner) → P (parent_of a) e) → (e : Corner) (b : Bool) → is_root e ≡ b → P a e
    go a h ih e true k = r a e k
    go a h ih e false k = s a e h k (ih (parent_of e))

-- the levels of a leg, one by one
pub links-left : (x y a e : Corner) → is_root a ≡ true → links x y (a, e) ≡ joins x y (a, e)
links-left x y a e h = ap (λ (l : List Corner). any (joins x y) (zip l (lineage_of e))) (lineage_of-root a h) ∙ or_nothing (joins x y (a, e))

pub links-right : (x y a e : Corner) → is_root e ≡ true → links x y (a, e) ≡ joins x y (a, e)
links-right x y a e h = ap (λ (l : List Corner). any (joins x y) (zip (lineage_of a) l)) (lineage_of-root e h) ∙ ap (λ (l : List (Corner × Corner)). joins x y (a, e) || any (joins x y) l) (zip_nil (ancestors_by (size_of a) a)) ∙ or_nothing (joins x y (a, e))

pub links_step : (x y a e : Corner) → is_root a ≡ false → is_root e ≡ false → links x y (a, e) ≡ (joins x y (a, e) || links x y (parent_of a, parent_of e))
links_step x y a e h k = ap₂ (λ (l m : List Corner). any (joins x y) (zip l m)) (lineage_of_cons a h) (lineage_of_cons e k)

pub links_here : (a e : Corner) → links a e (a, e) ≡ true
links_here a e = rw (joins_here a e)

pub links-there : (a e : Corner) → links e a (a, e) ≡ true
links-there a e = rw (joins-there a e)

-- a law of every pair of a leg's levels
links_ind : (P : Corner → Corner → Type 0) (x y : Corner)
    → ((a e : Corner) → joins x y (a, e) ≡ true → P a e) → ((a e : Corner) → is_root a ≡ false → is_root e ≡ false → P (parent_of a) (parent_of e) → P a e)
    → (a e : Corner) → links x y (a, e) ≡ true → P a e
links_ind P x y here up =
    pair_ind (λ a e. links x y (a, e) ≡ true → P a e)
    (λ a e h k. here a e (sym (links-left x y a e h) ∙ k))
    (λ a e h k. here a e (sym (links-right x y a e h) ∙ k))
    (λ a e h i ih k. ⊎_elim (here a e) (λ m. up a e h i (ih m)) (or_cases (joins x y (a, e)) (links x y (parent_of a, parent_of e)) (sym (links_step x y a e h i) ∙ k)))

pub links_flip : (x y a e : Corner) → links x y (a, e) ≡ links y x (a, e)
links_flip x y a e = bool_agree (links x y (a, e)) (links y x (a, e)) (links-over x y a e) (links-over y x a e)

-- what links two nodes links their parents
pub links-up : (x y a e : Corner) → is_root x ≡ false → is_root y ≡ false → links x y (a, e) ≡ true → links (parent_of x) (parent_of y) (a, e) ≡ true
links-up x y a e h k =
    links_ind (λ a e. links (parent_of x) (parent_of y) (a, e) ≡ true) x y
    (λ a e j.
    ⊎_elim
    (λ p. links_step (parent_of x) (parent_of y) a e (ap is_root p.0 ∙ h) (ap is_root p.1 ∙ k) ∙ or_right (joins (parent_of x) (parent_of y) (a, e)) (rw (p.0, p.1) (links_here (parent_of x) (parent_of y))))
    (λ p. links_step (parent_of x) (parent_of y) a e (ap is_root p.0 ∙ k) (ap is_root p.1 ∙ h) ∙ or_right (joins (parent_of x) (parent_of y) (a, e)) (rw (p.0, p.1) (links-there (parent_of y) (parent_of x))))
    (joins_cases x y a e j))
    (λ a e i j m. links_step (parent_of x) (parent_of y) a e i j ∙ or_right (joins (parent_of x) (parent_of y) (a, e)) m)
    a e

-- levels at which the two ends are one node link nothing
pub links-same : (x y p : Corner) → (x ≡ y → ⊥) → links x y (p, p) ≡ false
links-same x y p f = go (links x y (p, p)) refl
  where
    go : (b : Bool) → links x y (p, p) ≡ b → links x y (p, p) ≡ false
    go true e = absurd (links_ind (λ a b. a ≡ b → ⊥) x y (λ a b h g. ⊎_elim (λ q. f (sym q.0 ∙ g ∙ q.1)) (λ q. f (sym q.1 ∙ sym g ∙ q.0)) (joins_cases x y a b h)) (λ a b h i k g. k (ap parent_of g)) p p e refl)
    go false e = e

-- the two nodes are not farther out than the ends
pub links_size : (x y a e : Corner) → links x y (a, e) ≡ true → size_of x + size_of y ≤ size_of a + size_of e
links_size x y =
    links_ind (λ a e. size_of x + size_of y ≤ size_of a + size_of e) x y
    (λ a e h. ⊎_elim (λ p. omega (arith, ap size_of p.0, ap size_of p.1)) (λ p. omega (arith, ap size_of p.0, ap size_of p.1)) (joins_cases x y a e h))
    (λ a e h i k. omega (arith, size_of-parent_of a h, size_of-parent_of e i))

pub path_up : (c x : Corner) → is_root c ≡ false → Memᴰ x (path_of (parent_of c)) → Memᴰ x (path_of c)
path_up c x e m = rw (path_of_snoc c e) (Memᴰ.append_left (c ∷ []) m)

-- they are on the paths of the ends
pub links-ends : (x y a e : Corner) → links x y (a, e) ≡ true → (Memᴰ x (path_of a) × Memᴰ y (path_of e)) ⊎ (Memᴰ y (path_of a) × Memᴰ x (path_of e))
links-ends x y =
    links_ind (λ a e. (Memᴰ x (path_of a) × Memᴰ y (path_of e)) ⊎ (Memᴰ y (path_of a) × Memᴰ x (path_of e))) x y
    (λ a e h. ⊎_map (λ p. (Memᴰ.cast (sym p.0) (mem_path a), Memᴰ.cast (sym p.1) (mem_path e))) (λ p. (Memᴰ.cast (sym p.0) (mem_path a), Memᴰ.cast (sym p.1) (mem_path e))) (joins_cases x y a e h))
    (λ a e h i k. ⊎_map (λ p. (path_up a x h p.0, path_up e y i p.1)) (λ p. (path_up a y h p.0, path_up e x i p.1)) k)

-- The tree over the corners: parent, ancestors, child index (RULES 3.1, 3.2). Assumes nothing.
use Rattle.std.specs.Prelude.{◌≡◌, Bool, true, false, List, [], ◌∷◌, ◌++◌, ℕ, zero, suc, ◌+◌, ◌*◌, ◌/◌, ◌%◌, ◌^◌, ◌<◌, ℤ, pos, negsuc, neg_ℤ, nat_abs}
use Rattle.grid.specs.{declared.Corner.Corner, Grid.corner, Grid.same}

-- half the magnitude, rounded down, with the sign kept
abbrev pub half_of : ℤ → ℤ
half_of (pos n) = pos (n / 2)
half_of (negsuc n) = neg_ℤ (pos (suc n / 2))

-- the root of the tree
abbrev pub root : Corner
root = corner (pos 0) (pos 0)

-- the corner is the root
abbrev pub is_root : Corner → Bool
is_root c = same c root

-- the parent halves each coordinate; the root has none
abbrev pub parent_of : Corner → Corner
parent_of c = corner (half_of c.0) (half_of c.1)

-- the sum of the magnitudes, which falls from a node to its parent
abbrev pub size_of : Corner → ℕ
size_of c = nat_abs c.0 + nat_abs c.1

-- both coordinates are below 2 ^ n in magnitude: there are at most n parents above
pub record WithinLevels (n : ℕ) (c : Corner) : Type 0 where
  pub x : nat_abs c.0 < 2 ^ n
  pub y : nat_abs c.1 < 2 ^ n

-- a is the i-th parent of c: c itself at level 0, and no node has one past the root
abbrev pub AncestorAt : ℕ → Corner → Corner → Type 0
AncestorAt zero c a = a ≡ c
AncestorAt (suc i) c a = (is_root c ≡ false) × AncestorAt i (parent_of c) a

-- its i-th parent; the root is its own parent
abbrev pub up_by : ℕ → Corner → Corner
up_by zero c = c
up_by (suc i) c = parent_of (up_by i c)

-- the parent of a node, its parent, and so on to the root. The first argument bounds how many there are
abbrev pub ancestors_by : ℕ → Corner → List Corner
ancestors_by zero c = []
ancestors_by (suc f) c = elim (is_root c) [ true ↦ [] | false ↦ parent_of c ∷ ancestors_by f (parent_of c) ]

-- a node and its ancestors: place i of this list is the i-th parent
abbrev pub lineage_of : Corner → List Corner
lineage_of c = c ∷ ancestors_by (size_of c) c

abbrev pub descent_by : ℕ → Corner → List Corner
descent_by zero c = c ∷ []
descent_by (suc f) c = elim (is_root c) [ true ↦ c ∷ [] | false ↦ descent_by f (parent_of c) ++ (c ∷ []) ]

-- the same from the root: the root first, the node last
abbrev pub path_of : Corner → List Corner
path_of c = descent_by (size_of c) c

-- 1 + a child's index on one axis: the index is -1 at -1, otherwise the magnitude modulo 2
abbrev pub slot_of : ℤ → ℕ
slot_of (pos n) = 1 + n % 2
slot_of (negsuc zero) = 0
slot_of (negsuc (suc n)) = 1 + suc (suc n) % 2

-- the word of its parent's record in which a child (i,j) stands: 1 + 3(i+1) + (j+1)
abbrev pub child_word : Corner → ℕ
child_word c = 1 + 3 * slot_of c.0 + slot_of c.1

-- What each word of a node's record says (RULES 4.2). ps are the corners p0 to pn.
-- Assumes nothing.
use Rattle.std.specs.Prelude.{true, false, ◌⊎◌, ◌↔◌, ◌≡◌, ℕ, suc, ◌+◌, ◌<◌, ◌≤◌, pred, length, get_or}
use mathlib.Core.List.{List, Memᴰ}
use Rattle.lists.specs.Lists.{count}
use Rattle.grid.specs.declared.Corner.{Corner}
use Rattle.grid.specs.Grid.{origin, same, stepped, legs_of, joins}
use Rattle.grid.specs.Tree.{parent_of, is_root, child_word, AncestorAt}
use Rattle.tree.specs.Nodes.{nodes_of, InUse, LinkedBy}
use Rattle.demands.specs.Given.{FirstAt}

-- n is the ref of b: its node number plus 1
pub record IsRef (ps : List Corner) (b : Corner) (n : ℕ) : Type 0 where
  pub number : ℕ
  pub plus_one : n ≡ suc number
  pub in_use : number < length (nodes_of ps)
  pub node : get_or (nodes_of ps) number origin ≡ b

-- b is a node in use, and the child of a that stands in word w
pub record IsChild (ps : List Corner) (a : Corner) (w : ℕ) (b : Corner) : Type 0 where
  pub in_use : InUse ps b
  pub below : is_root b ≡ false
  pub parent : parent_of b ≡ a
  pub word : child_word b ≡ w

-- p_k is a, and no corner before it is
abbrev pub FirstIn : List Corner → Corner → ℕ → Type 0
FirstIn ps a k = FirstAt (length ps) (λ h. get_or ps h origin ≡ a → ⊥) (λ h. get_or ps h origin ≡ a) k

-- step k, counted from 1, has the two ends a and b, either way
abbrev pub StepBetween : List Corner → Corner → Corner → ℕ → Type 0
StepBetween ps a b k =
    (0 < k) × (k < length ps)
    × (((get_or ps (pred k) origin ≡ a) × (get_or ps k origin ≡ b))
    ⊎ ((get_or ps (pred k) origin ≡ b) × (get_or ps k origin ≡ a)))

-- the words of the record of node a
pub record RecordSays (ps : List Corner) (a : Corner) (word : ℕ → ℕ) : Type 0 where
  -- 0: ref of the parent, and 0 for the root
  pub root : is_root a ≡ true → word 0 ≡ 0
  pub parent : is_root a ≡ false → IsRef ps (parent_of a) (word 0)
  -- 1 to 9: ref of the child that has this word, 0 if there is none
  pub child : (w : ℕ) (b : Corner) → IsChild ps a w b → IsRef ps b (word w)
  pub childless : (w : ℕ) → 0 < w → w ≤ 9 → ((b : Corner) → IsChild ps a w b → ⊥) → word w ≡ 0
  -- 10 to 13: ref of the neighbour east, north, west, south, 0 if there is no link
  pub neighbour : (d : ℕ) → d < 4 → 0 < word (14 + d) → IsRef ps (stepped d a) (word (10 + d))
  pub alone : (d : ℕ) → d < 4 → word (14 + d) ≡ 0 → word (10 + d) ≡ 0
  -- 14 to 17: that link's step, which is the least that makes it, 0 if none does
  pub linked : (d : ℕ) → d < 4 → 0 < word (14 + d) → LinkedBy ps a (stepped d a) (word (14 + d))
  pub least : (d k : ℕ) → d < 4 → LinkedBy ps a (stepped d a) k → (0 < word (14 + d)) × (word (14 + d) ≤ k)
  -- 18: how many of p0 to pn are here
  pub visits : word 18 ≡ count (same a) ps
  -- 19: the step that first needed the node, 0 for the start and its ancestors
  pub needed : (word 19 < length ps) × ((i : ℕ) × AncestorAt i (get_or ps (word 19) origin) a)
  pub soonest : (k i : ℕ) → k < length ps → AncestorAt i (get_or ps k origin) a → word 19 ≤ k
  pub planted : (i : ℕ) → AncestorAt i (get_or ps 0 origin) a → word 19 ≡ 0
  -- 20: 1 + the least k with p_k here, 0 if unvisited
  pub first : (k : ℕ) → word 20 ≡ suc k ↔ FirstIn ps a k
  pub unvisited : (Memᴰ a ps → ⊥) → word 20 ≡ 0
  -- 21 to 24: how many steps went along the edge east, north, west, south; above 0 exactly when one did
  pub edges : (d : ℕ) → d < 4 → word (21 + d) ≡ count (joins a (stepped d a)) (legs_of ps)
  pub walked : (d : ℕ) → d < 4 → 0 < word (21 + d) ↔ ((k : ℕ) × StepBetween ps a (stepped d a) k)

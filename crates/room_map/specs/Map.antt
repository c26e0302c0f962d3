-- A byte for each corner of the box of a walk: 1 if the walk was there, else 0.
-- Assumes nothing.
use Rattle.std.specs.Prelude.{◌≡◌, ℕ, ◌*◌, ◌<◌, ◌≤◌, Bool, true, false, List, length, ◌≢◌, slice_index}
use Rattle.box_laws.specs.Box.{Boxable, box_width, box_height, place_at, place_steps}

-- the box has w columns, and no more corners than room; its start is at place `from`
pub record BoxFits (chain : List ℕ) (from w size : ℕ) : Type 0 where
  pub steps : Boxable chain
  pub start : from ≡ place_at chain 0
  pub wide : w ≡ box_width chain
  pub few : box_width chain * box_height chain ≤ size

-- a blank map with a byte for each corner of the box, the place of the start, and what each step adds to a place
pub record MapStore (chain : List ℕ) (from : ℕ) (by map : List ℕ) : Type 0 where
  pub fits : BoxFits chain from (box_width chain) (length map)
  pub table : by ≡ place_steps (box_width chain)
  pub blank : (p : ℕ) → slice_index map p ≡ 0

-- whether no two corners of the walk, apart from its last, have one place
pub record Lone (chain : List ℕ) (r : Bool) : Type 0 where
  pub yes : r ≡ true → (j k : ℕ) → j < k → k < length chain → place_at chain j ≢ place_at chain k
  pub no : r ≡ false → (j : ℕ) × (k : ℕ) × (j < k) × (k < length chain) × (place_at chain j ≡ place_at chain k)

-- after i steps the walk is at place `at`; the map has a 1 at each place before, and none of them came twice
pub record Marked (chain : List ℕ) (i at : ℕ) (map : List ℕ) : Type 0 where
  pub here : at ≡ place_at chain i
  pub seen : (p : ℕ) → (slice_index map p ≢ 0) → (j : ℕ) × (j < i) × (place_at chain j ≡ p)
  pub marked : (j : ℕ) → j < i → slice_index map (place_at chain j) ≡ 1
  pub single : (j k : ℕ) → j < k → k < i → place_at chain j ≢ place_at chain k

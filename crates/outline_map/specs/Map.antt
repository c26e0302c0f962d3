-- A map of the corners of a walk: one byte for each corner, with a bit for each way whose edge was walked. Assumes nothing.
use mathlib.Core.List.{Memᴰ}
use Rattle.std.specs.Prelude.{bit_or, slice_set, ◌≡◌, Bool, List, ℕ, ◌+◌, ◌/◌, ◌%◌, ◌^◌, ◌<◌, ◌≤◌, eqb, length, get_or}
use Rattle.grid.specs.{declared.Corner.Corner, Grid.stepped, Grid.corners_from, Grid.Begins}
use Rattle.outline.specs.Outline.{walked, home_of}

-- bit e of a byte is set
abbrev pub way_on : ℕ → ℕ → Bool
way_on m e = eqb (m / 2 ^ e % 2) 1

-- byte b has the bits of x too
abbrev pub with_bits : List ℕ → ℕ → ℕ → List ℕ
with_bits map b x = slice_set map b (bit_or (get_or map b 0) x)

-- each corner of the walk has a place below `size`: more of the one is more of the other, so no two have one place, and a step in
-- direction d adds the word d of `by`
pub record Placed (c : Corner) (chain by : List ℕ) (size : ℕ) (at : Corner → ℕ) : Type 0 where
  pub inside : (p : Corner) → Memᴰ p (corners_from c chain) → at p < size
  pub order : (p q : Corner) → Memᴰ p (corners_from c chain) → Memᴰ q (corners_from c chain) → at p ≤ at q → Begins p q
  pub onto : (p : Corner) (d : ℕ) → d < 4 → Memᴰ p (corners_from c chain) → Memᴰ (stepped d p) (corners_from c chain)
      → (at p + get_or by d 0) % 2 ^ 64 ≡ at (stepped d p)

-- the bytes of these corners show the edges that the walk of ds went
pub record Shown (c : Corner) (chain ds map : List ℕ) (at : Corner → ℕ) : Type 0 where
  pub small : (b : ℕ) → get_or map b 0 < 16
  pub ways : (p : Corner) → Memᴰ p (corners_from c chain) → (e : ℕ) → e < 4 → way_on (get_or map (at p) 0) e ≡ walked c ds p e

-- a blank map for a chain of steps from the place `from`
pub record MapBlank (chain : List ℕ) (from : ℕ) (by map : List ℕ) : Type 0 where
  pub digits : (i : ℕ) → get_or chain i 0 < 4
  pub four : length by ≡ 4
  pub nothing : (b : ℕ) → get_or map b 0 ≡ 0
  pub placed : (c : Corner) → (at : Corner → ℕ) × (from ≡ at c) × Placed c chain by (length map) at

-- the map of a walk, and the place of the lowest of its leftmost corners
pub record Mapped (c : Corner) (chain by map : List ℕ) (home : ℕ) : Type 0 where
  pub at : Corner → ℕ
  pub placed : Placed c chain by (length map) at
  pub shown : Shown c chain chain map at
  pub lowest : home ≡ at (home_of c chain)

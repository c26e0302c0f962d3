-- Blocks of panels, and the orthogonal hull of some blocks (RULES 21.2, 21.3). Assumes nothing.
use Rattle.std.specs.Prelude.{◌≡◌, Bool, true, List, ℕ, suc, ◌/◌, ℤ, pos, negsuc, neg_ℤ, ◌≤ℤ◌}
use Rattle.grid.specs.{declared.Corner.Corner, declared.Panel.Panel, Grid.corner, Grid.panel_at}
use Rattle.panels.specs.Inside.{Inside}

-- divided by g, and rounded down: toward minus infinity
abbrev pub floor_by : ℕ → ℤ → ℤ
floor_by g (pos n) = pos (n / g)
floor_by g (negsuc n) = neg_ℤ (pos (suc (n / g)))

-- the block (a,b), which is a panel of the grid of blocks; and the block of a panel
abbrev pub block : ℤ → ℤ → Panel
block a b = panel_at (corner a b)

abbrev pub block_of : ℕ → Panel → Panel
block_of g p = block (floor_by g p.0) (floor_by g p.1)

-- the block holds a panel that is inside the room
pub record HoldsInside (c : Corner) (ds : List ℕ) (g : ℕ) (b : Panel) : Type 0 where
  pub panel : Panel
  pub inside : Inside c ds panel
  pub block : block_of g panel ≡ b

-- every block of B is in K
abbrev pub Contains : (Panel → Type 0) → (Panel → Type 0) → Type 0
Contains B K = (b : Panel) → B b → K b

-- with any two blocks of one row or of one column, all blocks between them are in K
pub record Unbroken (K : Panel → Type 0) : Type 0 where
  pub row : (a c e b : ℤ) → a ≤ℤ c → c ≤ℤ e → K (block a b) → K (block e b) → K (block c b)
  pub column : (a b d f : ℤ) → b ≤ℤ d → d ≤ℤ f → K (block a b) → K (block a f) → K (block a d)

-- the blocks that pass a test
abbrev pub Passing : (Panel → Bool) → Panel → Type 0
Passing K b = K b ≡ true

-- H is the orthogonal hull of B: the smallest set of blocks that contains B and is unbroken. It is compared with the sets that a
-- test tells
pub record OrthogonalHullIs (B : Panel → Type 0) (H : Panel → Bool) : Type 0 where
  pub contains : Contains B (Passing H)
  pub unbroken : Unbroken (Passing H)
  pub smallest : (K : Panel → Bool) → Contains B (Passing K) → Unbroken (Passing K) → Contains (Passing H) (Passing K)

-- The chain around a single block, the hull of the U of five panels, a plus and a staircase, computed.
-- Assumes nothing.
use mathlib.Core.List.{List, [], ◌∷◌}
use mathlib.Core.Path.{◌≡◌, refl}
use Prim.Native.Nat.{ℕ}
use lib.ListN.{length, get_or}
use Rattle.answer.specs.declared.Verdict.TheVariants.{ClosedMeeting}
use Rattle.grid.specs.Grid.{origin}
use Rattle.trace.specs.Verdict.{verdict_of}
use Rattle.panels.specs.Inside.{panels_inside}
use Rattle.orthogonal_chain_laws.specs.Chain.{blocks_from, chain_from_row, home_row, chain_from_home}

abbrev at : List ℕ → ℕ → ℕ
at xs q = get_or xs q 0

-- one block: east, north, west, south
one_block : chain_from_home (at (0 ∷ [])) (at (1 ∷ [])) 0 ≡ 0 ∷ 1 ∷ 2 ∷ 3 ∷ []
one_block = refl

-- the U of five panels has a hull of two rows of three
u_hull : chain_from_home (at (0 ∷ 0 ∷ [])) (at (3 ∷ 3 ∷ [])) 1 ≡ 0 ∷ 0 ∷ 0 ∷ 1 ∷ 1 ∷ 2 ∷ 2 ∷ 2 ∷ 3 ∷ 3 ∷ []
u_hull = refl

-- a plus begins at the south-west corner of its middle row
plus : chain_from_home (at (1 ∷ 0 ∷ 1 ∷ [])) (at (2 ∷ 3 ∷ 2 ∷ [])) 2 ≡ 0 ∷ 3 ∷ 0 ∷ 1 ∷ 0 ∷ 1 ∷ 2 ∷ 1 ∷ 2 ∷ 3 ∷ 2 ∷ 3 ∷ []
plus = refl

-- from the foot of row 0 it is the same loop
plus-from_foot : chain_from_row (at (1 ∷ 0 ∷ 1 ∷ [])) (at (2 ∷ 3 ∷ 2 ∷ [])) 2 0 ≡ 0 ∷ 1 ∷ 0 ∷ 1 ∷ 2 ∷ 1 ∷ 2 ∷ 3 ∷ 2 ∷ 3 ∷ 0 ∷ 3 ∷ []
plus-from_foot = refl

-- a staircase that climbs to the east, and one that climbs to the west
stairs_east : chain_from_home (at (0 ∷ 1 ∷ 2 ∷ [])) (at (2 ∷ 3 ∷ 4 ∷ [])) 2 ≡ 0 ∷ 0 ∷ 1 ∷ 0 ∷ 1 ∷ 0 ∷ 1 ∷ 2 ∷ 2 ∷ 3 ∷ 2 ∷ 3 ∷ 2 ∷ 3 ∷ []
stairs_east = refl

stairs_west : chain_from_home (at (2 ∷ 1 ∷ 0 ∷ [])) (at (4 ∷ 3 ∷ 2 ∷ [])) 2 ≡ 0 ∷ 3 ∷ 0 ∷ 3 ∷ 0 ∷ 0 ∷ 1 ∷ 2 ∷ 1 ∷ 2 ∷ 1 ∷ 2 ∷ 2 ∷ 3 ∷ []
stairs_west = refl

-- of two rows as far left the lower one
lowest-row : home_row (at (3 ∷ 1 ∷ 2 ∷ 1 ∷ 4 ∷ [])) 4 ≡ 1
lowest-row = refl

-- two rows that touch at a corner only are not a pile: the chain around them meets itself there
touching : verdict_of origin (chain_from_home (at (0 ∷ 1 ∷ [])) (at (1 ∷ 2 ∷ [])) 1) ≡ ClosedMeeting
touching = refl

-- the chain around the staircase has twice its width of 4 and twice its height of 3 as steps, and the staircase has 6 blocks
stairs_length : length (chain_from_home (at (0 ∷ 1 ∷ 2 ∷ [])) (at (2 ∷ 3 ∷ 4 ∷ [])) 2) ≡ 14
stairs_length = refl

stairs_blocks : blocks_from (at (0 ∷ 1 ∷ 2 ∷ [])) (at (2 ∷ 3 ∷ 4 ∷ [])) 0 3 ≡ 6
stairs_blocks = refl

stairs_panels : panels_inside origin (chain_from_home (at (0 ∷ 1 ∷ 2 ∷ [])) (at (2 ∷ 3 ∷ 4 ∷ [])) 2) ≡ 6
stairs_panels = refl

-- What is asked of the orthogonal hull of a room (RULES 21), as theorems about the hull, `OrthogonalHullIs`, its outline,
-- `OutlinesHull`, and the call's promise, `OrthogonalCall`. Each is proved by naming a law.
-- Assumes nothing.
use Rattle.std.specs.Prelude.{Err, Ok}
use mathlib.Core.Bool.{Bool, true}
use mathlib.Core.List.{List, ◌++◌}
use mathlib.Core.Logic.{◌↔◌}
use mathlib.Core.Path.{◌≡◌, ap}
use Prim.Native.Nat.{ℕ, ◌+◌, ◌*◌, ◌<◌, ◌≤◌}
use lib.IntN.{pos, nat_abs, ◌-ℤ◌}
use lib.ListN.{length, drop}
use Rattle.orthogonal.specs.Answers.{Orthogonal}
use Rattle.lists.specs.Lists.{Below}
use Rattle.answer.specs.declared.{Refusal.Refusal}
use Rattle.answer.specs.Limits.{most_steps}
use Rattle.grid.specs.declared.{Corner.Corner, Panel.Panel}
use Rattle.trace.specs.Verdict.{IsRoom, area_of}
use Rattle.panels.specs.Box.{Box}
use Rattle.panels.specs.Inside.{Inside, panels_inside}
use Rattle.outline.specs.Outline.{home_of, OutlineIs}
use Rattle.orthogonal.specs.declared.{Enclosed.Enclosed}
use Rattle.orthogonal.specs.Blocks.{HoldsInside, Contains, Unbroken, Passing, OrthogonalHullIs}
use Rattle.orthogonal.specs.Call.{OutlinesHull, enclosed_of, OrthogonalCall, orthogonal_words}
use Rattle.orthogonal_laws.specs.Connected.{Connected, Quadrants}
use Rattle.orthogonal_laws.specs.BlockBox.{BoundedBy}
use Rattle.orthogonal_laws.proofs.InsideLaws as inside_laws
use Rattle.orthogonal_laws.proofs.BlockLaws as block_laws
use Rattle.orthogonal_laws.proofs.HullLaws as hull_laws
use Rattle.orthogonal_laws.proofs.OutlineLaws as outline_laws
use Rattle.orthogonal_laws.proofs.BoxLaws as box_laws
use Rattle.orthogonal_laws.proofs.NotchLaws as notch_laws
use Rattle.orthogonal_laws.proofs.CallLaws as call_laws
use Rattle.demands.specs.GivenRoom.{GivenRoom}
use Rattle.demands.specs.GivenOrthogonal.{GridSized, GivenOrthogonal}
use Rattle.demands.proofs.OrthogonalCallLaws as given_laws

-- ---- the hull of a set of blocks

-- "there is exactly one": at most one for any set
pub hull_one : {B : Panel → Type 0} {H J : Panel → Bool} → OrthogonalHullIs B H → OrthogonalHullIs B J → (b : Panel) → H b ≡ J b
hull_one = hull_laws.hull_one

-- "the hull of the hull is the hull"
pub hull_again : {B : Panel → Type 0} {H : Panel → Bool} → OrthogonalHullIs B H → OrthogonalHullIs (Passing H) H
hull_again = hull_laws.hull_again

-- "a larger set has a larger hull"
pub hull_larger : {B C : Panel → Type 0} {H J : Panel → Bool} → OrthogonalHullIs B H → OrthogonalHullIs C J → Contains B C
    → Contains (Passing H) (Passing J)
hull_larger = hull_laws.hull_larger

-- ---- a room

module _ (s : Corner) (ds : List ℕ) (r : IsRoom s ds) (b : Below 4 ds) where
  -- "a room's panels are connected"
  pub room_connected : Connected (Inside s ds)
  room_connected = inside_laws.room_connected s ds r b

  module _ (g : ℕ) (some : 0 < g) where
    -- and so are its blocks
    pub blocks_connected : Connected (HoldsInside s ds g)
    blocks_connected = block_laws.blocks_connected g some s ds r b

    -- its blocks have a hull
    pub room_hull : (H : Panel → Bool) × OrthogonalHullIs (HoldsInside s ds g) H
    room_hull = hull_laws.room_hull s ds r b g some

    -- "a block is in the hull exactly when each of its four closed quadrants holds a block of the room"
    pub hull_quadrants : (H : Panel → Bool) → OrthogonalHullIs (HoldsInside s ds g) H → (p : Panel)
        → (H p ≡ true) ↔ Quadrants (HoldsInside s ds g) p
    hull_quadrants = hull_laws.hull_quadrants s ds r b g some

    -- it is contained in every unbroken set that contains the room's blocks, whether there is a test for that set or not
    pub hull_least : (H : Panel → Bool) → OrthogonalHullIs (HoldsInside s ds g) H → (K : Panel → Type 0)
        → Contains (HoldsInside s ds g) K → Unbroken K → Contains (Passing H) K
    hull_least = hull_laws.hull_least s ds r b g some

    -- the hull has an outline
    pub outline_some : (start : Corner) × (steps : List ℕ) × OutlinesHull s ds g start steps
    outline_some = outline_laws.outline_some s ds r b g some

    -- the blocks have a bounding box
    pub blocks_bounded : (k : Box) × BoundedBy (HoldsInside s ds g) k
    blocks_bounded = box_laws.blocks_bounded g some s ds r b

    module _ (start : Corner) (steps : List ℕ) (o : OutlinesHull s ds g start steps) where
      -- "its length is twice the width plus twice the height of the bounding box of the blocks"
      pub hull_length : (k : Box) → BoundedBy (HoldsInside s ds g) k
          → length steps ≡ 2 * nat_abs (k.east -ℤ k.west) + 2 * nat_abs (k.north -ℤ k.south)
      hull_length k m = box_laws.hull_length g some s ds r b k m start steps o

      -- "so it is never longer than the room's own chain"
      pub hull_short : length steps ≤ length ds
      hull_short = box_laws.hull_short g some s ds r b start steps o

  module _ (start : Corner) (steps : List ℕ) (o : OutlinesHull s ds 1 start steps) where
    -- "for g = 1 it contains the room's panels"
    pub hull_around : (p : Panel) → Inside s ds p → Inside start steps p
    hull_around = notch_laws.hull_around s ds r b start steps o

    -- "and it equals the room's own outline exactly when the room has no notch"
    pub hull_own : ((start ≡ home_of s ds) × OutlineIs s ds steps) ↔ Unbroken (Inside s ds)
    hull_own = notch_laws.hull_own s ds r b start steps o

module _ {s : Corner} {ds : List ℕ} {g : ℕ} (start : Corner) (steps : List ℕ) (o : OutlinesHull s ds g start steps) where
  -- "the outline is a room itself"
  pub outline_room_lem : IsRoom start steps
  outline_room_lem = (call_laws.hull_outlines o).room

  -- "its area is the number of blocks"
  pub outline_area : area_of start steps ≡ pos (panels_inside start steps)
  outline_area = call_laws.outline_area start steps o

  -- and there is only one
  pub outlines_hull_one : (start' : Corner) (steps' : List ℕ) → OutlinesHull s ds g start' steps'
      → (start ≡ start') × (steps ≡ steps')
  outlines_hull_one start' steps' = call_laws.outlines_hull_one start steps start' steps' o

-- ---- the call

-- every start, chain, grid size and buffer has an answer and a state of the buffer
pub orthogonal_answers : (s : Corner) (ds : List ℕ) (g : ℕ) (before : List ℕ)
    → (r : Orthogonal) × (after : List ℕ) × OrthogonalCall s ds g before r after
orthogonal_answers = given_laws.orthogonal_answers

module _ (s : Corner) (ds : List ℕ) (g : ℕ) (before : List ℕ) where
  -- and only one
  pub orthogonal_call_one : {r r' : Orthogonal} {after after' : List ℕ} → OrthogonalCall s ds g before r after
      → OrthogonalCall s ds g before r' after' → (r ≡ r') × (after ≡ after')
  orthogonal_call_one = call_laws.orthogonal_call_one s ds g before

  -- each answer exactly on its occasion: 1, 10, 22, 4, 6, 12, then 18, otherwise the outline
  pub orthogonal_exactly : {r : Orthogonal} {after : List ℕ} → OrthogonalCall s ds g before r after → (a : Orthogonal)
      → r ≡ a ↔ GivenOrthogonal s ds g (length before) a
  orthogonal_exactly = given_laws.orthogonal_when s ds g before

  -- the numbers of each
  pub orthogonal_words_lem : {r : Orthogonal} {after : List ℕ} → OrthogonalCall s ds g before r after → (a : Orthogonal)
      → GivenOrthogonal s ds g (length before) a → orthogonal_words r ≡ orthogonal_words a
  orthogonal_words_lem w a k = ap orthogonal_words ((orthogonal_exactly w a).1 k)

  -- "a buffer as long as the chain always suffices": then a room with a grid size is accepted
  pub orthogonal_enough : {r : Orthogonal} {after : List ℕ} → OrthogonalCall s ds g before r after → GridSized g
      → GivenRoom s ds (Ok tt) → length ds ≤ length before → (h : Enclosed) × (r ≡ Ok h)
  orthogonal_enough = given_laws.orthogonal_enough s ds g before

  module _ {after : List ℕ} where
    -- "nothing written"
    pub orthogonal_untouched : (q : Refusal) → OrthogonalCall s ds g before (Err q) after → after ≡ before
    orthogonal_untouched = given_laws.orthogonal_untouched s ds g before

    -- the outline, and "bytes after the chain are unchanged"
    pub orthogonal_written : (h : Enclosed) → OrthogonalCall s ds g before (Ok h) after
        → (start : Corner) × (steps : List ℕ) × OutlinesHull s ds g start steps × (h ≡ enclosed_of start steps)
        × (after ≡ steps ++ drop (length steps) before)
    orthogonal_written = given_laws.orthogonal_written s ds g before

    -- 16,384 bytes are enough, and there are at most 67,108,864 blocks
    pub orthogonal_most : (h : Enclosed) → OrthogonalCall s ds g before (Ok h) after
        → (h.steps ≤ most_steps) × (4 * h.blocks ≤ most_steps * most_steps)
    orthogonal_most = given_laws.orthogonal_most s ds g before

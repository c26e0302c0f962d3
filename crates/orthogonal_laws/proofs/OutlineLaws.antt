-- The chain around the rows of the hull is its outline.
-- Assumes nothing.
use mathlib.Core.List.{List}
use Prim.Native.Nat.{ℕ, ◌%◌, ◌<◌}
use borrow.Author.Tests.{eqb-true, eq-eqb}
use Rattle.lists.specs.Lists.{Below}
use Rattle.grid.specs.declared.{Corner.Corner}
use Rattle.trace.specs.Verdict.{IsRoom}
use Rattle.room.proofs.RoomLaws.{is_room_exactly}
use Rattle.panels.specs.Inside.{edges_beside, inside}
use Rattle.orthogonal.specs.Blocks.{HoldsInside}
use Rattle.orthogonal.specs.Call.{OutlinesHull}
use Rattle.orthogonal_chain_laws.specs.Chain.{corner_by, home_row, chain_from_home}
use Rattle.orthogonal_chain_laws.proofs.RoomLaws.{chain-room, chain-inside, chain_left}
use Rattle.orthogonal_chain_laws.proofs.HomeLaws.{home_row-is, chain_home}
use Rattle.orthogonal_chain_laws.proofs.DigitLaws.{chain_digits}
use Rattle.orthogonal_laws.specs.HullRows.{hull_left, hull_right, RowEnds}
use Rattle.orthogonal_laws.proofs.BlockLaws.{blocks_connected}
use Rattle.orthogonal_laws.proofs.RowLaws.{hull_piled, rows_hull}
use Rattle.orthogonal_laws.proofs.EndsLaws.{room-ends}

module _ (c : Corner) (ds : List ℕ) (r : IsRoom c ds) (b : Below 4 ds) (g : ℕ) (some : 0 < g) where
  -- from the ends of the rows of blocks
  module _ (o : Corner) (l u : ℕ → ℕ) (t : ℕ) (ends : RowEnds (HoldsInside c ds g) o l u t) where
    abbrev L : ℕ → ℕ
    L = hull_left l t

    abbrev R : ℕ → ℕ
    R = hull_right u t

    pub rows_outline : OutlinesHull c ds g (corner_by o (L (home_row L t)) (home_row L t)) (chain_from_home L R t)
    rows_outline =
        let joined = blocks_connected g some c ds r b in
        let piled = hull_piled (HoldsInside c ds g) joined o l u t ends in
        let k : ℕ = home_row L t in
        let h = (home_row-is L t).among in
        let start : Corner = corner_by o (L k) k in
        let steps : List ℕ = chain_from_home L R t in
        record {
          digits = chain_digits L R t k;
          room = (is_room_exactly start steps).1 (chain-room o L R t piled k h);
          home = chain_home o L R t piled;
          left = chain_left o L R t piled k h;
          hull = rows_hull (HoldsInside c ds g) joined o l u t ends (inside start steps) (λ p. (λ e. (chain-inside o L R t piled k h p).0 (eqb-true (edges_beside start steps p % 2) 1 e), λ i. eq-eqb (edges_beside start steps p % 2) 1 ((chain-inside o L R t piled k h p).1 i)));
        }

  -- every room has an outline of its hull
  pub outline_some : (start : Corner) × (steps : List ℕ) × OutlinesHull c ds g start steps
  outline_some =
      let e = room-ends c ds r b g some in
      (corner_by e.0 (hull_left e.1 e.3 (home_row (hull_left e.1 e.3) e.3)) (home_row (hull_left e.1 e.3) e.3), chain_from_home (hull_left e.1 e.3) (hull_right e.2 e.3) e.3, rows_outline e.0 e.1 e.2 e.3 e.4)

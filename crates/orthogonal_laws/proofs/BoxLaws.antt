-- The bounding box of a room's blocks: there is one, only one, the outline of the hull is as long as twice its width and twice its height,
-- and so it is no longer than the room's chain.
-- Assumes nothing.
use mathlib.Core.List.{List}
use mathlib.Core.Logic.{⊎_elim}
use mathlib.Core.Path.{◌≡◌, refl, ap, ◌∙◌}
use Prim.Native.Nat.{ℕ, zero, suc, ◌+◌, ◌-◌, ◌*◌, ◌<◌, ◌≤◌}
use native.Mathlib.Omega.{arith}
use lib.IntN.{ℤ, pos, suc_ℤ, nat_abs, ◌+ℤ◌, ◌-ℤ◌}
use lib.ListN.{length}
use lib.Signed.{◌≤ℤ◌, ◌<ℤ◌}
use Rattle.int_laws.proofs.LinearLaws.{zarith, bal+, bal-, le_or_lt}
use Rattle.int_laws.proofs.NextLaws.{bal_suc, above}
use Rattle.lists.specs.Lists.{Below}
use Rattle.grid.specs.declared.{Corner.Corner, Panel.Panel}
use Rattle.trace.specs.Verdict.{IsRoom}
use Rattle.panels.specs.Box.{Box, box_of}
use Rattle.area_laws.proofs.PanelLaws.{HoldsPanel}
use Rattle.room_laws.proofs.InsideLaws.{inside_held}
use Rattle.orthogonal.specs.Blocks.{floor_by, block, HoldsInside}
use Rattle.orthogonal.specs.Call.{OutlinesHull}
use Rattle.orthogonal_chain_laws.specs.Chain.{Bulges, chain_from_home}
use Rattle.orthogonal_chain_laws.proofs.LengthLaws.{bulge_least, bulge_most}
use Rattle.orthogonal_chain_laws.proofs.HomeLaws.{chain_length}
use Rattle.orthogonal_laws.specs.Connected.{Connected}
use Rattle.orthogonal_laws.specs.HullRows.{hull_left, hull_right, RowEnds}
use Rattle.orthogonal_laws.specs.BlockBox.{InBlockBox, BoundedBy}
use Rattle.orthogonal_laws.proofs.BlockLaws.{floor_suc, blocks_connected}
use Rattle.orthogonal_laws.proofs.RowLaws.{left_out, right-out, hull_bulges, hull_piled, rows_quadrants}
use Rattle.orthogonal_laws.proofs.EndsLaws.{room-ends}
use Rattle.orthogonal_laws.proofs.OutlineLaws.{rows_outline}
use Rattle.orthogonal_laws.proofs.CallLaws.{outlines_hull_one}
use Rattle.orthogonal_laws.proofs.LengthLaws.{box_around}

-- ---- the box from the rows

abbrev box_by : Corner → ℕ → ℕ → ℕ → Box
box_by o x y t = record { west = o.0 +ℤ pos x; east = o.0 +ℤ pos y; south = o.1; north = o.1 +ℤ pos (suc t) }

module _ (B : Panel → Type 0) (joined : Connected B) (o : Corner) (l r : ℕ → ℕ) (t k j : ℕ) (ends : RowEnds B o l r t) (bulges : Bulges (hull_left l t) (hull_right r t) t k j) where
  abbrev L : ℕ → ℕ
  L = hull_left l t

  abbrev R : ℕ → ℕ
  R = hull_right r t

  inside_box : (b : Panel) → B b → InBlockBox (box_by o (L k) (R j) t) b
  inside_box b i =
      let w = ends.within b i in
      let q : ℕ = w.row in
      let x : L k ≤ l q = let a = bulge_least bulges q w.among in let z = left_out l t q w.among in omega (arith, a, z) in
      let y : r q ≤ R j = let a = bulge_most bulges q w.among in let z = right-out r t q w.among in omega (arith, a, z) in
      record {
        west = omega (zarith, w.west, x, bal+ o.0 (pos (l q)), bal+ o.0 (pos (L k)));
        east = omega (zarith, w.east, y, bal+ o.0 (pos (r q)), bal+ o.0 (pos (R j)));
        south = omega (zarith, w.level, bal+ o.1 (pos q));
        north = omega (zarith, w.level, w.among, bal+ o.1 (pos q), bal+ o.1 (pos (suc t)));
      }

  rows_bounded : BoundedBy B (box_by o (L k) (R j) t)
  rows_bounded = record { within = inside_box; west = west; east = east; south = (block (o.0 +ℤ pos (l 0)) (o.1 +ℤ pos 0), ends.first 0 (omega arith), omega (zarith, bal+ o.1 (pos 0))); north = (block (o.0 +ℤ pos (l t)) (o.1 +ℤ pos t), ends.first t (omega arith), omega (zarith, bal_suc (o.1 +ℤ pos t), bal+ o.1 (pos t), bal+ o.1 (pos (suc t)))) }
    where
      west : (b : Panel) × B b × (b.0 ≡ o.0 +ℤ pos (L k))
      west =
          let h = (rows_quadrants B joined o l r t ends (block (o.0 +ℤ pos (L k)) (o.1 +ℤ pos k)) (record { row = k; among = bulges.left; level = refl; west = omega zarith; east = (let w = (hull_piled B joined o l r t ends).wide k bulges.left in omega (zarith, w, bal+ o.0 (pos (L k)), bal+ o.0 (pos (R k)))) })).south_west in
          let i = (inside_box h.at h.one).west in
          (h.at, h.one, omega (zarith, i, h.x))

      east : (b : Panel) × B b × (suc_ℤ b.0 ≡ o.0 +ℤ pos (R j))
      east =
          let w = (hull_piled B joined o l r t ends).wide j bulges.right in
          let x : ℕ = R j - 1 in
          let h = (rows_quadrants B joined o l r t ends (block (o.0 +ℤ pos x) (o.1 +ℤ pos j)) (record { row = j; among = bulges.right; level = refl; west = omega (zarith, w, bal+ o.0 (pos x), bal+ o.0 (pos (L j))); east = omega (zarith, w, bal+ o.0 (pos x), bal+ o.0 (pos (R j))) })).south_east in
          let i = (inside_box h.at h.one).east in
          (h.at, h.one, omega (zarith, i, w, h.x, bal_suc h.at.0, bal+ o.0 (pos x), bal+ o.0 (pos (R j))))

-- a set has one box at most
bounded_one : {B : Panel → Type 0} {k m : Box} → BoundedBy B k → BoundedBy B m → (k.west ≡ m.west) × (k.east ≡ m.east) × (k.south ≡ m.south) × (k.north ≡ m.north)
bounded_one {B} {k} {m} a z = (
  (let x = (a.within z.west.0 z.west.1).west in let y = (z.within a.west.0 a.west.1).west in omega (zarith, x, y, a.west.2, z.west.2)),
  (let x = (a.within z.east.0 z.east.1).east in let y = (z.within a.east.0 a.east.1).east in omega (zarith, x, y, a.east.2, z.east.2, bal_suc a.east.0.0, bal_suc z.east.0.0)),
  (let x = (a.within z.south.0 z.south.1).south in let y = (z.within a.south.0 a.south.1).south in omega (zarith, x, y, a.south.2, z.south.2)),
  (let x = (a.within z.north.0 z.north.1).north in let y = (z.within a.north.0 a.north.1).north in omega (zarith, x, y, a.north.2, z.north.2, bal_suc a.north.0.1, bal_suc z.north.0.1)),
)

-- ---- floors of numbers that are n apart at most

module _ (g : ℕ) (some : 0 < g) where
  floor_plus : (a : ℤ) (n : ℕ) → (floor_by g a ≤ℤ floor_by g (a +ℤ pos n)) × (floor_by g (a +ℤ pos n) ≤ℤ (floor_by g a +ℤ pos n))
  floor_plus a zero =
      let z : a +ℤ pos 0 ≡ a = omega (zarith, bal+ a (pos 0)) in
      let e : floor_by g (a +ℤ pos 0) ≡ floor_by g a = ap (floor_by g) z in
      (omega (zarith, e), omega (zarith, e, bal+ (floor_by g a) (pos 0)))
  floor_plus a (suc n) =
      let k = floor_plus a n in
      let z : a +ℤ pos (suc n) ≡ suc_ℤ (a +ℤ pos n) = omega (zarith, bal_suc (a +ℤ pos n), bal+ a (pos n), bal+ a (pos (suc n))) in
      let s : floor_by g (a +ℤ pos (suc n)) ≡ floor_by g (suc_ℤ (a +ℤ pos n)) = ap (floor_by g) z in
      ⊎_elim
      (λ e. (omega (zarith, k.0, s, e), omega (zarith, k.1, s, e, bal+ (floor_by g a) (pos n), bal+ (floor_by g a) (pos (suc n)))))
      (λ e. (omega (zarith, k.0, s, e, bal_suc (floor_by g (a +ℤ pos n))), omega (zarith, k.1, s, e, bal_suc (floor_by g (a +ℤ pos n)), bal+ (floor_by g a) (pos n), bal+ (floor_by g a) (pos (suc n)))))
      (floor_suc g some (a +ℤ pos n))

  floor_spread : (a b : ℤ) (n : ℕ) → b ≤ℤ (a +ℤ pos n) → floor_by g b ≤ℤ (floor_by g a +ℤ pos n)
  floor_spread a b n h = ⊎_elim ahead aback (le_or_lt a b)
    where
      ahead : a ≤ℤ b → floor_by g b ≤ℤ (floor_by g a +ℤ pos n)
      ahead l =
          let m : ℕ = nat_abs (b -ℤ a) in
          let e = above a b l in
          let k = (floor_plus a m).1 in
          let s : floor_by g b ≡ floor_by g (a +ℤ pos m) = ap (floor_by g) e in
          let q : m ≤ n = omega (zarith, e, h, bal+ a (pos m), bal+ a (pos n)) in
          omega (zarith, s, k, q, bal+ (floor_by g a) (pos m), bal+ (floor_by g a) (pos n))

      aback : b <ℤ a → floor_by g b ≤ℤ (floor_by g a +ℤ pos n)
      aback l =
          let m : ℕ = nat_abs (a -ℤ b) in
          let e = above b a (omega (zarith, l)) in
          let k = (floor_plus b m).0 in
          let s : floor_by g a ≡ floor_by g (b +ℤ pos m) = ap (floor_by g) e in
          omega (zarith, s, k, bal+ (floor_by g a) (pos n))

  -- from the block of a to that of z there are no more than from lo to hi, if both are between
  narrow : (lo hi a z w e : ℤ) → lo ≤ℤ a → lo ≤ℤ z → z <ℤ hi → floor_by g a ≡ w → suc_ℤ (floor_by g z) ≡ e → w <ℤ e → nat_abs (e -ℤ w) ≤ nat_abs (hi -ℤ lo)
  narrow lo hi a z w e h i l p q s =
      let n : ℕ = nat_abs (hi -ℤ lo) in
      let x = above lo hi (omega (zarith, i, l)) in
      let some : 0 < n = omega (zarith, x, i, l, bal+ lo (pos n)) in
      let k = floor_spread a z (n - 1) (omega (zarith, x, h, l, some, bal+ lo (pos n), bal+ a (pos (n - 1)))) in
      let y = above w e (omega (zarith, s)) in
      omega (zarith, y, k, p, q, some, bal+ w (pos (nat_abs (e -ℤ w))), bal+ (floor_by g a) (pos (n - 1)), bal_suc (floor_by g z))

  -- ---- the blocks of a room

  module _ (c : Corner) (ds : List ℕ) (r : IsRoom c ds) (b : Below 4 ds) where
    -- they have a box
    pub blocks_bounded : (k : Box) × BoundedBy (HoldsInside c ds g) k
    blocks_bounded =
        let e = room-ends c ds r b g some in
        let m = hull_bulges e.1 e.2 e.3 in
        (box_by e.0 (hull_left e.1 e.3 m.0) (hull_right e.2 e.3 m.1) e.3, rows_bounded (HoldsInside c ds g) (blocks_connected g some c ds r b) e.0 e.1 e.2 e.3 m.0 m.1 e.4 m.2)

    module _ (k : Box) (bounded : BoundedBy (HoldsInside c ds g) k) where
      -- the outline of the hull is as long as twice the width and twice the height of the box
      pub hull_length : (start : Corner) (steps : List ℕ) → OutlinesHull c ds g start steps → length steps ≡ 2 * nat_abs (k.east -ℤ k.west) + 2 * nat_abs (k.north -ℤ k.south)
      hull_length start steps h = by (room-ends c ds r b g some)
        where
          by : (o : Corner) × (l : ℕ → ℕ) × (u : ℕ → ℕ) × (t : ℕ) × RowEnds (HoldsInside c ds g) o l u t → length steps ≡ 2 * nat_abs (k.east -ℤ k.west) + 2 * nat_abs (k.north -ℤ k.south)
          by (o, l, u, t, e) =
              let joined = blocks_connected g some c ds r b in
              let m = hull_bulges l u t in
              let piled = hull_piled (HoldsInside c ds g) joined o l u t e in
              let same = (outlines_hull_one start steps _ (chain_from_home (hull_left l t) (hull_right u t) t) h (rows_outline c ds r b g some o l u t e)).1 in
              let size = chain_length piled m.2 in
              let z = bounded_one bounded (rows_bounded (HoldsInside c ds g) joined o l u t m.0 m.1 e m.2) in
              let x : ℕ = hull_left l t m.0 in
              let y : ℕ = hull_right u t m.1 in
              let w : x ≤ y = let p = piled.wide m.0 m.2.left in let q = bulge_most m.2 m.0 m.2.left in omega (arith, p, q) in
              let width : nat_abs (k.east -ℤ k.west) ≡ y - x = ap nat_abs (let d : k.east -ℤ k.west ≡ pos (y - x) = omega (zarith, z.0, z.1, w, bal- k.east k.west, bal+ o.0 (pos x), bal+ o.0 (pos y)) in d) in
              let height : nat_abs (k.north -ℤ k.south) ≡ suc t = ap nat_abs (let d : k.north -ℤ k.south ≡ pos (suc t) = omega (zarith, z.2, z.3, bal- k.north k.south, bal+ o.1 (pos (suc t))) in d) in
              omega (arith, ap length same, size, width, height)

      -- the box is no wider and no higher than that of the room
      box_narrow : (nat_abs (k.east -ℤ k.west) ≤ nat_abs ((box_of c ds).east -ℤ (box_of c ds).west)) × (nat_abs (k.north -ℤ k.south) ≤ nat_abs ((box_of c ds).north -ℤ (box_of c ds).south))
      box_narrow =
          let held : (b : Panel) (h : HoldsInside c ds g b) → HoldsPanel (box_of c ds) h.panel = λ b h. inside_held c ds r.closed h.panel h.inside in
          let w = bounded.west in
          let e = bounded.east in
          let s = bounded.south in
          let n = bounded.north in
          let i = bounded.within w.0 w.1 in (
            narrow (box_of c ds).west (box_of c ds).east w.1.panel.0 e.1.panel.0 k.west k.east (held w.0 w.1).west (held e.0 e.1).west (held e.0 e.1).east
                (ap (λ (p : Panel). p.0) w.1.block ∙ w.2) (ap (λ (p : Panel). suc_ℤ p.0) e.1.block ∙ e.2) (omega (zarith, i.west, i.east)),
            narrow (box_of c ds).south (box_of c ds).north s.1.panel.1 n.1.panel.1 k.south k.north (held s.0 s.1).south (held n.0 n.1).south (held n.0 n.1).north
                (ap (λ (p : Panel). p.1) s.1.block ∙ s.2) (ap (λ (p : Panel). suc_ℤ p.1) n.1.block ∙ n.2) (omega (zarith, i.south, i.north)),
          )

    -- so the outline is no longer than the room's chain
    pub hull_short : (start : Corner) (steps : List ℕ) → OutlinesHull c ds g start steps → length steps ≤ length ds
    hull_short start steps h =
        let k = blocks_bounded in
        let a = hull_length k.0 k.1 start steps h in
        let z = box_around c ds r.closed in
        let n = box_narrow k.0 k.1 in
        omega (arith, a, z, n.0, n.1)

-- How long the parts of the sheet are at most.
-- Assumes nothing.
use Rattle.std.specs.Prelude.{Err, Ok}
use mathlib.Core.Path.{◌≡◌, refl}
use mathlib.Core.Bool.{Bool, true, false, cond}
use mathlib.Core.List.{List, [], ◌∷◌, ◌++◌}
use Prim.Native.Nat.{ℕ, zero, suc, ◌+◌, ◌*◌, ◌/◌, ◌%◌, ◌≤◌}
use native.Mathlib.Omega.{arith}
use lib.IntN.{ℤ, pos, negsuc}
use lib.Dec.{ltb}
use lib.ListN.{length, length-append}
use Rattle.answer.specs.Answers.{Answer}
use Rattle.grid.specs.Grid.{origin, stepped}
use Rattle.answer.specs.declared.Facts.{Facts}
use Rattle.answer.specs.Refusal.{verdict_number, refusal_number, refusal_place}
use Rattle.grid.specs.declared.Corner.{Corner}
use Rattle.polygon.specs.Polygon.{polygon_of, points_of, bends, bends_from}
use Rattle.polygon_laws.proofs.BytesLaws.{length-polygon_bytes}
use Rattle.room.specs.Room.{is_room}
use Rattle.line_frame.specs.Sizes.{most_digits}
use Rattle.line_frame.specs.Hex.{hex_of}
use Rattle.line_frame.proofs.HexLaws.{length-hex_of}
use Rattle.sheet.specs.Decimal.{decimal_of, signed_of}
use Rattle.sheet.specs.Sizes.{most_decimals, most_cell, most_polygon, most_entry}
use Rattle.sheet.specs.Entry.{cell_of, cells_of, empty_cells, fact_count, refused_cells, hex_bytes, polygon_cell, entry_by}

pub length-decimal_of : (k n : ℕ) → length (decimal_of k n) ≤ k
unfolding decimal_of
length-decimal_of zero n = omega arith
length-decimal_of (suc k) n = go (ltb n 10) (decimal_of k (n / 10)) (48 + n % 10) (length-decimal_of k (n / 10))
  where
    go : (b : Bool) (l : List ℕ) (d : ℕ) → length l ≤ k → length (cond b [] l ++ (d ∷ [])) ≤ suc k
    go true l d h = omega arith
    go false l d h = omega (arith, length-append l (d ∷ []))

pub length-signed_of : (k : ℕ) (z : ℤ) → length (signed_of k z) ≤ suc k
length-signed_of k (pos n) = omega (arith, length-decimal_of k n)
length-signed_of k (negsuc n) = omega (arith, length-decimal_of k (suc n))

pub length-cell_of : (n : ℕ) → length (cell_of n) ≤ most_cell
length-cell_of n = omega (arith, length-append (decimal_of most_decimals n) (44 ∷ []), length-decimal_of most_decimals n)

-- one more cell
cell_more : (l : List ℕ) (n a : ℕ) → length l ≤ a → length (l ++ cell_of n) ≤ a + most_cell
cell_more l n a h = omega (arith, length-append l (cell_of n), length-cell_of n)

pub length-cells_of : (number place : ℕ) (f : Facts) → length (cells_of number place f) ≤ 9 * most_cell + 1
length-cells_of number place f =
    let l2 : List ℕ = cell_of number ++ cell_of place in
    let l3 : List ℕ = l2 ++ cell_of (verdict_number f.verdict) in
    let l4 : List ℕ = l3 ++ cell_of f.steps in
    let l5 : List ℕ = l4 ++ cell_of f.nodes in
    let l6 : List ℕ = l5 ++ cell_of f.corners in
    let l7 : List ℕ = l6 ++ cell_of f.j in
    let l8 : List ℕ = l7 ++ cell_of f.k in
    let h2 : length l2 ≤ 2 * most_cell = cell_more (cell_of number) place most_cell (length-cell_of number) in
    let h3 : length l3 ≤ 3 * most_cell = cell_more l2 (verdict_number f.verdict) (2 * most_cell) h2 in
    let h4 : length l4 ≤ 4 * most_cell = cell_more l3 f.steps (3 * most_cell) h3 in
    let h5 : length l5 ≤ 5 * most_cell = cell_more l4 f.nodes (4 * most_cell) h4 in
    let h6 : length l6 ≤ 6 * most_cell = cell_more l5 f.corners (5 * most_cell) h5 in
    let h7 : length l7 ≤ 7 * most_cell = cell_more l6 f.j (6 * most_cell) h6 in
    let h8 : length l8 ≤ 8 * most_cell = cell_more l7 f.k (7 * most_cell) h7 in
    omega (arith, h8, length-append l8 (signed_of most_decimals f.area), length-append (l8 ++ signed_of most_decimals f.area) (44 ∷ []), length-signed_of most_decimals f.area)

pub length-empty_cells : (k : ℕ) → length (empty_cells k) ≡ k
unfolding empty_cells
length-empty_cells zero = refl
length-empty_cells (suc k) = omega (arith, length-append (empty_cells k) (44 ∷ []), length-empty_cells k)

length-refused_cells : (number place : ℕ) → length (refused_cells number place) ≤ 2 * most_cell + fact_count
length-refused_cells number place =
    let l2 : List ℕ = cell_of number ++ cell_of place in
    omega (arith, cell_more (cell_of number) place most_cell (length-cell_of number), length-append l2 (empty_cells fact_count), length-empty_cells fact_count)

pub length-hex_bytes : (s : List ℕ) → length (hex_bytes s) ≡ 2 * length s
unfolding hex_bytes
length-hex_bytes [] = refl
length-hex_bytes (b ∷ s) = omega (arith, length-append (hex_of 2 b) (hex_bytes s), length-hex_of 2 b, length-hex_bytes s)

bends_from_most : (a : ℕ) (c : Corner) (ds : List ℕ) → length (bends_from a c ds) ≤ length ds
bends_from_most a c [] = omega arith
bends_from_most a c (d ∷ ds) = go (bends a d) (bends_from d (stepped d c) ds) (bends_from_most d (stepped d c) ds)
  where
    go : (t : Bool) (l : List Corner) → length l ≤ length ds → length (cond t (c ∷ []) [] ++ l) ≤ suc (length ds)
    go true l h = omega arith
    go false l h = omega arith

points_most : (s : Corner) (ds : List ℕ) → length ds ≤ most_digits → length (points_of s ds) ≤ suc most_digits
points_most s [] h = omega arith
points_most s (d ∷ ds) h =
    let l : List Corner = bends_from d (stepped d s) ds in
    omega (arith, bends_from_most d (stepped d s) ds, length-append l (s ∷ []))

-- the polygon of a frame's walk
pub polygon_of_most : (s : Corner) (ds : List ℕ) → length ds ≤ most_digits → length (polygon_of s ds) ≤ most_polygon
polygon_of_most s ds h = omega (arith, length-polygon_bytes (points_of s ds), points_most s ds h)

pub polygon_cell_most : (w : List ℕ) → length w ≤ most_digits → length (polygon_cell w) ≤ 2 * most_polygon
polygon_cell_most w h = go (is_room origin w)
  where
    go : (t : Bool) → length (cond t (hex_bytes (polygon_of origin w)) []) ≤ 2 * most_polygon
    go true = omega (arith, length-hex_bytes (polygon_of origin w), polygon_of_most origin w h)
    go false = omega arith

pub entry_by_most : (a : Answer) (w : List ℕ) → length w ≤ most_digits → length (entry_by a w) + 1 ≤ most_entry
entry_by_most (Ok f) w h = omega (arith, length-append (cells_of 0 0 f) (polygon_cell w), length-cells_of 0 0 f, polygon_cell_most w h)
entry_by_most (Err r) w h = omega (arith, length-refused_cells (refusal_number r) (refusal_place r))

-- Blocks and the hull on small rooms, decided; the refusals, the buffer and the numbers of the call, computed.
-- Assumes nothing.
use Rattle.std.specs.Prelude.{Err, Ok}
use mathlib.Core.List.{List, [], ◌∷◌, map}
use mathlib.Core.Path.{◌≡◌, refl, ap}
use mathlib.Core.Bool.{Bool, true, false, false≢true}
use Prim.Native.Nat.{ℕ, ◌<◌}
use native.Mathlib.Omega.{arith}
use lib.IntN.{pos, negsuc, nat_abs}
use lib.Signed.{le_z_yes}
use Rattle.grid.specs.declared.{Corner.Corner, Panel.Panel}
use Rattle.grid.specs.Grid.{corner, origin}
use Rattle.answer.specs.declared.{Refusal.TheVariants.BadDigit, Refusal.TheVariants.StartRange, Refusal.TheVariants.NotRoom, Refusal.TheVariants.ChainRoom, Refusal.TheVariants.GridSize}
use Rattle.orthogonal.specs.Blocks.{floor_by, block, block_of, HoldsInside, OrthogonalHullIs}
use Rattle.orthogonal.specs.Call.{grid_fits, OutlinesHull, orthogonal_judged, orthogonal_of, orthogonal_words, orthogonal_number}

-- -4, -3, -1, 0, 2 and 3 by 3
pub floors : map (floor_by 3) (negsuc 3 ∷ negsuc 2 ∷ negsuc 0 ∷ pos 0 ∷ pos 2 ∷ pos 3 ∷ []) ≡ negsuc 1 ∷ negsuc 0 ∷ negsuc 0 ∷ pos 0 ∷ pos 0 ∷ pos 1 ∷ []
floors = refl

-- each coordinate by itself, and a block of one panel is that panel
sides_by_themselves : block_of 2 (block (negsuc 0) (pos 5)) ∷ block_of 1 (block (negsuc 4) (pos 7)) ∷ [] ≡ block (negsuc 0) (pos 2) ∷ block (negsuc 4) (pos 7) ∷ []
sides_by_themselves = refl

-- a U of five panels, and the same lying on its side
abbrev upright : List ℕ
upright = 0 ∷ 0 ∷ 0 ∷ 1 ∷ 1 ∷ 2 ∷ 3 ∷ 2 ∷ 1 ∷ 2 ∷ 3 ∷ 3 ∷ []

abbrev lying : List ℕ
lying = 0 ∷ 0 ∷ 1 ∷ 2 ∷ 1 ∷ 0 ∷ 1 ∷ 2 ∷ 2 ∷ 3 ∷ 3 ∷ 3 ∷ []

-- its mouth is in the hull: it lies between two panels of one row, and between two of one column
pub mouth_in_a-row : (H : Panel → Bool) → OrthogonalHullIs (HoldsInside origin upright 1) H → H (block (pos 1) (pos 1)) ≡ true
mouth_in_a-row H h =
    h.unbroken.row (pos 0) (pos 1) (pos 2) (pos 1) (le_z_yes tt) (le_z_yes tt)
    (h.contains (block (pos 0) (pos 1)) (record { panel = block (pos 0) (pos 1); inside = refl; block = refl }))
    (h.contains (block (pos 2) (pos 1)) (record { panel = block (pos 2) (pos 1); inside = refl; block = refl }))

pub mouth_in_a-column : (H : Panel → Bool) → OrthogonalHullIs (HoldsInside origin lying 1) H → H (block (pos 1) (pos 1)) ≡ true
mouth_in_a-column H h =
    h.unbroken.column (pos 1) (pos 0) (pos 1) (pos 2) (le_z_yes tt) (le_z_yes tt)
    (h.contains (block (pos 1) (pos 0)) (record { panel = block (pos 1) (pos 0); inside = refl; block = refl }))
    (h.contains (block (pos 1) (pos 2)) (record { panel = block (pos 1) (pos 2); inside = refl; block = refl }))

-- with a grid size of 2 the panel at the east end of the U is in another block than the one at its west end
by-twos : HoldsInside origin upright 2 (block (pos 1) (pos 0))
by-twos = record { panel = block (pos 2) (pos 1); inside = refl; block = refl }

-- ---- what is not an outline of a hull, whatever the room

module _ {s : Corner} {ds : List ℕ} {g : ℕ} where
  -- from another corner than the lowest of the leftmost
  not_from_the_right : OutlinesHull s ds g (corner (pos 1) (pos 0)) (1 ∷ 2 ∷ 3 ∷ 0 ∷ []) → ⊥
  not_from_the_right o = let e : ◌≡◌ {A = ℕ} 0 1 = ap (λ (c : Corner). nat_abs c.0) o.home in omega (arith, e)

  -- clockwise
  not_clockwise : OutlinesHull s ds g origin (1 ∷ 0 ∷ 3 ∷ 2 ∷ []) → ⊥
  not_clockwise o = let e : ◌≡◌ {A = ℕ} 0 1 = o.left.0.0 in omega (arith, e)

  -- with a digit that is not a step
  not_a_step : OutlinesHull s ds g origin (0 ∷ 1 ∷ 2 ∷ 7 ∷ []) → ⊥
  not_a_step o = let h : 7 < 4 = o.digits.1.1.1.0 in omega (arith, h)

  -- that is not a room
  not_there_and_back : OutlinesHull s ds g origin (0 ∷ 2 ∷ []) → ⊥
  not_there_and_back o = false≢true o.room

-- ---- the call

-- 1 and 16,384 are grid sizes, 0 and 16,385 are not
sizes : map grid_fits (0 ∷ 1 ∷ 16384 ∷ 16385 ∷ []) ≡ false ∷ true ∷ true ∷ false ∷ []
sizes = refl

-- a room of one panel
abbrev one : List ℕ
one = 0 ∷ 1 ∷ 2 ∷ 3 ∷ []

-- the start is judged before the grid size, the grid size before the digits, the room before the buffer
orders : orthogonal_judged (corner (pos 16385) (pos 0)) (9 ∷ []) 0 0 4 ∷ orthogonal_judged origin (9 ∷ []) 0 0 4 ∷ orthogonal_judged origin (9 ∷ []) 1 0 4 ∷ orthogonal_judged origin (0 ∷ 2 ∷ []) 1 0 4 ∷ orthogonal_judged origin one 1 3 4 ∷ orthogonal_judged origin one 1 4 4 ∷ [] ≡ Err StartRange ∷ Err GridSize ∷ Err (BadDigit 0) ∷ Err NotRoom ∷ Err ChainRoom ∷ Ok tt ∷ []
orders = refl

-- number, place, steps, start and blocks; a refused answer has zeros after its place
words_outlined : orthogonal_words (orthogonal_of (Ok tt) (corner (negsuc 0) (pos 2)) one) ≡ 0 ∷ 0 ∷ 4 ∷ 4294967295 ∷ 2 ∷ 1 ∷ []
words_outlined = refl

words_refused : orthogonal_words (orthogonal_of (Err (BadDigit 7)) origin one) ≡ 4 ∷ 7 ∷ 0 ∷ 0 ∷ 0 ∷ 0 ∷ []
words_refused = refl

number_refused : orthogonal_number (orthogonal_of (Err GridSize) origin one) ≡ 22
number_refused = refl

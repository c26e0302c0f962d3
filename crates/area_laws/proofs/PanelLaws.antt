-- The panels of a box: exactly those between its sides, each once.
-- Assumes nothing.
use mathlib.Core.List.Memᴰ
use mathlib.Core.List.{List, Memᴰ}
use mathlib.Core.Logic.{◌↔◌, ⊎_elim}
use mathlib.Core.Path.{◌≡◌, ap, ap₂}
use Prim.Native.Nat.{ℕ, zero, suc}
use lib.IntN.{ℤ, pos, suc_ℤ, nat_abs, ◌+ℤ◌, ◌-ℤ◌}
use lib.Signed.{◌≤ℤ◌, ◌<ℤ◌}
use Rattle.int_laws.proofs.LinearLaws.{zarith, bal+, le_or_lt}
use Rattle.int_laws.proofs.NextLaws.{bal_suc, above}
use Rattle.lists.specs.Lists.{Distinct}
use Rattle.lists.proofs.DistinctLaws.{distinct_append}
use Rattle.grid.specs.declared.{Corner.Corner, Panel.Panel}
use Rattle.grid.specs.Grid.{corner, panel_at}
use Rattle.grid.proofs.StepLaws.{start_from_mem}
use Rattle.panels.specs.Box.{Box, box_of, panel_row, panel_rows, panels_in}
use Rattle.area_laws.proofs.BoxLaws.{box_holds}

-- p is in the n panels of row b from a eastwards
pub record InRow (b a : ℤ) (n : ℕ) (p : Panel) : Type 0 where
  pub row : p.1 ≡ b
  pub west : a ≤ℤ p.0
  pub east : p.0 <ℤ (a +ℤ pos n)

pub row-mem : (b a : ℤ) (n : ℕ) (p : Panel) → Memᴰ p (panel_row b a n) → InRow b a n p
row-mem b a zero p m = absurd (Memᴰ.not-nil m)
row-mem b a (suc n) p m = ⊎_elim here (λ k. next (row-mem b (suc_ℤ a) n p k)) (Memᴰ.cases_cons m)
  where
    here : p ≡ panel_at (corner a b) → InRow b a (suc n) p
    here e = let x = ap (λ (q : Panel). q.0) e in record { row = ap (λ (q : Panel). q.1) e; west = omega (zarith, x); east = omega (zarith, x, bal+ a (pos (suc n))) }

    next : InRow b (suc_ℤ a) n p → InRow b a (suc n) p
    next h = record { row = h.row; west = omega (zarith, h.west, bal_suc a); east = omega (zarith, h.east, bal_suc a, bal+ (suc_ℤ a) (pos n), bal+ a (pos (suc n))) }

pub mem-row : (b a : ℤ) (n : ℕ) (p : Panel) → InRow b a n p → Memᴰ p (panel_row b a n)
mem-row b a zero p h = absurd (omega (zarith, h.west, h.east, bal+ a (pos 0)))
mem-row b a (suc n) p h =
    ⊎_elim
    (λ k. Memᴰ.tail (mem-row b (suc_ℤ a) n p (record { row = h.row; west = k; east = omega (zarith, h.east, bal_suc a, bal+ (suc_ℤ a) (pos n), bal+ a (pos (suc n))) })))
    (λ k. Memᴰ.head (ap₂ (λ (x y : ℤ). panel_at (corner x y)) (omega (zarith, h.west, k, bal_suc a)) h.row))
    (le_or_lt (suc_ℤ a) p.0)

pub row_once : (b a : ℤ) (n : ℕ) → Distinct (panel_row b a n)
row_once b a zero = tt
row_once b a (suc n) = ((λ m. omega (zarith, (row-mem b (suc_ℤ a) n (panel_at (corner a b)) m).west, bal_suc a)), row_once b (suc_ℤ a) n)

-- p is in m such rows from b northwards
record InRows (b a : ℤ) (n m : ℕ) (p : Panel) : Type 0 where
  pub south : b ≤ℤ p.1
  pub north : p.1 <ℤ (b +ℤ pos m)
  pub west : a ≤ℤ p.0
  pub east : p.0 <ℤ (a +ℤ pos n)

rows-mem : (b a : ℤ) (n m : ℕ) (p : Panel) → Memᴰ p (panel_rows b a n m) → InRows b a n m p
rows-mem b a n zero p k = absurd (Memᴰ.not-nil k)
rows-mem b a n (suc m) p k = ⊎_elim (λ l. here (row-mem b a n p l)) (λ l. next (rows-mem (suc_ℤ b) a n m p l)) (Memᴰ.append_cases (panel_row b a n) k)
  where
    here : InRow b a n p → InRows b a n (suc m) p
    here h = record { south = omega (zarith, h.row); north = omega (zarith, h.row, bal+ b (pos (suc m))); west = h.west; east = h.east }

    next : InRows (suc_ℤ b) a n m p → InRows b a n (suc m) p
    next h = record { south = omega (zarith, h.south, bal_suc b); north = omega (zarith, h.north, bal_suc b, bal+ (suc_ℤ b) (pos m), bal+ b (pos (suc m))); west = h.west; east = h.east }

mem-rows : (b a : ℤ) (n m : ℕ) (p : Panel) → InRows b a n m p → Memᴰ p (panel_rows b a n m)
mem-rows b a n zero p h = absurd (omega (zarith, h.south, h.north, bal+ b (pos 0)))
mem-rows b a n (suc m) p h =
    ⊎_elim
    (λ k. Memᴰ.append_right (panel_row b a n) (mem-rows (suc_ℤ b) a n m p (record { south = k; north = omega (zarith, h.north, bal_suc b, bal+ (suc_ℤ b) (pos m), bal+ b (pos (suc m))); west = h.west; east = h.east })))
    (λ k. Memᴰ.append_left (panel_rows (suc_ℤ b) a n m) (mem-row b a n p (record { row = omega (zarith, h.south, k, bal_suc b); west = h.west; east = h.east })))
    (le_or_lt (suc_ℤ b) p.1)

rows_once : (b a : ℤ) (n m : ℕ) → Distinct (panel_rows b a n m)
rows_once b a n zero = tt
rows_once b a n (suc m) =
    distinct_append (panel_row b a n) (panel_rows (suc_ℤ b) a n m) (row_once b a n) (rows_once (suc_ℤ b) a n m)
    (λ p k l. omega (zarith, (row-mem b a n p k).row, (rows-mem (suc_ℤ b) a n m p l).south, bal_suc b))

-- a panel lies between the sides of the box
pub record HoldsPanel (k : Box) (p : Panel) : Type 0 where
  pub west : k.west ≤ℤ p.0
  pub east : p.0 <ℤ k.east
  pub south : k.south ≤ℤ p.1
  pub north : p.1 <ℤ k.north

pub panels_once : (k : Box) → Distinct (panels_in k)
panels_once k = rows_once k.south k.west (nat_abs (k.east -ℤ k.west)) (nat_abs (k.north -ℤ k.south))

panels_held : (k : Box) → k.west ≤ℤ k.east → k.south ≤ℤ k.north → (p : Panel) → Memᴰ p (panels_in k) ↔ HoldsPanel k p
panels_held k x y p =
    let e = above k.west k.east x in
    let n = above k.south k.north y in
    let w = nat_abs (k.east -ℤ k.west) in
    let h = nat_abs (k.north -ℤ k.south) in (
      λ m. let g = rows-mem k.south k.west w h p m in record { west = g.west; east = omega (zarith, e, g.east); south = g.south; north = omega (zarith, n, g.north) },
      λ g. mem-rows k.south k.west w h p (record { south = g.south; north = omega (zarith, n, g.north); west = g.west; east = omega (zarith, e, g.east) }),
    )

-- the panels of the bounding box
pub box_panels : (c : Corner) (ds : List ℕ) (p : Panel) → Memᴰ p (panels_in (box_of c ds)) ↔ HoldsPanel (box_of c ds) p
box_panels c ds = let h = box_holds c ds c (start_from_mem c ds) in panels_held (box_of c ds) (omega (zarith, h.west, h.east)) (omega (zarith, h.south, h.north))

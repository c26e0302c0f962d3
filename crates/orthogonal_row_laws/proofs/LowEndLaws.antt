-- The lower ends of a walk's vertical edges as whole numbers, and as corners.
-- Assumes nothing.
use mathlib.Core.Bool.{true, false}
use mathlib.Core.List.Memᴰ
use mathlib.Core.List.{List, [], ◌∷◌, ◌++◌, Memᴰ}
use mathlib.Core.Logic.{⊎_elim}
use mathlib.Core.Path.{◌≡◌, refl, ap, sym, ◌∙◌}
use Prim.Native.Nat.{ℕ, zero, suc, ◌-◌, ◌<◌}
use native.Mathlib.Omega.{arith}
use lib.IntN.{ℤ, pos, ◌+ℤ◌}
use lib.ListN.{length, get_or}
use Rattle.grid.specs.declared.Corner.{Corner}
use Rattle.grid.specs.Grid.{stepped}
use Rattle.panels.specs.Edges.{Edge, edge_of, edges_from}
use Rattle.column_laws.specs.Columns.{col_after, row_after}
use Rattle.room_thread_laws.specs.Threads.{along_from, columns_from, rows_from}
use Rattle.room_thread_laws.proofs.RoomLaws.{move_x, move_y}
use Rattle.orthogonal_row_laws.specs.Lanes.{low_end_of, low_ends_from}
use Rattle.orthogonal_row_laws.proofs.EdgeLaws.{mem-append}

-- the edge with this lower end, counted from o and u
pub record EndOf (o u : ℤ) (e : Edge) (v : ℕ × ℕ) : Type 0 where
  pub column : e.foot.0 ≡ o +ℤ pos v.0
  pub height : e.foot.1 ≡ u +ℤ pos v.1

mem-right : {A : Type 0} (x : A) (a b : List A) → Memᴰ x b → Memᴰ x (a ++ b)
mem-right x [] b m = m
mem-right x (y ∷ a) b m = Memᴰ.tail (mem-right x a b m)

-- a walk that stays above 0 and below `room`
pub record Keeps (x y : ℕ) (ds : List ℕ) (room : ℕ) : Type 0 where
  pub columns : (j : ℕ) → j < length ds → (0 < get_or (columns_from x ds) j 0) × (get_or (columns_from x ds) j 0 < room)
  pub rows : (j : ℕ) → j < length ds → (0 < get_or (rows_from y ds) j 0) × (get_or (rows_from y ds) j 0 < room)

module _ (room : ℕ) where
  keeps_here : (x y d : ℕ) (ds : List ℕ) → Keeps x y (d ∷ ds) room → (0 < x) × (x < room) × (0 < y) × (y < room)
  unfolding along_from
  keeps_here x y d ds k = ((k.columns 0 (omega arith)).0, (k.columns 0 (omega arith)).1, (k.rows 0 (omega arith)).0, (k.rows 0 (omega arith)).1)

  keeps_next : (x y d : ℕ) (ds : List ℕ) → Keeps x y (d ∷ ds) room → Keeps (col_after x d) (row_after y d) ds room
  unfolding along_from
  keeps_next x y d ds k = record { columns = λ j h. k.columns (suc j) (omega arith); rows = λ j h. k.rows (suc j) (omega arith) }

  module _ (o u : ℤ) where
    -- the lower end of each edge
    pub edge_end : (c : Corner) (ds : List ℕ) (x y : ℕ) → c.0 ≡ o +ℤ pos x → c.1 ≡ u +ℤ pos y → Keeps x y ds room → (e : Edge) → Memᴰ e (edges_from c ds) → (v : ℕ × ℕ) × Memᴰ v (low_ends_from x y ds) × EndOf o u e v
    unfolding low_ends_from row_after
    edge_end c [] x y ex ey k e m = absurd (Memᴰ.not-nil m)
    edge_end c (d ∷ ds) x y ex ey k e m =
        let b = keeps_here x y d ds k in
        ⊎_elim
        (λ h. here d b.2 h)
        (λ h. let w = edge_end (stepped d c) ds (col_after x d) (row_after y d) (move_x d x c o b.0 ex) (move_y d y c u b.2 ey) (keeps_next x y d ds k) e h in (w.0, mem-right w.0 (low_end_of x y d) (low_ends_from (col_after x d) (row_after y d) ds) w.1, w.2))
        (mem-append e (edge_of d c) (edges_from (stepped d c) ds) m)
      where
        here : (d : ℕ) → 0 < y → Memᴰ e (edge_of d c) → (v : ℕ × ℕ) × Memᴰ v (low_end_of x y d ++ low_ends_from (col_after x d) (row_after y d) ds) × EndOf o u e v
        here zero l h = absurd (Memᴰ.not-nil h)
        here (suc zero) l (Memᴰ.head f) = ((x, y), Memᴰ.head refl, record { column = ap (λ (z : Edge). z.foot.0) f ∙ ex; height = ap (λ (z : Edge). z.foot.1) f ∙ ey })
        here (suc zero) l (Memᴰ.tail h) = absurd (Memᴰ.not-nil h)
        here (suc (suc zero)) l h = absurd (Memᴰ.not-nil h)
        here (suc (suc (suc d))) l (Memᴰ.head f) = ((x, y - 1), Memᴰ.head refl, record { column = ap (λ (z : Edge). z.foot.0) f ∙ ex; height = ap (λ (z : Edge). z.foot.1) f ∙ down })
          where
            down : (stepped 3 c).1 ≡ u +ℤ pos (y - 1)
            down = move_y 3 y c u l ey
        here (suc (suc (suc d))) l (Memᴰ.tail h) = absurd (Memᴰ.not-nil h)

    -- and the edge of each lower end
    pub end_edge : (c : Corner) (ds : List ℕ) (x y : ℕ) → c.0 ≡ o +ℤ pos x → c.1 ≡ u +ℤ pos y → Keeps x y ds room → (v : ℕ × ℕ) → Memᴰ v (low_ends_from x y ds) → (e : Edge) × Memᴰ e (edges_from c ds) × EndOf o u e v × (0 < v.0) × (v.0 < room) × (v.1 < room)
    unfolding low_ends_from row_after
    end_edge c [] x y ex ey k v m = absurd (Memᴰ.not-nil m)
    end_edge c (d ∷ ds) x y ex ey k v m =
        let b = keeps_here x y d ds k in
        ⊎_elim
        (λ h. here d b h)
        (λ h. let w = end_edge (stepped d c) ds (col_after x d) (row_after y d) (move_x d x c o b.0 ex) (move_y d y c u b.2 ey) (keeps_next x y d ds k) v h in (w.0, mem-right w.0 (edge_of d c) (edges_from (stepped d c) ds) w.1, w.2, w.3, w.4, w.5))
        (mem-append v (low_end_of x y d) (low_ends_from (col_after x d) (row_after y d) ds) m)
      where
        here : (d : ℕ) → (0 < x) × (x < room) × (0 < y) × (y < room) → Memᴰ v (low_end_of x y d) → (e : Edge) × Memᴰ e (edge_of d c ++ edges_from (stepped d c) ds) × EndOf o u e v × (0 < v.0) × (v.0 < room) × (v.1 < room)
        here zero b h = absurd (Memᴰ.not-nil h)
        here (suc zero) b (Memᴰ.head f) =
            (record { foot = c; north = true }, Memᴰ.head refl, record { column = ex ∙ ap (λ (z : ℕ × ℕ). o +ℤ pos z.0) (sym f); height = ey ∙ ap (λ (z : ℕ × ℕ). u +ℤ pos z.1) (sym f) }, omega (arith, b.0, ap (λ (z : ℕ × ℕ). z.0) f), omega (arith, b.1, ap (λ (z : ℕ × ℕ). z.0) f), omega (arith, b.3, ap (λ (z : ℕ × ℕ). z.1) f))
        here (suc zero) b (Memᴰ.tail h) = absurd (Memᴰ.not-nil h)
        here (suc (suc zero)) b h = absurd (Memᴰ.not-nil h)
        here (suc (suc (suc d))) b (Memᴰ.head f) =
            (record { foot = stepped 3 c; north = false }, Memᴰ.head refl, record { column = ex ∙ ap (λ (z : ℕ × ℕ). o +ℤ pos z.0) (sym f); height = down ∙ ap (λ (z : ℕ × ℕ). u +ℤ pos z.1) (sym f) }, omega (arith, b.0, ap (λ (z : ℕ × ℕ). z.0) f), omega (arith, b.1, ap (λ (z : ℕ × ℕ). z.0) f), omega (arith, b.3, ap (λ (z : ℕ × ℕ). z.1) f))
          where
            down : (stepped 3 c).1 ≡ u +ℤ pos (y - 1)
            down = move_y 3 y c u b.2 ey
        here (suc (suc (suc d))) b (Memᴰ.tail h) = absurd (Memᴰ.not-nil h)

-- The least column of each row of blocks, counted from west and from east, gives the ends of the rows of a room's blocks.
-- Assumes nothing.
use mathlib.Core.Bool.{Bool}
use mathlib.Core.List.Memᴰ
use mathlib.Core.List.{List, [], ◌∷◌, Memᴰ}
use mathlib.Core.Logic.{◌⊎◌, inl, inr, ⊎_elim}
use mathlib.Core.Path.{◌≡◌, refl, ap, ap₂, sym, ◌∙◌, subst}
use Prim.Native.Nat.{ℕ, suc, ◌+◌, ◌*◌, ◌-◌, ◌/◌, ◌<◌, ◌≤◌, min}
use native.Mathlib.Decide.{dec_lt, ℕ_discrete}
use native.Mathlib.Nat.{div-lt_iff_lt-mul}
use native.Mathlib.Omega.{arith}
use lib.IntN.{ℤ, pos, pred_ℤ, nat_abs, ◌+ℤ◌, ◌-ℤ◌}
use lib.ListN.{length, get_or, replicate, get_or-replicate, length-replicate, length-set}
use lib.Seq.{get_or-set_same, get_or-set_other, set_out}
use lib.Signed.{◌≤ℤ◌, ◌<ℤ◌, le_z}
use Rattle.int_laws.proofs.LinearLaws.{zarith, bal+, bal-}
use Rattle.int_laws.proofs.NextLaws.{bal_suc, bal_pred, le_false, above}
use Rattle.int_laws.proofs.RangeLaws.{le_true}
use Rattle.lists.specs.Lists.{Below}
use Rattle.lists.proofs.BoolLaws.{is_false}
use Rattle.grid.specs.declared.{Corner.Corner, Panel.Panel}
use Rattle.grid.specs.Grid.{corner}
use Rattle.trace.specs.Verdict.{IsRoom}
use Rattle.panels.specs.Edges.{Edge, edges_from}
use Rattle.panels.specs.Inside.{Inside, left_of, right_of}
use Rattle.room_laws.proofs.RoomLaws.{room-counts}
use Rattle.hull_laws.specs.Lowest.{blank, sink, sinks}
use Rattle.room_thread_laws.specs.Threads.{Stays}
use Rattle.orthogonal.specs.Blocks.{floor_by, block, HoldsInside}
use Rattle.orthogonal_chain_laws.specs.Chain.{InPile}
use Rattle.orthogonal_laws.specs.HullRows.{RowEnds}
use Rattle.orthogonal_laws.proofs.InsideLaws.{first_step}
use Rattle.orthogonal_laws.proofs.JoinedLaws.{Beside, Leaves, joined_leaves, true_le}
use Rattle.orthogonal_laws.proofs.JoinedLaws as joined_laws
use Rattle.orthogonal_laws.proofs.BlockLaws.{blocks_connected}
use Rattle.orthogonal_row_laws.specs.Lanes.{low_ends_from, lane_of, lanes_from, from_west, from_east, Ruled, EmptyBefore, EmptyFrom, Aligned}
use Rattle.orthogonal_row_laws.proofs.FloorLaws.{quotients_below, quotients_whole, quotient_le}
use Rattle.orthogonal_row_laws.proofs.EdgeLaws.{edge_east, edge_west, edge_sides, east_of_edge, west_of_edge}
use Rattle.orthogonal_row_laws.proofs.LowEndLaws.{EndOf, Keeps, edge_end, end_edge}

-- ---- what lanes keep

sink-at : (a : List ℕ) (v : ℕ × ℕ) → v.0 < length a → get_or (sink a v) v.0 0 ≡ min (get_or a v.0 0) v.1
unfolding sink
sink-at a v h = get_or-set_same a v.0 (min (get_or a v.0 0) v.1) 0 h

sink_cases : (a : List ℕ) (v : ℕ × ℕ) (q : ℕ) → (get_or (sink a v) q 0 ≡ get_or a q 0) ⊎ ((q ≡ v.0) × (get_or (sink a v) q 0 ≡ min (get_or a q 0) v.1))
unfolding sink
sink_cases a v q = go (ℕ_discrete q v.0) (dec_lt v.0 (length a))
  where
    go : Dec (q ≡ v.0) → Dec (v.0 < length a) → (get_or (sink a v) q 0 ≡ get_or a q 0) ⊎ ((q ≡ v.0) × (get_or (sink a v) q 0 ≡ min (get_or a q 0) v.1))
    go (no n) d = inl (get_or-set_other a v.0 q (min (get_or a v.0 0) v.1) 0 n)
    go (yes e) (no h) = inl (ap (λ (l : List ℕ). get_or l q 0) (set_out a v.0 (min (get_or a v.0 0) v.1) (omega arith)))
    go (yes e) (yes h) = inr (e, subst (λ (k : ℕ). get_or (sink a v) k 0 ≡ min (get_or a k 0) v.1) (sym e) (sink-at a v h))

length-sink : (a : List ℕ) (v : ℕ × ℕ) → length (sink a v) ≡ length a
unfolding sink
length-sink a v = length-set a v.0 (min (get_or a v.0 0) v.1)

sinks_fall : (vs : List (ℕ × ℕ)) (a : List ℕ) (q : ℕ) → get_or (sinks a vs) q 0 ≤ get_or a q 0
unfolding sinks
sinks_fall [] a q = omega arith
sinks_fall (v ∷ vs) a q = ⊎_elim (λ e. omega (arith, sinks_fall vs (sink a v) q, e)) (λ t. omega (arith, sinks_fall vs (sink a v) q, t.1)) (sink_cases a v q)

-- no column seen is less
sinks_le : (vs : List (ℕ × ℕ)) (a : List ℕ) (v : ℕ × ℕ) → Memᴰ v vs → v.0 < length a → get_or (sinks a vs) v.0 0 ≤ v.1
unfolding sinks
sinks_le [] a v m h = absurd (Memᴰ.not-nil m)
sinks_le (u ∷ vs) a v (Memᴰ.head e) h = subst (λ (w : ℕ × ℕ). get_or (sinks (sink a w) vs) v.0 0 ≤ v.1) e (omega (arith, sinks_fall vs (sink a v) v.0, sink-at a v h))
sinks_le (u ∷ vs) a v (Memᴰ.tail m) h = sinks_le vs (sink a u) v m (omega (arith, length-sink a u))

-- and what a lane keeps was seen, unless it was there before
sinks-from : (vs : List (ℕ × ℕ)) (a : List ℕ) (q : ℕ) → (get_or (sinks a vs) q 0 ≡ get_or a q 0) ⊎ ((v : ℕ × ℕ) × Memᴰ v vs × (v.0 ≡ q) × (get_or (sinks a vs) q 0 ≡ v.1))
unfolding sinks
sinks-from [] a q = inl refl
sinks-from (v ∷ vs) a q = ⊎_elim (λ e. first e (sink_cases a v q)) (λ t. inr (t.0, Memᴰ.tail t.1, t.2, t.3)) (sinks-from vs (sink a v) q)
  where
    last : ℕ
    last = get_or (sinks (sink a v) vs) q 0

    first : last ≡ get_or (sink a v) q 0 → (get_or (sink a v) q 0 ≡ get_or a q 0) ⊎ ((q ≡ v.0) × (get_or (sink a v) q 0 ≡ min (get_or a q 0) v.1)) → (last ≡ get_or a q 0) ⊎ ((w : ℕ × ℕ) × Memᴰ w (v ∷ vs) × (w.0 ≡ q) × (last ≡ w.1))
    first e (inl f) = inl (e ∙ f)
    first e (inr t) = pick (dec_lt (get_or a q 0) v.1)
      where
        pick : Dec (get_or a q 0 < v.1) → (last ≡ get_or a q 0) ⊎ ((w : ℕ × ℕ) × Memᴰ w (v ∷ vs) × (w.0 ≡ q) × (last ≡ w.1))
        pick (yes l) = inl (omega (arith, e, t.1))
        pick (no l) = inr (v, Memᴰ.head refl, sym t.0, omega (arith, e, t.1))

-- lanes of rows that had no edge
abbrev lanes : ℕ → List (ℕ × ℕ) → List ℕ
lanes rows vs = sinks (replicate rows blank) vs

lane_le : (rows : ℕ) (vs : List (ℕ × ℕ)) (v : ℕ × ℕ) → Memᴰ v vs → v.0 < rows → get_or (lanes rows vs) v.0 0 ≤ v.1
lane_le rows vs v m h = sinks_le vs (replicate rows blank) v m (omega (arith, length-replicate {A = ℕ} rows blank))

lane_from : (rows : ℕ) (vs : List (ℕ × ℕ)) (q : ℕ) → q < rows → (get_or (lanes rows vs) q 0 ≡ blank → ⊥) → (v : ℕ × ℕ) × Memᴰ v vs × (v.0 ≡ q) × (get_or (lanes rows vs) q 0 ≡ v.1)
lane_from rows vs q h n = ⊎_elim (λ e. absurd (n (e ∙ get_or-replicate rows q blank 0 h))) (λ t. t) (sinks-from vs (replicate rows blank) q)

-- ---- a room's edges in lanes

module _ (c : Corner) (ds : List ℕ) (room : IsRoom c ds) (digits : Below 4 ds) (m g right up span rows : ℕ) (ruled : Ruled m g right up (span * g) rows) (stays : Stays ds m (2 * m)) (bx by : ℤ) (ax : Aligned g (c.0 -ℤ pos m) right bx) (ay : Aligned g (c.1 -ℤ pos m) up by) where
  abbrev ox : ℤ
  ox = c.0 -ℤ pos m

  abbrev oy : ℤ
  oy = c.1 -ℤ pos m

  abbrev ends : List (ℕ × ℕ)
  ends = low_ends_from m m ds

  abbrev lo : List ℕ
  lo = lanes rows (lanes_from g up (from_west right) m m ds)

  abbrev hi : List ℕ
  hi = lanes rows (lanes_from g up (from_east (span * g) right) m m ds)

  at_m : (z : ℤ) → z ≡ (z -ℤ pos m) +ℤ pos m
  at_m z = omega (zarith, bal- z (pos m), bal+ (z -ℤ pos m) (pos m))

  keeps : Keeps m m ds (2 * m)
  keeps = record { columns = stays.columns; rows = stays.rows }

  -- the lower end of an edge, and the edge of a lower end
  end_of : (e : Edge) → Memᴰ e (edges_from c ds) → (v : ℕ × ℕ) × Memᴰ v ends × EndOf ox oy e v
  end_of = edge_end (2 * m) ox oy c ds m m (at_m c.0) (at_m c.1) keeps

  edge_of : (v : ℕ × ℕ) → Memᴰ v ends → (e : Edge) × Memᴰ e (edges_from c ds) × EndOf ox oy e v × (0 < v.0) × (v.0 < 2 * m) × (v.1 < 2 * m)
  edge_of = end_edge (2 * m) ox oy c ds m m (at_m c.0) (at_m c.1) keeps

  row_of : (v : ℕ × ℕ) → Memᴰ v ends → (v.1 + up) / g < rows
  row_of v k = (div-lt_iff_lt-mul {k = g} {x = v.1 + up} {y = rows} ruled.some).1 (let w = edge_of v k in omega (arith, w.5, ruled.along))

  low_le : (v : ℕ × ℕ) → Memᴰ v ends → get_or lo ((v.1 + up) / g) 0 ≤ v.0 + right
  low_le v k = lane_le rows (lanes_from g up (from_west right) m m ds) (lane_of g up (from_west right) v) (Memᴰ.map (lane_of g up (from_west right)) k) (row_of v k)

  high_le : (v : ℕ × ℕ) → Memᴰ v ends → get_or hi ((v.1 + up) / g) 0 ≤ span * g - (v.0 + right)
  high_le v k = lane_le rows (lanes_from g up (from_east (span * g) right) m m ds) (lane_of g up (from_east (span * g) right) v) (Memᴰ.map (lane_of g up (from_east (span * g) right)) k) (row_of v k)

  -- what a lane keeps is of a lower end in its row
  from_end : (f : ℕ → ℕ) (q : ℕ) → q < rows → (get_or (lanes rows (lanes_from g up f m m ds)) q 0 ≡ blank → ⊥) → (v : ℕ × ℕ) × Memᴰ v ends × ((v.1 + up) / g ≡ q) × (get_or (lanes rows (lanes_from g up f m m ds)) q 0 ≡ f v.0)
  from_end f q h n =
      let t = lane_from rows (lanes_from g up f m m ds) q h n in
      let r = Memᴰ.of_map (lane_of g up f) ends t.1 in
      (r.0, r.1, ap (λ (z : ℕ × ℕ). z.0) r.2 ∙ t.2, t.3 ∙ ap (λ (z : ℕ × ℕ). z.1) (sym r.2))

  low_some : (q : ℕ) → q < rows → (get_or lo q 0 ≡ blank → ⊥) → get_or hi q 0 ≡ blank → ⊥
  low_some q h n e = let t = from_end (from_west right) q h n in omega (arith, e, subst (λ (k : ℕ). get_or hi k 0 ≤ span * g - (t.0.0 + right)) t.2 (high_le t.0 t.1), ruled.narrow)

  -- a panel inside: its column and height, and lower ends to the west and to the east of it in its row
  record Found (p : Panel) : Type 0 where
    x : ℕ
    y : ℕ
    column : p.0 ≡ ox +ℤ pos x
    height : p.1 ≡ oy +ℤ pos y
    west : ℕ × ℕ
    west_end : Memᴰ west ends
    west_row : west.1 ≡ y
    west_le : west.0 ≤ x
    east : ℕ × ℕ
    east_end : Memᴰ east ends
    east-row : east.1 ≡ y
    east_lt : x < east.0

  found : (p : Panel) → Inside c ds p → Found p
  found p i =
      let a = edge_west c ds p i room.closed in
      let b = edge_east c ds p i in
      let v = end_of a.0 a.1.walked in
      let w = end_of b.0 b.1.walked in
      let x : ℕ = nat_abs (p.0 -ℤ ox) in
      let ex : p.0 ≡ ox +ℤ pos x = above ox p.0 (omega (zarith, a.2, v.2.column, bal+ ox (pos v.0.0))) in
      let ey : p.1 ≡ oy +ℤ pos v.0.1 = sym a.1.row ∙ v.2.height in
      record {
        x = x;
        y = v.0.1;
        column = ex;
        height = ey;
        west = v.0;
        west_end = v.1;
        west_row = refl;
        west_le = omega (zarith, a.2, v.2.column, ex, bal+ ox (pos v.0.0), bal+ ox (pos x));
        east = w.0;
        east_end = w.1;
        east-row = omega (zarith, b.1.row, w.2.height, ey, bal+ oy (pos w.0.1), bal+ oy (pos v.0.1));
        east_lt = omega (zarith, b.2, w.2.column, ex, bal+ ox (pos w.0.0), bal+ ox (pos x));
      }

  -- the row of blocks of a panel inside, and where its block stands in it
  record Placed (p : Panel) : Type 0 where
    row : ℕ
    within : row < rows
    some : get_or lo row 0 ≡ blank → ⊥
    col : ℕ
    column : floor_by g p.0 ≡ bx +ℤ pos col
    height : floor_by g p.1 ≡ by +ℤ pos row
    west : get_or lo row 0 / g ≤ col
    east : col + get_or hi row 0 / g < span

  placed : (p : Panel) → Inside c ds p → Placed p
  placed p i =
      let f = found p i in
      let q : ℕ = (f.y + up) / g in
      let lw : get_or lo q 0 ≤ f.west.0 + right = subst (λ (n : ℕ). get_or lo ((n + up) / g) 0 ≤ f.west.0 + right) f.west_row (low_le f.west f.west_end) in
      let he : get_or hi q 0 ≤ span * g - (f.east.0 + right) = subst (λ (n : ℕ). get_or hi ((n + up) / g) 0 ≤ span * g - (f.east.0 + right)) f.east-row (high_le f.east f.east_end) in
      let b = edge_of f.east f.east_end in
      record {
        row = q;
        within = subst (λ (n : ℕ). (n + up) / g < rows) f.west_row (row_of f.west f.west_end);
        some = λ e. omega (arith, e, lw, f.west_le, f.east_lt, b.4, ruled.across, ruled.narrow);
        col = (f.x + right) / g;
        column = ap (floor_by g) f.column ∙ ax f.x;
        height = ap (floor_by g) f.height ∙ ay f.y;
        west = quotient_le g ruled.some (get_or lo q 0) (f.x + right) (omega (arith, lw, f.west_le));
        east = quotients_below g ruled.some (f.x + right) (get_or hi q 0) span (omega (arith, he, f.east_lt, b.4, ruled.across));
      }

  -- the first block of a row with an edge holds a panel inside
  first_holds : (q : ℕ) → q < rows → (get_or lo q 0 ≡ blank → ⊥) → HoldsInside c ds g (block (bx +ℤ pos (get_or lo q 0 / g)) (by +ℤ pos q))
  first_holds q h n = so (edge_sides c ds room e.0 e.1)
    where
      t : (v : ℕ × ℕ) × Memᴰ v ends × ((v.1 + up) / g ≡ q) × (get_or lo q 0 ≡ v.0 + right)
      t = from_end (from_west right) q h n

      e : (e : Edge) × Memᴰ e (edges_from c ds) × EndOf ox oy e t.0 × (0 < t.0.0) × (t.0.0 < 2 * m) × (t.0.1 < 2 * m)
      e = edge_of t.0 t.1

      so : Inside c ds (east_of_edge e.0) ⊎ Inside c ds (west_of_edge e.0) → HoldsInside c ds g (block (bx +ℤ pos (get_or lo q 0 / g)) (by +ℤ pos q))
      so (inl i) =
          record {
            panel = east_of_edge e.0;
            inside = i;
            block = ap₂ block (ap (floor_by g) e.2.column ∙ ax t.0.0 ∙ ap (λ (k : ℕ). bx +ℤ pos (k / g)) (sym t.3)) (ap (floor_by g) e.2.height ∙ ay t.0.1 ∙ ap (λ (k : ℕ). by +ℤ pos k) t.2);
          }
      so (inr i) =
          let a = edge_west c ds (west_of_edge e.0) i room.closed in
          let v = end_of a.0 a.1.walked in
          let r : v.0.1 ≡ t.0.1 = omega (zarith, a.1.row, v.2.height, e.2.height, bal+ oy (pos v.0.1), bal+ oy (pos t.0.1)) in
          let l : v.0.0 < t.0.0 = omega (zarith, a.2, v.2.column, e.2.column, bal_pred e.0.foot.0, bal+ ox (pos v.0.0), bal+ ox (pos t.0.0)) in
          let k : get_or lo q 0 ≤ v.0.0 + right = subst (λ (n : ℕ). get_or lo n 0 ≤ v.0.0 + right) (ap (λ (n : ℕ). (n + up) / g) r ∙ t.2) (low_le v.0 v.1) in
          absurd (omega (arith, k, l, t.3))

  -- and so does the last
  last_holds : (q x : ℕ) → q < rows → (get_or lo q 0 ≡ blank → ⊥) → span - get_or hi q 0 / g ≡ suc x → HoldsInside c ds g (block (bx +ℤ pos x) (by +ℤ pos q))
  last_holds q x h n s = so (edge_sides c ds room e.0 e.1)
    where
      t : (v : ℕ × ℕ) × Memᴰ v ends × ((v.1 + up) / g ≡ q) × (get_or hi q 0 ≡ span * g - (v.0 + right))
      t = from_end (from_east (span * g) right) q h (low_some q h n)

      e : (e : Edge) × Memᴰ e (edges_from c ds) × EndOf ox oy e t.0 × (0 < t.0.0) × (t.0.0 < 2 * m) × (t.0.1 < 2 * m)
      e = edge_of t.0 t.1

      so : Inside c ds (east_of_edge e.0) ⊎ Inside c ds (west_of_edge e.0) → HoldsInside c ds g (block (bx +ℤ pos x) (by +ℤ pos q))
      so (inr i) =
          let v = t.0 in
          let whole = quotients_whole g ruled.some (v.0 + right) span (omega (arith, e.3)) (omega (arith, e.4, ruled.across)) in
          let less : v.0 - 1 + right ≡ v.0 + right - 1 = omega (arith, e.3) in
          let kept : get_or hi q 0 / g ≡ (span * g - (v.0 + right)) / g = ap (λ (k : ℕ). k / g) t.3 in
          let col : (v.0 - 1 + right) / g ≡ x = ap (λ (k : ℕ). k / g) less ∙ omega (arith, whole, kept, s) in
          let west : pred_ℤ e.0.foot.0 ≡ ox +ℤ pos (v.0 - 1) = omega (zarith, e.2.column, e.3, bal_pred e.0.foot.0, bal+ ox (pos v.0), bal+ ox (pos (v.0 - 1))) in
          record {
            panel = west_of_edge e.0;
            inside = i;
            block = ap₂ block (ap (floor_by g) west ∙ ax (v.0 - 1) ∙ ap (λ (k : ℕ). bx +ℤ pos k) col) (ap (floor_by g) e.2.height ∙ ay v.1 ∙ ap (λ (k : ℕ). by +ℤ pos k) t.2);
          }
      so (inl i) =
          let a = edge_east c ds (east_of_edge e.0) i in
          let v = end_of a.0 a.1.walked in
          let b = edge_of v.0 v.1 in
          let r : v.0.1 ≡ t.0.1 = omega (zarith, a.1.row, v.2.height, e.2.height, bal+ oy (pos v.0.1), bal+ oy (pos t.0.1)) in
          let l : t.0.0 < v.0.0 = omega (zarith, a.2, v.2.column, e.2.column, bal+ ox (pos v.0.0), bal+ ox (pos t.0.0)) in
          let k : get_or hi q 0 ≤ span * g - (v.0.0 + right) = subst (λ (n : ℕ). get_or hi n 0 ≤ span * g - (v.0.0 + right)) (ap (λ (n : ℕ). (n + up) / g) r ∙ t.2) (high_le v.0 v.1) in
          absurd (omega (arith, k, l, t.3, b.4, ruled.across))

  -- rows with edges have no row without one between them
  between : (a b q : ℕ) → a < rows → b < rows → a ≤ q → q ≤ b → (get_or lo a 0 ≡ blank → ⊥) → (get_or lo b 0 ≡ blank → ⊥) → get_or lo q 0 ≡ blank → ⊥
  between a b q ha hb la lb na nb e = so (ℕ_discrete a q)
    where
      up_to : Panel → Bool
      up_to p = le_z p.1 (by +ℤ pos (q - 1))

      so : Dec (a ≡ q) → ⊥
      so (yes f) = na (ap (λ (n : ℕ). get_or lo n 0) f ∙ e)
      so (no f) = over w.edge
        where
          fa : HoldsInside c ds g (block (bx +ℤ pos (get_or lo a 0 / g)) (by +ℤ pos a))
          fa = first_holds a ha na

          fb : HoldsInside c ds g (block (bx +ℤ pos (get_or lo b 0 / g)) (by +ℤ pos b))
          fb = first_holds b hb nb

          w : Leaves (HoldsInside c ds g) up_to
          w =
              joined_leaves (HoldsInside c ds g) (block (bx +ℤ pos (get_or lo a 0 / g)) (by +ℤ pos a)) fa up_to
              (true_le (by +ℤ pos a) (by +ℤ pos (q - 1)) (omega (zarith, la, f, bal+ by (pos a), bal+ by (pos (q - 1)))))
              (block (bx +ℤ pos (get_or lo b 0 / g)) (by +ℤ pos b))
              (blocks_connected g ruled.some c ds room digits _ _ fa fb)
              (is_false _ (λ z. let k = le_true {a = by +ℤ pos b} {b = by +ℤ pos (q - 1)} z in omega (zarith, k, la, lb, f, bal+ by (pos b), bal+ by (pos (q - 1)))))

          in_it : w.from.1 ≤ℤ (by +ℤ pos (q - 1))
          in_it = le_true w.in_it

          off_it : (by +ℤ pos (q - 1)) <ℤ w.to.1
          off_it = le_false w.to.1 (by +ℤ pos (q - 1)) w.off_it

          over : Beside w.from w.to → ⊥
          over (joined_laws.north x y) =
              let k = placed w.to_one.panel w.to_one.inside in
              let r : k.row ≡ q = omega (zarith, la, f, in_it, off_it, y, k.height, ap (λ (z : Panel). z.1) w.to_one.block, bal_suc w.from.1, bal+ by (pos k.row), bal+ by (pos (q - 1))) in
              k.some (ap (λ (n : ℕ). get_or lo n 0) r ∙ e)
          over (joined_laws.west x y) = omega (zarith, in_it, off_it, y)
          over (joined_laws.south x y) = omega (zarith, in_it, off_it, y, bal_suc w.to.1)
          over (joined_laws.east x y) = omega (zarith, in_it, off_it, y)

  some_panel : (p : Panel) × Inside c ds p
  some_panel =
      ⊎_elim
      (λ k. (left_of (get_or ds 0 0) c, (first_step (λ d q. Inside c ds (left_of d q) × (Inside c ds (right_of d q) → ⊥)) c ds (omega (arith, room.four)) k.0).0))
      (λ k. (right_of (get_or ds 0 0) c, (first_step (λ d q. Inside c ds (right_of d q) × (Inside c ds (left_of d q) → ⊥)) c ds (omega (arith, room.four)) k.0).0))
      (room-counts c ds room)

  -- between the first and the last row with an edge, the lanes are the ends of the rows
  module _ (south north : ℕ) (before : EmptyBefore lo south) (after : EmptyFrom lo north) (size : length lo ≡ rows) where
    in_rows : (q : ℕ) → q < rows → (get_or lo q 0 ≡ blank → ⊥) → (south ≤ q) × (q < north)
    in_rows q h n = (low (dec_lt q south), high (dec_lt q north))
      where
        low : Dec (q < south) → south ≤ q
        low (yes l) = absurd (n (before.before q l))
        low (no l) = omega arith

        high : Dec (q < north) → q < north
        high (yes l) = l
        high (no l) = absurd (n (after.after q (omega arith) (omega (arith, size))))

    pub some_rows : south < north
    some_rows = let p = some_panel in let k = placed p.0 p.1 in let b = in_rows k.row k.within k.some in omega (arith, b.0, b.1)

    used : (q : ℕ) → south ≤ q → q < north → get_or lo q 0 ≡ blank → ⊥
    used q h l =
        let s = some_rows in
        between south (north - 1) q (omega (arith, s, after.within, size)) (omega (arith, s, after.within, size)) h (omega arith) (before.here (omega (arith, s, after.within))) (after.here (omega (arith, s)))

    pub row_ends : (a b : List ℕ) → ((q : ℕ) → q < north - south → get_or a q 0 ≡ get_or lo (south + q) 0) → ((q : ℕ) → q < north - south → get_or b q 0 ≡ get_or hi (south + q) 0)
        → RowEnds (HoldsInside c ds g) (corner bx (by +ℤ pos south)) (λ q. get_or a q 0 / g) (λ q. span - get_or b q 0 / g) (north - south - 1)
    row_ends a b ea eb = record { wide = wide; within = within; first = first; last = last }
      where
        s : south < north
        s = some_rows

        up_by : (q : ℕ) → by +ℤ pos (south + q) ≡ (by +ℤ pos south) +ℤ pos q
        up_by q = omega (zarith, bal+ by (pos (south + q)), bal+ by (pos south), bal+ (by +ℤ pos south) (pos q))

        in_it : (q : ℕ) → q ≤ north - south - 1 → south + q < rows
        in_it q h = omega (arith, s, after.within, size)

        first : (q : ℕ) → q ≤ north - south - 1 → HoldsInside c ds g (block (bx +ℤ pos (get_or a q 0 / g)) ((by +ℤ pos south) +ℤ pos q))
        first q h =
            subst (λ (z : ℤ). HoldsInside c ds g (block (bx +ℤ pos (get_or a q 0 / g)) z)) (up_by q)
            (subst (λ (n : ℕ). HoldsInside c ds g (block (bx +ℤ pos (n / g)) (by +ℤ pos (south + q)))) (sym (ea q (omega (arith, s)))) (first_holds (south + q) (in_it q h) (used (south + q) (omega arith) (omega (arith, s)))))

        last : (q x : ℕ) → q ≤ north - south - 1 → span - get_or b q 0 / g ≡ suc x → HoldsInside c ds g (block (bx +ℤ pos x) ((by +ℤ pos south) +ℤ pos q))
        last q x h e =
            subst (λ (z : ℤ). HoldsInside c ds g (block (bx +ℤ pos x) z)) (up_by q)
            (last_holds (south + q) x (in_it q h) (used (south + q) (omega arith) (omega (arith, s))) (ap (λ (n : ℕ). span - n / g) (sym (eb q (omega (arith, s)))) ∙ e))

        within : (p : Panel) → HoldsInside c ds g p → InPile (corner bx (by +ℤ pos south)) (λ q. get_or a q 0 / g) (λ q. span - get_or b q 0 / g) (north - south - 1) p
        within p w =
            let k = placed w.panel w.inside in
            let r = in_rows k.row k.within k.some in
            let q : ℕ = k.row - south in
            let back : south + q ≡ k.row = omega (arith, r.0) in
            let l : q < north - south = omega (arith, r.0, r.1) in
            let va : get_or a q 0 / g ≡ get_or lo k.row 0 / g = ap (λ (n : ℕ). n / g) (ea q l ∙ ap (λ (n : ℕ). get_or lo n 0) back) in
            let vb : get_or b q 0 / g ≡ get_or hi k.row 0 / g = ap (λ (n : ℕ). n / g) (eb q l ∙ ap (λ (n : ℕ). get_or hi n 0) back) in
            let x : p.0 ≡ bx +ℤ pos k.col = ap (λ (z : Panel). z.0) (sym w.block) ∙ k.column in
            record {
              row = q;
              among = omega (arith, l);
              level = ap (λ (z : Panel). z.1) (sym w.block) ∙ k.height ∙ ap (λ (n : ℕ). by +ℤ pos n) (sym back) ∙ up_by q;
              west = omega (zarith, x, va, k.west, bal+ bx (pos k.col), bal+ bx (pos (get_or a q 0 / g)));
              east = omega (zarith, x, vb, k.east, bal+ bx (pos k.col), bal+ bx (pos (span - get_or b q 0 / g)));
            }

        wide : (q : ℕ) → q ≤ north - south - 1 → get_or a q 0 / g < span - get_or b q 0 / g
        wide q h =
            let i = within (block (bx +ℤ pos (get_or a q 0 / g)) ((by +ℤ pos south) +ℤ pos q)) (first q h) in
            let e : i.row ≡ q = omega (zarith, i.level, bal+ (by +ℤ pos south) (pos q), bal+ (by +ℤ pos south) (pos i.row)) in
            subst (λ (n : ℕ). get_or a q 0 / g < span - get_or b n 0 / g) e (omega (zarith, i.east, bal+ bx (pos (get_or a q 0 / g)), bal+ bx (pos (span - get_or b i.row 0 / g))))

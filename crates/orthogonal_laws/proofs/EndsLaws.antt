-- The blocks of a room have rows with ends, and the chain around the rows of their hull outlines it.
-- Assumes nothing.
use mathlib.Core.Bool.{Bool, true, false, true≢false, ◌&&◌}
use mathlib.Core.List.Memᴰ
use mathlib.Core.List.{List, [], ◌∷◌, Memᴰ}
use mathlib.Core.Logic.{⊎_elim}
use mathlib.Core.Path.{◌≡◌, refl, ap, ap₂, sym, ◌∙◌, subst}
use Prim.Native.Nat.{ℕ, suc, ◌%◌, ◌<◌, ◌≤◌}
use native.Mathlib.Decide.{dec_lt}
use native.Mathlib.Omega.{arith}
use borrow.Author.Tests.{eqb-true}
use lib.IntN.{ℤ, pos, neg_ℤ, nat_abs, ◌+ℤ◌, ◌-ℤ◌}
use lib.Signed.{◌≤ℤ◌, ◌<ℤ◌, le_z}
use Rattle.int_laws.proofs.LinearLaws.{zarith, bal+, neg_nat, le_or_lt}
use Rattle.int_laws.proofs.NextLaws.{le_false, above}
use Rattle.int_laws.proofs.RangeLaws.{le_true}
use Rattle.lists.specs.Lists.{Below}
use Rattle.lists.proofs.BoolLaws.{is_false}
use Rattle.lists.proofs.CountLaws.{count_some}
use Rattle.lists.proofs.GatherLaws.{and_left, and_right}
use Rattle.grid.specs.declared.{Corner.Corner, Panel.Panel}
use Rattle.grid.specs.Grid.{corner, eq_z}
use Rattle.grid.proofs.CornerLaws.{eq_z_sound, eq_z_refl}
use Rattle.trace.specs.Verdict.{IsRoom}
use Rattle.panels.specs.Box.{box_of, panels_in}
use Rattle.panels.specs.Inside.{edges_beside, Inside, inside}
use Rattle.room_laws.proofs.InsideLaws.{inside_found}
use Rattle.room_laws.proofs.RoomLaws.{room_some}
use Rattle.orthogonal.specs.Blocks.{floor_by, block, block_of, HoldsInside}
use Rattle.orthogonal_chain_laws.specs.Chain.{InPile}
use Rattle.orthogonal_laws.specs.HullRows.{RowEnds}
use Rattle.orthogonal_laws.proofs.JoinedLaws.{Leaves, joined_leaves, true_le, near-both, edge_border}
use Rattle.orthogonal_laws.proofs.BlockLaws.{blocks_connected, holds_of}

-- of those that pass a test one has the least value
module _ (P : Panel → Bool) (f : Panel → ℤ) where
  abbrev Least : List Panel → Panel → Type 0
  Least xs x = (m : Panel) × (P m ≡ true) × (f m ≤ℤ f x) × ((y : Panel) → Memᴰ y xs → P y ≡ true → f m ≤ℤ f y)

  least_of : (xs : List Panel) (x : Panel) → P x ≡ true → Least xs x
  least_of [] x e = (x, e, omega zarith, λ y m. absurd (Memᴰ.not-nil m))
  least_of (a ∷ xs) x e = by (P a) refl (λ e. least_of xs a e) (least_of xs x e)
    where
      by : (p : Bool) → P a ≡ p → (P a ≡ true → Least xs a) → Least xs x → Least (a ∷ xs) x
      by false q new old =
          (old.0, old.1, old.2, λ y m g. ⊎_elim (λ z. absurd (true≢false (sym g ∙ ap P z ∙ q))) (λ z. old.3 y z g) (Memᴰ.cases_cons m))
      by true q new old =
          let k = new q in
          ⊎_elim
          (λ l. (old.0, old.1, old.2, λ y m g. ⊎_elim (λ z. subst (λ (w : Panel). f old.0 ≤ℤ f w) (sym z) (let u = old.2 in omega (zarith, u, l))) (λ z. old.3 y z g) (Memᴰ.cases_cons m)))
          (λ l. (k.0, k.1, (let u = k.2 in omega (zarith, u, l)), λ y m g. ⊎_elim (λ z. subst (λ (w : Panel). f k.0 ≤ℤ f w) (sym z) k.2) (λ z. k.3 y z g) (Memᴰ.cases_cons m)))
          (le_or_lt (f x) (f a))

-- ---- the rows of a room's blocks

module _ (c : Corner) (ds : List ℕ) (r : IsRoom c ds) (b : Below 4 ds) (g : ℕ) (some : 0 < g) where
  abbrev fx : Panel → ℤ
  fx u = floor_by g u.0

  abbrev fy : Panel → ℤ
  fy u = floor_by g u.1

  yes_inside : (u : Panel) → inside c ds u ≡ true → Inside c ds u
  yes_inside u e = eqb-true (edges_beside c ds u % 2) 1 e

  -- of the panels inside that pass a test
  abbrev Outermost : (Panel → Bool) → (Panel → ℤ) → Type 0
  Outermost P f = (m : Panel) × Inside c ds m × (P m ≡ true) × ((y : Panel) → Inside c ds y → P y ≡ true → f m ≤ℤ f y)

  outermost : (P : Panel → Bool) (f : Panel → ℤ) (x : Panel) → Inside c ds x → P x ≡ true → Outermost P f
  outermost P f x i e =
      let Q : Panel → Bool = λ u. inside c ds u && P u in
      let k = least_of Q f (panels_in (box_of c ds)) x (ap₂ ◌&&◌ (inside_found c ds r.closed x i).1 e) in
      (k.0, yes_inside k.0 (and_left (inside c ds k.0) (P k.0) k.1), and_right (inside c ds k.0) (P k.0) k.1, λ y j p. let w = inside_found c ds r.closed y j in k.3 y w.0 (ap₂ ◌&&◌ w.1 p))

  -- a panel inside
  one : (m : Panel) × Inside c ds m
  one = let k = count_some (inside c ds) (panels_in (box_of c ds)) (room_some c ds r) in (k.0, yes_inside k.0 k.2)

  -- the westernmost block, the lowest and the highest
  west : Outermost (λ u. true) fx
  west = outermost (λ u. true) fx one.0 one.1 refl

  low : Outermost (λ u. true) fy
  low = outermost (λ u. true) fy one.0 one.1 refl

  high : Outermost (λ u. true) (λ u. neg_ℤ (fy u))
  high = outermost (λ u. true) (λ u. neg_ℤ (fy u)) one.0 one.1 refl

  abbrev o : Corner
  o = corner (fx west.0) (fy low.0)

  abbrev t : ℕ
  t = nat_abs (fy high.0 -ℤ fy low.0)

  top : fy high.0 ≡ o.1 +ℤ pos t
  top = above (fy low.0) (fy high.0) (low.3 high.0 high.1 refl)

  below_top : (y : Panel) → Inside c ds y → fy y ≤ℤ (o.1 +ℤ pos t)
  below_top y i = let h = high.3 y i refl in omega (zarith, h, top, neg_nat (fy high.0), neg_nat (fy y))

  -- every row from the lowest to the highest has a block
  row_some : (q : ℕ) → q ≤ t → (u : Panel) × Inside c ds u × (fy u ≡ o.1 +ℤ pos q)
  row_some q h =
      elim (dec_lt q t) [
        | yes l ↦ lower l
        | no l ↦ let e : t ≡ q = omega arith in (high.0, high.1, top ∙ ap (λ (i : ℕ). o.1 +ℤ pos i) e)
      ]
    where
      lower : q < t → (u : Panel) × Inside c ds u × (fy u ≡ o.1 +ℤ pos q)
      lower l =
          let B : Panel → Type 0 = HoldsInside c ds g in
          let i = holds_of g some c ds low.0 low.1 in
          let j = holds_of g some c ds high.0 high.1 in
          let w : Leaves B (λ u. le_z u.1 (o.1 +ℤ pos q)) =
          joined_leaves B (block_of g low.0) i (λ u. le_z u.1 (o.1 +ℤ pos q)) (true_le (fy low.0) (o.1 +ℤ pos q) (omega (zarith, bal+ o.1 (pos q))))
          (block_of g high.0) (blocks_connected g some c ds r b (block_of g low.0) (block_of g high.0) i j)
          (is_false (le_z (fy high.0) (o.1 +ℤ pos q)) (λ e. let k = le_true {a = fy high.0} {b = o.1 +ℤ pos q} e in omega (zarith, k, top, bal+ o.1 (pos q), bal+ o.1 (pos t)))) in
          let x : w.from.1 ≤ℤ (o.1 +ℤ pos q) = le_true w.in_it in
          let y : (o.1 +ℤ pos q) <ℤ w.to.1 = le_false w.to.1 (o.1 +ℤ pos q) w.off_it in
          let p = w.from_one in
          (p.panel, p.inside, ap (λ (a : Panel). a.1) p.block ∙ edge_border w.from.1 w.to.1 (o.1 +ℤ pos q) x y (near-both w.from w.to w.edge).1)

  -- the ends of a row
  record RowAt (q : ℕ) : Type 0 where
    first : Panel
    last : Panel
    first_in : Inside c ds first
    last_in_lem : Inside c ds last
    first-row : fy first ≡ o.1 +ℤ pos q
    last_row : fy last ≡ o.1 +ℤ pos q
    least : (y : Panel) → Inside c ds y → fy y ≡ o.1 +ℤ pos q → fx first ≤ℤ fx y
    most : (y : Panel) → Inside c ds y → fy y ≡ o.1 +ℤ pos q → fx y ≤ℤ fx last

  row_at : (q : ℕ) → q ≤ t → RowAt q
  row_at q h =
      record {
        first = m.0;
        last = n.0;
        first_in = m.1;
        last_in_lem = n.1;
        first-row = eq_z_sound (fy m.0) (o.1 +ℤ pos q) m.2;
        last_row = eq_z_sound (fy n.0) (o.1 +ℤ pos q) n.2;
        least = λ y i e. m.3 y i (in_row y e);
        most = λ y i e. let k = n.3 y i (in_row y e) in omega (zarith, k, neg_nat (fx n.0), neg_nat (fx y));
      }
    where
      s : (u : Panel) × Inside c ds u × (fy u ≡ o.1 +ℤ pos q)
      s = row_some q h

      in_row : (y : Panel) → fy y ≡ o.1 +ℤ pos q → eq_z (fy y) (o.1 +ℤ pos q) ≡ true
      in_row y e = ap (λ (z : ℤ). eq_z z (o.1 +ℤ pos q)) e ∙ eq_z_refl (o.1 +ℤ pos q)

      m : Outermost (λ u. eq_z (fy u) (o.1 +ℤ pos q)) fx
      m = outermost (λ u. eq_z (fy u) (o.1 +ℤ pos q)) fx s.0 s.1 (in_row s.0 s.2)

      n : Outermost (λ u. eq_z (fy u) (o.1 +ℤ pos q)) (λ u. neg_ℤ (fx u))
      n = outermost (λ u. eq_z (fy u) (o.1 +ℤ pos q)) (λ u. neg_ℤ (fx u)) s.0 s.1 (in_row s.0 s.2)

  -- as columns from the west end
  abbrev column : Panel → ℕ
  column u = nat_abs (fx u -ℤ o.0)

  at-column : (u : Panel) → Inside c ds u → fx u ≡ o.0 +ℤ pos (column u)
  at-column u i = above o.0 (fx u) (west.3 u i refl)

  row_by : (q : ℕ) → (t < q → ⊥) → RowAt q
  row_by q h = row_at q (elim (dec_lt t q) [ yes l ↦ absurd (h l) | no l ↦ omega arith ])

  abbrev left_by : (q : ℕ) → Dec (t < q) → ℕ
  left_by q (yes h) = 0
  left_by q (no h) = column (row_by q h).first

  abbrev right_by : (q : ℕ) → Dec (t < q) → ℕ
  right_by q (yes h) = 0
  right_by q (no h) = suc (column (row_by q h).last)

  abbrev left : ℕ → ℕ
  left q = left_by q (dec_lt t q)

  abbrev right : ℕ → ℕ
  right q = right_by q (dec_lt t q)

  ends_at : (q : ℕ) → q ≤ t → (w : RowAt q) × (left q ≡ column w.first) × (right q ≡ suc (column w.last))
  ends_at q h = by (dec_lt t q)
    where
      by : (x : Dec (t < q)) → (w : RowAt q) × (left_by q x ≡ column w.first) × (right_by q x ≡ suc (column w.last))
      by (yes l) = absurd (omega (arith, h, l))
      by (no l) = (row_by q l, refl, refl)

  ends : RowEnds (HoldsInside c ds g) o left right t
  ends = record { wide = wide; within = within; first = first; last = last }
    where
      wide : (q : ℕ) → q ≤ t → left q < right q
      wide q h =
          let e = ends_at q h in
          let w = e.0 in
          let k = w.least w.last w.last_in_lem w.last_row in
          let a = at-column w.first w.first_in in
          let z = at-column w.last w.last_in_lem in
          omega (zarith, e.1, e.2, k, a, z, bal+ o.0 (pos (column w.first)), bal+ o.0 (pos (column w.last)))

      within : (p : Panel) → HoldsInside c ds g p → InPile o left right t p
      within p k = subst (InPile o left right t) k.block (at_row k.panel k.inside)
        where
          at_row : (u : Panel) → Inside c ds u → InPile o left right t (block_of g u)
          at_row u i =
              let q : ℕ = nat_abs (fy u -ℤ o.1) in
              let level : fy u ≡ o.1 +ℤ pos q = above o.1 (fy u) (low.3 u i refl) in
              let among : q ≤ t = let k = below_top u i in omega (zarith, k, level, bal+ o.1 (pos q), bal+ o.1 (pos t)) in
              let e = ends_at q among in
              let w = e.0 in
              let x = w.least u i level in
              let y = w.most u i level in
              let a = at-column w.first w.first_in in
              let z = at-column w.last w.last_in_lem in
              record {
                row = q;
                among = among;
                level = level;
                west = omega (zarith, x, a, e.1, bal+ o.0 (pos (left q)), bal+ o.0 (pos (column w.first)));
                east = omega (zarith, y, z, e.2, bal+ o.0 (pos (right q)), bal+ o.0 (pos (column w.last)));
              }

      first : (q : ℕ) → q ≤ t → HoldsInside c ds g (block (o.0 +ℤ pos (left q)) (o.1 +ℤ pos q))
      first q h =
          let e = ends_at q h in
          let w = e.0 in
          record { panel = w.first; inside = w.first_in; block = ap₂ block (at-column w.first w.first_in ∙ ap (λ (i : ℕ). o.0 +ℤ pos i) (sym e.1)) w.first-row }

      last : (q x : ℕ) → q ≤ t → right q ≡ suc x → HoldsInside c ds g (block (o.0 +ℤ pos x) (o.1 +ℤ pos q))
      last q x h f =
          let e = ends_at q h in
          let w = e.0 in
          let z : column w.last ≡ x = omega (arith, e.2, f) in
          record { panel = w.last; inside = w.last_in_lem; block = ap₂ block (at-column w.last w.last_in_lem ∙ ap (λ (i : ℕ). o.0 +ℤ pos i) z) w.last_row }

  -- the rows of the blocks have ends
  pub room-ends : (o : Corner) × (l : ℕ → ℕ) × (r : ℕ → ℕ) × (t : ℕ) × RowEnds (HoldsInside c ds g) o l r t
  room-ends = (o, left, right, t, ends)

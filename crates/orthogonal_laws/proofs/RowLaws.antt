-- The hull of a connected set by rows: from the ends of its rows, by the least and the greatest of those up to a row and from it on.
-- Assumes nothing.
use mathlib.Core.Bool.{Bool, true, false}
use mathlib.Core.Logic.{◌⊎◌, inl, inr, ⊎_elim, ◌↔◌}
use mathlib.Core.Path.{◌≡◌, refl, ap, ◌∙◌, subst}
use Prim.Native.Nat.{ℕ, zero, suc, ◌+◌, ◌-◌, ◌≤◌, ◌<◌, min, max}
use native.Mathlib.Decide.{dec_lt}
use native.Mathlib.Omega.{arith}
use lib.IntN.{ℤ, pos, nat_abs, ◌+ℤ◌, ◌-ℤ◌}
use lib.Signed.{◌≤ℤ◌, ◌<ℤ◌, le_z}
use Rattle.int_laws.proofs.LinearLaws.{zarith, bal+}
use Rattle.int_laws.proofs.NextLaws.{bal_suc, le_false, above}
use Rattle.int_laws.proofs.RangeLaws.{le_true}
use Rattle.grid.specs.declared.{Corner.Corner, Panel.Panel}
use Rattle.orthogonal.specs.Blocks.{block, Contains, Unbroken, Passing, OrthogonalHullIs}
use Rattle.orthogonal_chain_laws.specs.Chain.{Piled, InPile, Bulges}
use Rattle.orthogonal_laws.specs.Connected.{Connected, Holding, Quadrants}
use Rattle.orthogonal_laws.specs.HullRows.{pick_over, least_over, most_over, hull_left, hull_right, RowEnds}
use Rattle.lists.proofs.BoolLaws.{is_false}
use Rattle.orthogonal_laws.proofs.JoinedLaws.{Beside, Leaves, joined_leaves, quadrants_in, true_le}
use Rattle.orthogonal_laws.proofs.JoinedLaws as joined_laws
use Rattle.orthogonal_laws.proofs.RowCases as cases

-- what is picked of some numbers
module _ (pick : ℕ → ℕ → ℕ) (f : ℕ → ℕ) where
  -- one of them
  over-one : ((a b : ℕ) → (pick a b ≡ a) ⊎ (pick a b ≡ b)) → (m n : ℕ) → (q : ℕ) × (m ≤ q) × (q ≤ m + n) × (pick_over pick f m n ≡ f q)
  over-one w m zero = (m, omega arith, omega arith, refl)
  over-one w m (suc n) =
      let k = over-one w (suc m) n in
      ⊎_elim (λ e. (m, omega arith, omega arith, e)) (λ e. (k.0, omega (arith, k.1), omega (arith, k.2), e ∙ k.3)) (w (f m) (pick_over pick f (suc m) n))

  -- as R says of it and each of two, so of it and each of them
  over-all : (R : ℕ → ℕ → Type 0) → ((a : ℕ) → R a a) → ((a b c : ℕ) → R (pick a b) a × (R b c → R (pick a b) c)) → (m n q : ℕ) → m ≤ q → q ≤ m + n → R (pick_over pick f m n) (f q)
  over-all R same each m zero q h k = let e : m ≡ q = omega arith in subst (λ (x : ℕ). R (f m) (f x)) e (same (f m))
  over-all R same each m (suc n) q h k =
      elim (dec_lt m q) [
        | yes l ↦ (each (f m) (pick_over pick f (suc m) n) (f q)).1 (over-all R same each (suc m) n q (omega arith) (omega arith))
        | no l ↦ let e : m ≡ q = omega arith in subst (λ (x : ℕ). R (pick_over pick f m (suc n)) (f x)) e (each (f m) (pick_over pick f (suc m) n) (f q)).0
      ]

  -- one more of them
  over-next : ((a b c : ℕ) → pick a (pick b c) ≡ pick (pick a b) c) → (m n : ℕ) → pick_over pick f m (suc n) ≡ pick (pick_over pick f m n) (f (suc (m + n)))
  over-next w m zero = let e : suc m ≡ suc (m + 0) = omega arith in ap (λ (x : ℕ). pick (f m) (f x)) e
  over-next w m (suc n) =
      let e : suc (suc m + n) ≡ suc (m + suc n) = omega arith in
      ap (pick (f m)) (over-next w (suc m) n ∙ ap (λ (x : ℕ). pick (pick_over pick f (suc m) n) (f x)) e) ∙ w (f m) (pick_over pick f (suc m) n) (f (suc (m + suc n)))

min_one : (a b : ℕ) → (min a b ≡ a) ⊎ (min a b ≡ b)
min_one a b = elim (dec_lt a b) [ yes l ↦ inl (omega arith) | no l ↦ inr (omega arith) ]

max_one : (a b : ℕ) → (max a b ≡ a) ⊎ (max a b ≡ b)
max_one a b = elim (dec_lt a b) [ yes l ↦ inr (omega arith) | no l ↦ inl (omega arith) ]

module _ (f : ℕ → ℕ) where
  least_below : (m n q : ℕ) → m ≤ q → q ≤ m + n → least_over f m n ≤ f q
  least_below = over-all min f (λ a b. a ≤ b) (λ a. omega arith) (λ a b c. (omega arith, λ h. omega arith))

  most_above : (m n q : ℕ) → m ≤ q → q ≤ m + n → f q ≤ most_over f m n
  most_above = over-all max f (λ a b. b ≤ a) (λ a. omega arith) (λ a b c. (omega arith, λ h. omega arith))

  pub least_next : (m n : ℕ) → least_over f m (suc n) ≡ min (least_over f m n) (f (suc (m + n)))
  least_next = over-next min f (λ a b c. omega arith)

  -- more rows, less or more
  least_wider : (m n i j : ℕ) → i ≤ m → m + n ≤ i + j → least_over f i j ≤ least_over f m n
  least_wider m n i j h k = let x = over-one min f min_one m n in let g = least_below i j x.0 (omega (arith, x.1)) (omega (arith, x.2)) in omega (arith, g, x.3)

  most_wider : (m n i j : ℕ) → i ≤ m → m + n ≤ i + j → most_over f m n ≤ most_over f i j
  most_wider m n i j h k = let x = over-one max f max_one m n in let g = most_above i j x.0 (omega (arith, x.1)) (omega (arith, x.2)) in omega (arith, g, x.3)

  -- the ends of a row of the hull lie no further in than those of the row
  pub left_out : (t q : ℕ) → q ≤ t → hull_left f t q ≤ f q
  left_out t q h = let a = least_below 0 q q (omega arith) (omega arith) in let b = least_below q (t - q) q (omega arith) (omega arith) in omega (arith, a, b)

  pub right-out : (t q : ℕ) → q ≤ t → f q ≤ hull_right f t q
  right-out t q h = let a = most_above 0 q q (omega arith) (omega arith) in let b = most_above q (t - q) q (omega arith) (omega arith) in omega (arith, a, b)

  -- a row between two others reaches as far out as one of them
  left_between : (t i q j : ℕ) → i ≤ q → q ≤ j → j ≤ t → hull_left f t q ≤ max (hull_left f t i) (hull_left f t j)
  left_between t i q j h k l =
      let a = least_wider 0 i 0 q (omega arith) (omega arith) in
      let b = least_wider j (t - j) q (t - q) (omega arith) (omega arith) in
      omega (arith, a, b)

  right_between : (t i q j : ℕ) → i ≤ q → q ≤ j → j ≤ t → min (hull_right f t i) (hull_right f t j) ≤ hull_right f t q
  right_between t i q j h k l =
      let a = most_wider 0 i 0 q (omega arith) (omega arith) in
      let b = most_wider j (t - j) q (t - q) (omega arith) (omega arith) in
      omega (arith, a, b)

-- the ends of the hull's rows go out up to the row that reaches furthest, and in after it
pub hull_bulges : (l r : ℕ → ℕ) (t : ℕ) → (k : ℕ) × (j : ℕ) × Bulges (hull_left l t) (hull_right r t) t k j
hull_bulges l r t = (k.0, j.0, record { left = omega (arith, k.2); left_falls = falls; left_rises = rises; right = omega (arith, j.2); right_rises = grows; right_falls = shrinks })
  where
    k : (q : ℕ) × (0 ≤ q) × (q ≤ 0 + t) × (least_over l 0 t ≡ l q)
    k = over-one min l min_one 0 t

    j : (q : ℕ) × (0 ≤ q) × (q ≤ 0 + t) × (most_over r 0 t ≡ r q)
    j = over-one max r max_one 0 t

    falls : (q : ℕ) → q < k.0 → hull_left l t (suc q) ≤ hull_left l t q
    falls q h =
        let a = least_wider l 0 q 0 (suc q) (omega arith) (omega arith) in
        let b = least_below l (suc q) (t - suc q) k.0 (omega arith) (omega (arith, k.2)) in
        let c = least_wider l 0 (suc q) 0 t (omega arith) (omega (arith, k.2)) in
        omega (arith, a, b, c, k.3)

    rises : (q : ℕ) → k.0 ≤ q → q < t → hull_left l t q ≤ hull_left l t (suc q)
    rises q h i =
        let a = least_wider l (suc q) (t - suc q) q (t - q) (omega arith) (omega arith) in
        let b = least_below l 0 q k.0 (omega (arith, k.1)) (omega arith) in
        let c = least_wider l q (t - q) 0 t (omega arith) (omega arith) in
        omega (arith, a, b, c, k.3)

    grows : (q : ℕ) → q < j.0 → hull_right r t q ≤ hull_right r t (suc q)
    grows q h =
        let a = most_wider r 0 q 0 (suc q) (omega arith) (omega arith) in
        let b = most_above r (suc q) (t - suc q) j.0 (omega arith) (omega (arith, j.2)) in
        let c = most_wider r 0 (suc q) 0 t (omega arith) (omega (arith, j.2)) in
        omega (arith, a, b, c, j.3)

    shrinks : (q : ℕ) → j.0 ≤ q → q < t → hull_right r t (suc q) ≤ hull_right r t q
    shrinks q h i =
        let a = most_wider r (suc q) (t - suc q) q (t - q) (omega arith) (omega arith) in
        let b = most_above r 0 q j.0 (omega (arith, j.1)) (omega arith) in
        let c = most_wider r q (t - q) 0 t (omega arith) (omega arith) in
        omega (arith, a, b, c, j.3)

-- ---- the rows of a connected set

-- two heights in one row
level-same : (y : ℤ) (a b : ℕ) {z : ℤ} → z ≡ y +ℤ pos a → z ≡ y +ℤ pos b → a ≡ b
level-same y a b e f = omega (zarith, e, f, bal+ y (pos a), bal+ y (pos b))

module _ (B : Panel → Type 0) (joined : Connected B) (o : Corner) (l r : ℕ → ℕ) (t : ℕ) (ends : RowEnds B o l r t) where
  abbrev up_to : ℕ → Panel → Bool
  up_to q u = le_z u.1 (o.1 +ℤ pos q)

  -- the row of a block that is in it
  in_row : (p : Panel) → B p → (q : ℕ) → p.1 ≡ o.1 +ℤ pos q → ((o.0 +ℤ pos (l q)) ≤ℤ p.0) × (p.0 <ℤ (o.0 +ℤ pos (r q)))
  in_row p b q e =
      let w = ends.within p b in
      let z : w.row ≡ q = level-same o.1 w.row q w.level e in
      (subst (λ (i : ℕ). (o.0 +ℤ pos (l i)) ≤ℤ p.0) z w.west, subst (λ (i : ℕ). p.0 <ℤ (o.0 +ℤ pos (r i))) z w.east)

  -- from each row to the next there is a way north
  rows-linked : (q : ℕ) → q < t → (l q < r (suc q)) × (l (suc q) < r q)
  rows-linked q h = by w.edge
    where
      low : up_to q (block (o.0 +ℤ pos (l q)) (o.1 +ℤ pos q)) ≡ true
      low = true_le (o.1 +ℤ pos q) (o.1 +ℤ pos q) (omega zarith)

      high : up_to q (block (o.0 +ℤ pos (l (suc q))) (o.1 +ℤ pos (suc q))) ≡ false
      high = is_false _ (λ e. let g = le_true {a = o.1 +ℤ pos (suc q)} {b = o.1 +ℤ pos q} e in omega (zarith, g, bal+ o.1 (pos (suc q)), bal+ o.1 (pos q)))

      w : Leaves B (up_to q)
      w =
          let b = ends.first q (omega arith) in
          let c = ends.first (suc q) (omega arith) in
          joined_leaves B (block (o.0 +ℤ pos (l q)) (o.1 +ℤ pos q)) b (up_to q) low (block (o.0 +ℤ pos (l (suc q))) (o.1 +ℤ pos (suc q))) (joined _ _ b c) high

      in_it : w.from.1 ≤ℤ (o.1 +ℤ pos q)
      in_it = le_true w.in_it

      off_it : (o.1 +ℤ pos q) <ℤ w.to.1
      off_it = le_false w.to.1 (o.1 +ℤ pos q) w.off_it

      by : Beside w.from w.to → (l q < r (suc q)) × (l (suc q) < r q)
      by (joined_laws.north e f) =
          let g : w.from.1 ≡ o.1 +ℤ pos q = omega (zarith, in_it, off_it, f, bal_suc w.from.1) in
          let k : w.to.1 ≡ o.1 +ℤ pos (suc q) = omega (zarith, g, f, bal_suc w.from.1, bal+ o.1 (pos (suc q)), bal+ o.1 (pos q)) in
          let x = in_row w.from w.from_one q g in
          let y = in_row w.to w.to_one (suc q) k in
          (omega (zarith, x.0, y.1, e, bal+ o.0 (pos (l q)), bal+ o.0 (pos (r (suc q)))), omega (zarith, x.1, y.0, e, bal+ o.0 (pos (l (suc q))), bal+ o.0 (pos (r q))))
      by (joined_laws.west e f) = absurd (omega (zarith, in_it, off_it, f))
      by (joined_laws.south e f) = absurd (omega (zarith, in_it, off_it, f, bal_suc w.to.1))
      by (joined_laws.east e f) = absurd (omega (zarith, in_it, off_it, f))

  -- so rows of the hull that are next to each other have blocks of one column
  pub hull_piled : Piled (hull_left l t) (hull_right r t) t
  hull_piled =
      record {
        wide = λ q h. let a = left_out l t q h in let b = right-out r t q h in let c = ends.wide q h in omega (arith, a, b, c);
        below = λ q h. let a = left_out l t q (omega arith) in let b = right-out r t (suc q) (omega arith) in let c = (rows-linked q h).0 in omega (arith, a, b, c);
        above = λ q h. let a = left_out l t (suc q) (omega arith) in let b = right-out r t q (omega arith) in let c = (rows-linked q h).1 in omega (arith, a, b, c);
      }

  -- each quadrant of a block in such a row holds a block of B
  pub rows_quadrants : (p : Panel) → InPile o (hull_left l t) (hull_right r t) t p → Quadrants B p
  rows_quadrants p k =
      record {
        south_west = let m = over-one min l min_one 0 q in at_left (λ b. b.1 ≤ℤ p.1) m.0 (omega (arith, m.2, k.among)) (omega (arith, m.3)) (lower m.0 (omega (arith, m.2)));
        south_east = let m = over-one max r max_one 0 q in at_right (λ b. b.1 ≤ℤ p.1) m.0 (omega (arith, m.2, k.among)) (omega (arith, m.3)) (λ x. lower m.0 (omega (arith, m.2)));
        north_west = let m = over-one min l min_one q (t - q) in at_left (λ b. p.1 ≤ℤ b.1) m.0 (omega (arith, m.2, k.among)) (omega (arith, m.3)) (upper m.0 m.1);
        north-east = let m = over-one max r max_one q (t - q) in at_right (λ b. p.1 ≤ℤ b.1) m.0 (omega (arith, m.2, k.among)) (omega (arith, m.3)) (λ x. upper m.0 m.1);
      }
    where
      q : ℕ
      q = k.row

      lower : (i : ℕ) → i ≤ q → (o.1 +ℤ pos i) ≤ℤ p.1
      lower i h = omega (zarith, k.level, bal+ o.1 (pos i), bal+ o.1 (pos q))

      upper : (i : ℕ) → q ≤ i → p.1 ≤ℤ (o.1 +ℤ pos i)
      upper i h = omega (zarith, k.level, bal+ o.1 (pos i), bal+ o.1 (pos q))

      at_left : (Y : Panel → Type 0) (i : ℕ) → i ≤ t → l i ≤ hull_left l t q → Y (block (o.0 +ℤ pos (l i)) (o.1 +ℤ pos i)) → Holding B (λ b. b.0 ≤ℤ p.0) Y
      at_left Y i h g y =
          record { at = block (o.0 +ℤ pos (l i)) (o.1 +ℤ pos i); one = ends.first i h; x = omega (zarith, k.west, g, bal+ o.0 (pos (l i)), bal+ o.0 (pos (hull_left l t q))); y = y }

      at_right : (Y : Panel → Type 0) (i : ℕ) → i ≤ t → hull_right r t q ≤ r i → ((x : ℕ) → Y (block (o.0 +ℤ pos x) (o.1 +ℤ pos i))) → Holding B (λ b. p.0 ≤ℤ b.0) Y
      at_right Y i h g y =
          let e : r i ≡ suc (r i - 1) = let c = ends.wide i h in omega (arith, c) in
          record { at = block (o.0 +ℤ pos (r i - 1)) (o.1 +ℤ pos i); one = ends.last i (r i - 1) h e; x = omega (zarith, k.east, g, e, bal+ o.0 (pos (r i - 1)), bal+ o.0 (pos (hull_right r t q))); y = y (r i - 1) }

  -- the rows of the hull are its blocks
  module _ (H : Panel → Bool) (rows : (p : Panel) → (H p ≡ true) ↔ InPile o (hull_left l t) (hull_right r t) t p) where
    rows_contain : Contains B (Passing H)
    rows_contain p b =
        let w = ends.within p b in
        let x = left_out l t w.row w.among in
        let y = right-out r t w.row w.among in
        (rows p).1
        (record {
          row = w.row;
          among = w.among;
          level = w.level;
          west = omega (zarith, w.west, x, bal+ o.0 (pos (l w.row)), bal+ o.0 (pos (hull_left l t w.row)));
          east = omega (zarith, w.east, y, bal+ o.0 (pos (r w.row)), bal+ o.0 (pos (hull_right r t w.row)));
        })

    rows_unbroken : Unbroken (Passing H)
    rows_unbroken =
        record {
          row = λ a c e b h k x y.
              let u = (rows (block a b)).0 x in
              let v = (rows (block e b)).0 y in
              let z : v.row ≡ u.row = level-same o.1 v.row u.row v.level u.level in
              let f : e <ℤ (o.0 +ℤ pos (hull_right r t u.row)) = subst (λ (i : ℕ). e <ℤ (o.0 +ℤ pos (hull_right r t i))) z v.east in
              (rows (block c b)).1 (record { row = u.row; among = u.among; level = u.level; west = omega (zarith, h, u.west); east = omega (zarith, k, f) });
          column = λ a b d f h k x y. between a b d f h k ((rows (block a b)).0 x) ((rows (block a f)).0 y);
        }
      where
        between : (a b d f : ℤ) → b ≤ℤ d → d ≤ℤ f → InPile o (hull_left l t) (hull_right r t) t (block a b) → InPile o (hull_left l t) (hull_right r t) t (block a f) → H (block a d) ≡ true
        between a b d f h k u v =
            let i : ℕ = nat_abs (d -ℤ o.1) in
            let e : d ≡ o.1 +ℤ pos i = above o.1 d (omega (zarith, h, u.level, bal+ o.1 (pos u.row))) in
            let g : u.row ≤ i = omega (zarith, e, h, u.level, bal+ o.1 (pos u.row), bal+ o.1 (pos i)) in
            let j : i ≤ v.row = omega (zarith, e, k, v.level, bal+ o.1 (pos v.row), bal+ o.1 (pos i)) in
            let m = left_between l t u.row i v.row g j v.among in
            let n = right_between r t u.row i v.row g j v.among in
            (rows (block a d)).1
            (record {
              row = i;
              among = omega (arith, j, v.among);
              level = e;
              west = omega (zarith, m, u.west, v.west, bal+ o.0 (pos (hull_left l t i)), bal+ o.0 (pos (hull_left l t u.row)), bal+ o.0 (pos (hull_left l t v.row)));
              east = omega (zarith, n, u.east, v.east, bal+ o.0 (pos (hull_right r t i)), bal+ o.0 (pos (hull_right r t u.row)), bal+ o.0 (pos (hull_right r t v.row)));
            })

    pub rows_hull : OrthogonalHullIs B H
    rows_hull = record { contains = rows_contain; unbroken = rows_unbroken; smallest = λ K c u p h. quadrants_in B joined p (rows_quadrants p ((rows p).0 h)) (Passing K) c u }

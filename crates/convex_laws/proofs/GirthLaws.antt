-- The steps of a convex room add up to its box: each of its four parts goes two ways only, so it has as many steps as its ends lie apart.
-- Assumes nothing.
use mathlib.Core.Path.{◌≡◌, refl, sym, ap, ◌∙◌, subst}
use mathlib.Core.Bool.{Bool, true, false, cond}
use mathlib.Core.List.{List, [], ◌∷◌, ◌++◌, append_assoc, Memᴰ}
use Prim.Native.Nat.{ℕ, zero, suc, ◌+◌, ◌*◌, ◌-◌, ◌%◌, ◌<◌, ◌≤◌}
use native.Mathlib.Omega.{arith}
use lib.ListN.{length, length-append}
use lib.IntN.{ℤ, pos, suc_ℤ, pred_ℤ, ◌+ℤ◌, ◌-ℤ◌}
use lib.Signed.{◌≤ℤ◌, lt_z}
use Rattle.int_laws.proofs.LinearLaws.{zarith, bal+, bal-}
use Rattle.int_laws.proofs.NextLaws.{bal_suc, bal_pred}
use Rattle.lists.specs.Lists.{Below}
use Rattle.grid.specs.declared.Corner.{Corner}
use Rattle.grid.specs.Grid.{stepped, end_from, corners_from, corner_at}
use Rattle.grid.proofs.StepLaws.{end_from-append}
use Rattle.trace.specs.Verdict.{sweep_from, IsRoom}
use Rattle.panels.specs.Moved.{backward}
use Rattle.column_laws.specs.Columns.{middle}
use Rattle.convex.specs.Parts.{turned_by, clockwise}
use Rattle.convex.specs.Convex.{ConvexRoom}
use Rattle.convex_laws.proofs.CycleLaws.{in_place, cut_in, cycle_in, cycle_closed, backward-at, clockwise-room}
use Rattle.convex_laws.proofs.SplitLaws.{below_clockwise}
use Rattle.area_laws.proofs.MovedLaws.{length-backward}
use Rattle.lists.proofs.BelowLaws.{below_all}
use Rattle.box_laws.specs.Box.{column_at, height_at, box_width, box_height, Boxable}
use Rattle.box_laws.proofs.PlaceLaws.{corner_in_lem, corner-column, corner_height}

-- a step of part i leads on by one
on_one : (d : ℕ) (p : Corner) → d < 2 → ((stepped d p).0 +ℤ (stepped d p).1) ≡ suc_ℤ (p.0 +ℤ p.1)
on_one zero p h = omega (zarith, bal_suc p.0, bal+ (suc_ℤ p.0) p.1, bal+ p.0 p.1, bal_suc (p.0 +ℤ p.1))
on_one (suc zero) p h = omega (zarith, bal_suc p.1, bal+ p.0 (suc_ℤ p.1), bal+ p.0 p.1, bal_suc (p.0 +ℤ p.1))
on_one (suc (suc d)) p h = let z : ⊥ = omega arith in absurd z

on_two : (d : ℕ) (p : Corner) → (d + 1) % 4 < 2 → ((stepped d p).0 -ℤ (stepped d p).1) ≡ suc_ℤ (p.0 -ℤ p.1)
on_two zero p h = omega (zarith, bal_suc p.0, bal- (suc_ℤ p.0) p.1, bal- p.0 p.1, bal_suc (p.0 -ℤ p.1))
on_two (suc zero) p h = let z : ⊥ = omega arith in absurd z
on_two (suc (suc zero)) p h = let z : ⊥ = omega arith in absurd z
on_two (suc (suc (suc d))) p h = omega (zarith, bal_pred p.1, bal- p.0 (pred_ℤ p.1), bal- p.0 p.1, bal_suc (p.0 -ℤ p.1))

-- a part has as many steps as its ends lie apart
along : (f : Corner → ℤ) (i : ℕ) → ((d : ℕ) (p : Corner) → (d + i) % 4 < 2 → d < 4 → f (stepped d p) ≡ suc_ℤ (f p)) → (p : Corner) (w : List ℕ) → Below 4 w → Below 2 (turned_by i w) → f (end_from p w) ≡ f p +ℤ pos (length w)
along f i step p [] a b = omega (zarith, bal+ (f p) (pos 0))
along f i step p (d ∷ w) a b = let r = along f i step (stepped d p) w a.1 b.1 in r ∙ next
  where
    next : f (stepped d p) +ℤ pos (length w) ≡ f p +ℤ pos (suc (length w))
    next = omega (zarith, step d p b.0 a.0, bal_suc (f p), bal+ (f (stepped d p)) (pos (length w)), bal+ (f p) (pos (suc (length w))))

-- the letters of what is put together
below_left : (k : ℕ) (a b : List ℕ) → Below k (a ++ b) → Below k a
below_left k [] b h = tt
below_left k (d ∷ a) b h = (h.0, below_left k a b h.1)

below_right : (k : ℕ) (a b : List ℕ) → Below k (a ++ b) → Below k b
below_right k [] b h = h
below_right k (d ∷ a) b h = below_right k a b h.1

below_join : (k : ℕ) (a b : List ℕ) → Below k a → Below k b → Below k (a ++ b)
below_join k [] b h g = g
below_join k (d ∷ a) b h g = (h.0, below_join k a b h.1 g)

on_three : (d : ℕ) (p : Corner) → (d + 2) % 4 < 2 → ((pos 0 -ℤ (stepped d p).0) -ℤ (stepped d p).1) ≡ suc_ℤ ((pos 0 -ℤ p.0) -ℤ p.1)
on_three zero p h = let z : ⊥ = omega arith in absurd z
on_three (suc zero) p h = let z : ⊥ = omega arith in absurd z
on_three (suc (suc zero)) p h = omega (zarith, bal_pred p.0, bal- (pos 0) (pred_ℤ p.0), bal- (pos 0 -ℤ pred_ℤ p.0) p.1, bal- (pos 0) p.0, bal- (pos 0 -ℤ p.0) p.1, bal_suc ((pos 0 -ℤ p.0) -ℤ p.1))
on_three (suc (suc (suc d))) p h = omega (zarith, bal_pred p.1, bal- (pos 0 -ℤ p.0) (pred_ℤ p.1), bal- (pos 0) p.0, bal- (pos 0 -ℤ p.0) p.1, bal_suc ((pos 0 -ℤ p.0) -ℤ p.1))

on_four : (d : ℕ) (p : Corner) → (d + 3) % 4 < 2 → d < 4 → ((stepped d p).1 -ℤ (stepped d p).0) ≡ suc_ℤ (p.1 -ℤ p.0)
on_four zero p h l = let z : ⊥ = omega arith in absurd z
on_four (suc zero) p h l = omega (zarith, bal_suc p.1, bal- (suc_ℤ p.1) p.0, bal- p.1 p.0, bal_suc (p.1 -ℤ p.0))
on_four (suc (suc zero)) p h l = omega (zarith, bal_pred p.0, bal- p.1 (pred_ℤ p.0), bal- p.1 p.0, bal_suc (p.1 -ℤ p.0))
on_four (suc (suc (suc zero))) p h l = let z : ⊥ = omega arith in absurd z
on_four (suc (suc (suc (suc d)))) p h l = let z : ⊥ = omega arith in absurd z

-- four parts that lead round: together they have twice as many steps as two of their ends lie apart, along x and along y
four_parts : (A : Corner) (p q r s : List ℕ) → Below 4 (p ++ (q ++ (r ++ s))) → Below 2 p → Below 2 (turned_by 1 q) → Below 2 (turned_by 2 r) → Below 2 (turned_by 3 s)
    → end_from A (p ++ (q ++ (r ++ s))) ≡ A → (X Y : ℕ) → ((end_from A (p ++ q)).0 ≤ℤ (A.0 +ℤ pos X)) → ((end_from A p).1 ≤ℤ ((end_from A (p ++ (q ++ r))).1 +ℤ pos Y)) → length (p ++ (q ++ (r ++ s))) ≤ 2 * (X + Y)
four_parts A p q r s w a b c d closed X Y g h =
    omega (
      zarith,
      one,
      two,
      three,
      four,
      gx,
      hy,
      sum,
      bal+ A.0 (pos X),
      bal+ D.1 (pos Y),
      bal+ A.0 A.1,
      bal+ B.0 B.1,
      bal+ (A.0 +ℤ A.1) (pos (length p)),
      bal- B.0 B.1,
      bal- C.0 C.1,
      bal+ (B.0 -ℤ B.1) (pos (length q)),
      bal- (pos 0) C.0,
      bal- (pos 0 -ℤ C.0) C.1,
      bal- (pos 0) D.0,
      bal- (pos 0 -ℤ D.0) D.1,
      bal+ ((pos 0 -ℤ C.0) -ℤ C.1) (pos (length r)),
      bal- D.1 D.0,
      bal- A.1 A.0,
      bal+ (D.1 -ℤ D.0) (pos (length s)),
    )
  where
    B : Corner
    B = end_from A p

    C : Corner
    C = end_from B q

    D : Corner
    D = end_from C r

    round : end_from D s ≡ A
    round = sym (end_from-append C r s) ∙ sym (end_from-append B q (r ++ s)) ∙ sym (end_from-append A p (q ++ (r ++ s))) ∙ closed

    w' : Below 4 (q ++ (r ++ s))
    w' = below_right 4 p (q ++ (r ++ s)) w

    w'' : Below 4 (r ++ s)
    w'' = below_right 4 q (r ++ s) w'

    one : (B.0 +ℤ B.1) ≡ (A.0 +ℤ A.1) +ℤ pos (length p)
    one = sums A p a
      where
        sums : (z : Corner) (p : List ℕ) → Below 2 p → ((end_from z p).0 +ℤ (end_from z p).1) ≡ (z.0 +ℤ z.1) +ℤ pos (length p)
        sums z [] k = omega (zarith, bal+ (z.0 +ℤ z.1) (pos 0))
        sums z (e ∷ p) k = sums (stepped e z) p k.1 ∙ omega (zarith, on_one e z k.0, bal_suc (z.0 +ℤ z.1), bal+ ((stepped e z).0 +ℤ (stepped e z).1) (pos (length p)), bal+ (z.0 +ℤ z.1) (pos (suc (length p))))

    two : (C.0 -ℤ C.1) ≡ (B.0 -ℤ B.1) +ℤ pos (length q)
    two = along (λ (z : Corner). z.0 -ℤ z.1) 1 (λ e z k l. on_two e z k) B q (below_left 4 q (r ++ s) w') b

    three : ((pos 0 -ℤ D.0) -ℤ D.1) ≡ ((pos 0 -ℤ C.0) -ℤ C.1) +ℤ pos (length r)
    three = along (λ (z : Corner). (pos 0 -ℤ z.0) -ℤ z.1) 2 (λ e z k l. on_three e z k) C r (below_left 4 r s w'') c

    four : (A.1 -ℤ A.0) ≡ (D.1 -ℤ D.0) +ℤ pos (length s)
    four = ap (λ (z : Corner). z.1 -ℤ z.0) (sym round) ∙ along (λ (z : Corner). z.1 -ℤ z.0) 3 on_four D s (below_right 4 r s w'') d

    gx : C.0 ≤ℤ (A.0 +ℤ pos X)
    gx = subst (λ (z : Corner). z.0 ≤ℤ (A.0 +ℤ pos X)) (end_from-append A p q) g

    hy : B.1 ≤ℤ (D.1 +ℤ pos Y)
    hy = subst (λ (z : Corner). B.1 ≤ℤ (z.1 +ℤ pos Y)) (end_from-append A p (q ++ r) ∙ end_from-append B q r) h

    sum : length (p ++ (q ++ (r ++ s))) ≡ length p + (length q + (length r + length s))
    sum = omega (arith, length-append p (q ++ (r ++ s)), length-append q (r ++ s), length-append r s)

module _ (c : Corner) (ds : List ℕ) (room : IsRoom c ds) (w : Boxable ds) where
  -- the room travelled clockwise has the same corners, and as many steps
  clockwise-at : (p : Corner) → Memᴰ p (corners_from c (clockwise c ds)) → (i : ℕ) × (p ≡ corner_at c ds i)
  clockwise-at p = go (lt_z (pos 0) (sweep_from c ds))
    where
      go : (t : Bool) → Memᴰ p (corners_from c (cond t (backward ds) ds)) → (i : ℕ) × (p ≡ corner_at c ds i)
      go true m = let z = in_place c (backward ds) p m in (length ds - z.0, z.2 ∙ backward-at c ds room.closed z.0 (omega (arith, z.1, length-backward ds)))
      go false m = let z = in_place c ds p m in (z.0, z.2)

  clockwise-length : length (clockwise c ds) ≡ length ds
  clockwise-length = go (lt_z (pos 0) (sweep_from c ds))
    where
      go : (t : Bool) → length (cond t (backward ds) ds) ≡ length ds
      go true = length-backward ds
      go false = refl

  -- no two corners lie farther apart than the box is wide and high
  across : (p q : Corner) → (i : ℕ) × (p ≡ corner_at c ds i) → (i : ℕ) × (q ≡ corner_at c ds i) → (p.0 ≤ℤ (q.0 +ℤ pos (box_width ds - 1))) × (p.1 ≤ℤ (q.1 +ℤ pos (box_height ds - 1)))
  unfolding box_width box_height
  across p q (i, e) (j, f) =
      let a = corner_in_lem ds i in
      let b = corner_in_lem ds j in
      let x = ap (λ (z : Corner). z.0) e ∙ corner-column ds w c i in
      let x' = ap (λ (z : Corner). z.0) f ∙ corner-column ds w c j in
      let y = ap (λ (z : Corner). z.1) e ∙ corner_height ds w c i in
      let y' = ap (λ (z : Corner). z.1) f ∙ corner_height ds w c j in (
        omega (zarith, x, x', a.east, b.west, bal+ (c.0 -ℤ pos middle) (pos (column_at ds i)), bal+ (c.0 -ℤ pos middle) (pos (column_at ds j)), bal+ q.0 (pos (box_width ds - 1))),
        omega (zarith, y, y', a.north, b.south, bal+ (c.1 -ℤ pos middle) (pos (height_at ds i)), bal+ (c.1 -ℤ pos middle) (pos (height_at ds j)), bal+ q.1 (pos (box_height ds - 1))),
      )

  -- a convex room has no more steps than its box has edges around it
  pub convex_girth : ConvexRoom c ds → length ds + 4 ≤ 2 * (box_width ds + box_height ds)
  unfolding box_width box_height
  convex_girth k =
      omega (
        arith,
        four_parts A p q r s (subst (Below 4) turn low) k.first.letters k.second.letters k.third.letters k.fourth.letters (ap (end_from A) (sym turn) ∙ cycle_closed c u v closed) (box_width ds - 1) (box_height ds - 1)
            (across (end_from A (p ++ q)) A (at (p ++ q) (r ++ s) (append_assoc p q (r ++ s))) (at [] (p ++ (q ++ (r ++ s))) refl)).0
            (across (end_from A p) (end_from A (p ++ (q ++ r))) (at p (q ++ (r ++ s)) refl) (at (p ++ (q ++ r)) s (append_assoc p (q ++ r) s ∙ ap (λ (l : List ℕ). p ++ l) (append_assoc q r s)))).1,
        clockwise-length,
        ap length whole,
        ap length turn,
        length-append u v,
        length-append v u,
      )
    where
      u : List ℕ
      u = k.split.before

      v : List ℕ
      v = k.split.after

      p : List ℕ
      p = k.one

      q : List ℕ
      q = k.two

      r : List ℕ
      r = k.three

      s : List ℕ
      s = k.four

      A : Corner
      A = end_from c u

      whole : u ++ v ≡ clockwise c ds
      whole = k.split.whole

      turn : v ++ u ≡ p ++ (q ++ (r ++ s))
      turn = k.split.round

      closed : end_from c (u ++ v) ≡ c
      closed = ap (end_from c) whole ∙ (clockwise-room c ds room).closed

      low : Below 4 (v ++ u)
      low =
          let b = subst (Below 4) (sym whole) (below_clockwise c ds (below_all 4 ds w.digits)) in
          below_join 4 v u (below_right 4 u v b) (below_left 4 u v b)

      -- an end of a part is a corner of the room
      at : (b a : List ℕ) → b ++ a ≡ p ++ (q ++ (r ++ s)) → (i : ℕ) × (end_from A b ≡ corner_at c ds i)
      at b a e = clockwise-at (end_from A b) (subst (λ (l : List ℕ). Memᴰ (end_from A b) (corners_from c l)) whole (cycle_in c u v closed (end_from A b) (cut_in A (v ++ u) b a (e ∙ sym turn))))

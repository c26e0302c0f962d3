-- The vertical steps of a room, poured by columns and taken by rows, in pairs are its rows.
-- Assumes nothing.
use mathlib.Core.Path.{◌≡◌, refl, sym, ap, ap₂, ◌∙◌}
use mathlib.Core.Bool.{Bool, true, false, cond, ◌&&◌}
use mathlib.Core.List.Memᴰ
use mathlib.Core.List.{List, [], ◌∷◌, ◌++◌, Memᴰ, map}
use mathlib.Core.Logic.{inl, inr, ⊎_elim}
use Prim.Native.Nat.{ℕ, zero, suc, ◌+◌, ◌*◌, ◌-◌, ◌%◌, ◌<◌, ◌≤◌}
use native.Mathlib.Omega.{arith}
use native.Mathlib.Decide.{ℕ_discrete}
use borrow.Author.Tests.{eq-eqb, ne_eqb, lt-ltb}
use lib.Dec.{eqb, ltb}
use lib.ListN.{length, get_or}
use lib.IntN.{ℤ, pos, ◌+ℤ◌, ◌-ℤ◌}
use Rattle.int_laws.proofs.LinearLaws.{zarith, bal+, bal-}
use Rattle.lists.specs.Lists.{tally, count, Below}
use Rattle.lists.proofs.CountLaws.{count_never}
use Rattle.lists.proofs.FindLaws.{count-append}
use Rattle.grid.specs.declared.Corner.{Corner}
use Rattle.grid.specs.Grid.{corner, eq_z, stepped}
use Rattle.grid.proofs.CornerLaws.{eq_z_refl, eq_z_not}
use Rattle.trace.specs.Verdict.{IsRoom}
use Rattle.panels.specs.Edges.{edges_from}
use Rattle.row_laws.specs.Feet.{feet_of, pairs_of, rows_of}
use Rattle.area_laws.proofs.EvenLaws.{row_even}
use Rattle.row_laws.proofs.{FootLaws.UpTo, FootLaws.Climbs, FootLaws.InTurn, RoomLaws.feet_from, RoomLaws.foot_of, RoomLaws.count_feet, SortedLaws.room-all, SortedLaws.room-rows, SortedLaws.room-count, RowLaws.rows_is_rows_of}
use Rattle.column_laws.specs.Columns.{top, col_after, row_after}
use Rattle.room_thread_laws.specs.Threads.{Stays, along_from, columns_from, rows_from}
use Rattle.room_thread_laws.proofs.RoomLaws.{move_x, move_y, closed_stays}
use Rattle.row_bucket_laws.specs.Buckets.{picked, down_from, Ranked, bucket_of, low_of, spot_at, poured_of, row_order_of}
use Rattle.row_bucket_laws.proofs.BucketLaws.{down_mem}
use Rattle.row_bucket_laws.proofs.SpreadLaws.{rows_all, spread-all, spread-mem, spread_ranked, rows_ranked, Upward}

-- from the last place down, and from the first one up
count_down : (f : ℕ → Bool) (n : ℕ) → count f (down_from (suc n)) ≡ count (λ p. f (suc p)) (down_from n) + tally (f 0)
count_down f zero = omega arith
count_down f (suc n) = omega (arith, count_down f n)

-- a vertical step counts by its lower end, another one does not count
step_foot : (t : Corner → Bool) (o u : ℤ) (c : Corner) (d x y : ℕ) → c.0 ≡ o +ℤ pos x → c.1 ≡ u +ℤ pos y → 0 < x → 0 < y → d < 4
    → tally (ltb 0 (x * (d % 2)) && t (corner (o +ℤ pos (x * (d % 2))) (u +ℤ pos (y - tally (ltb 2 d))))) ≡ count t (foot_of d c)
unfolding row_after
step_foot t o u c zero x y e f h g b = ap (λ (z : ℕ). tally (ltb 0 z && t (corner (o +ℤ pos z) (u +ℤ pos (y - 0))))) none
  where
    none : x * (0 % 2) ≡ 0
    none = omega arith
step_foot t o u c (suc zero) x y e f h g b =
    ap₂ (λ (z w : ℕ). tally (ltb 0 z && t (corner (o +ℤ pos z) (u +ℤ pos w)))) one same
    ∙ ap (λ (v : Bool). tally (v && t (corner (o +ℤ pos x) (u +ℤ pos y)))) (lt-ltb 0 x h)
    ∙ ap (λ (q : Corner). tally (t q)) (ap₂ corner (sym e) (sym f)) ∙ plus_none (tally (t c))
  where
    one : x * (1 % 2) ≡ x
    one = omega arith

    same : y - tally (ltb 2 1) ≡ y
    same = omega arith

    plus_none : (n : ℕ) → n ≡ n + 0
    plus_none n = omega arith
step_foot t o u c (suc (suc zero)) x y e f h g b = ap (λ (z : ℕ). tally (ltb 0 z && t (corner (o +ℤ pos z) (u +ℤ pos (y - 0))))) none
  where
    none : x * (2 % 2) ≡ 0
    none = omega arith
step_foot t o u c (suc (suc (suc zero))) x y e f h g b =
    ap (λ (z : ℕ). tally (ltb 0 z && t (corner (o +ℤ pos z) (u +ℤ pos (y - 1))))) one
    ∙ ap (λ (v : Bool). tally (v && t (corner (o +ℤ pos x) (u +ℤ pos (y - 1))))) (lt-ltb 0 x h)
    ∙ ap (λ (q : Corner). tally (t q)) (ap₂ corner (sym e) (sym (move_y 3 y c u g f))) ∙ plus_none (tally (t (stepped 3 c)))
  where
    one : x * (3 % 2) ≡ x
    one = omega arith

    plus_none : (n : ℕ) → n ≡ n + 0
    plus_none n = omega arith
step_foot t o u c (suc (suc (suc (suc d)))) x y e f h g b = absurd (omega arith)

count_foot : (t : Corner → Bool) (d : ℕ) (c : Corner) (l : List Corner) → count t (foot_of d c ++ l) ≡ count t (foot_of d c) + count t l
count_foot t d c l = count-append t (foot_of d c) l

-- so the places count as the lower ends of the walk's vertical edges do
feet_count : (t : Corner → Bool) (o u : ℤ) (c : Corner) (ds : List ℕ) (x y : ℕ) → c.0 ≡ o +ℤ pos x → c.1 ≡ u +ℤ pos y
    → ((j : ℕ) → j < length ds → 0 < get_or (columns_from x ds) j 0) → ((j : ℕ) → j < length ds → 0 < get_or (rows_from y ds) j 0) → Below 4 ds
    → count (λ p. ltb 0 (get_or (columns_from x ds) p 0 * (get_or ds p 0 % 2)) && t (corner (o +ℤ pos (get_or (columns_from x ds) p 0 * (get_or ds p 0 % 2))) (u +ℤ pos (get_or (rows_from y ds) p 0 - tally (ltb 2 (get_or ds p 0)))))) (down_from (length ds))
    ≡ count t (feet_from c ds)
unfolding along_from
feet_count t o u c [] x y e f a b l = refl
feet_count t o u c (d ∷ ds) x y e f a b l =
    let px : 0 < x = a 0 (omega arith) in
    let py : 0 < y = b 0 (omega arith) in
    omega (
      arith,
      count_down (λ p. ltb 0 (get_or (columns_from x (d ∷ ds)) p 0 * (get_or (d ∷ ds) p 0 % 2)) && t (corner (o +ℤ pos (get_or (columns_from x (d ∷ ds)) p 0 * (get_or (d ∷ ds) p 0 % 2))) (u +ℤ pos (get_or (rows_from y (d ∷ ds)) p 0 - tally (ltb 2 (get_or (d ∷ ds) p 0)))))) (length ds),
      feet_count t o u (stepped d c) ds (col_after x d) (row_after y d) (move_x d x c o px e) (move_y d y c u py f) (λ j h. a (suc j) (omega arith)) (λ j h. b (suc j) (omega arith)) l.1,
      step_foot t o u c d x y e f px py l.0,
      count_foot t d c (feet_from (stepped d c) ds),
    )

count_map : (t : Corner → Bool) (f : ℕ → Corner) (l : List ℕ) → count t (map f l) ≡ count (λ p. t (f p)) l
count_map t f [] = refl
count_map t f (p ∷ l) = ap (λ (n : ℕ). tally (t (f p)) + n) (count_map t f l)

count_ext : (f g : ℕ → Bool) (l : List ℕ) → ((p : ℕ) → f p ≡ g p) → count f l ≡ count g l
count_ext f g [] e = refl
count_ext f g (p ∷ l) e = ap₂ (λ (b : Bool) (n : ℕ). tally b + n) (e p) (count_ext f g l e)

length-picked : (key : ℕ → ℕ) (c : ℕ) (l : List ℕ) → length (picked key c l) ≡ count (λ p. eqb (key p) c) l
length-picked key c [] = refl
length-picked key c (p ∷ l) = by (eqb (key p) c) (length-picked key c l)
  where
    by : (b : Bool) → length (picked key c l) ≡ count (λ p. eqb (key p) c) l → length (cond b (p ∷ picked key c l) (picked key c l)) ≡ tally b + count (λ p. eqb (key p) c) l
    by true ih = omega (arith, ih)
    by false ih = omega (arith, ih)

length-count : {A : Type 0} (l : List A) → count (λ q. true) l ≡ length l
length-count [] = refl
length-count (x ∷ l) = omega (arith, length-count l)

same_height : (u : ℤ) (a b : ℕ) → eqb a b ≡ eq_z (u +ℤ pos a) (u +ℤ pos b)
same_height u a b = go (ℕ_discrete a b)
  where
    go : Dec (a ≡ b) → eqb a b ≡ eq_z (u +ℤ pos a) (u +ℤ pos b)
    go (yes e) = eq-eqb a b e ∙ sym (ap (λ (z : ℕ). eq_z (u +ℤ pos a) (u +ℤ pos z)) (sym e) ∙ eq_z_refl (u +ℤ pos a))
    go (no e) = ne_eqb a b e ∙ sym (eq_z_not (u +ℤ pos a) (u +ℤ pos b) (λ f. e (omega (zarith, f, bal+ u (pos a), bal+ u (pos b)))))

-- places in order are corners in order
module _ (c : Corner) (m : ℕ) (key foot : ℕ → ℕ) where
  up_to : (p q : ℕ) → Upward key foot p q → UpTo (spot_at c m key foot p) (spot_at c m key foot q)
  up_to p q (inl h) = inl (omega (zarith, h, bal+ (c.1 -ℤ pos m) (pos (foot p)), bal+ (c.1 -ℤ pos m) (pos (foot q))))
  up_to p q (inr h) = inr (ap (λ (z : ℕ). (c.1 -ℤ pos m) +ℤ pos z) h.0, omega (zarith, h.1, bal+ (c.0 -ℤ pos m) (pos (key p)), bal+ (c.0 -ℤ pos m) (pos (key q))))

  climbs : (p : ℕ) (l : List ℕ) → Ranked (Upward key foot) (p ∷ l) → Climbs UpTo (spot_at c m key foot p) (map (spot_at c m key foot) l)
  climbs p [] r = tt
  climbs p (q ∷ l) r = (up_to p q (r.0 q (Memᴰ.head refl)), climbs q l r.1)

  in_turn : (l : List ℕ) → Ranked (Upward key foot) l → InTurn UpTo (map (spot_at c m key foot) l)
  in_turn [] r = tt
  in_turn (p ∷ l) r = climbs p l r

module _ (c : Corner) (ds : List ℕ) (m : ℕ) (room : IsRoom c ds) (digits : Below 4 ds) (wide : length ds < 2 * m) (narrow : 2 * m ≤ suc top) where
  stays : Stays ds m (2 * m)
  stays = closed_stays c ds m room.closed wide (2 * m) (omega arith) narrow

  at_m : (z : ℤ) → z ≡ (z -ℤ pos m) +ℤ pos m
  at_m z = omega (zarith, bal- z (pos m), bal+ (z -ℤ pos m) (pos m))

  pub low_below : (q : ℕ) → q < length ds → low_of ds m q < 2 * m
  low_below q h = omega (arith, (stays.rows q h).1)

  key_below : (q : ℕ) → q < length ds → bucket_of ds m q ≤ 2 * m - 1
  key_below q h = omega (arith, (stays.columns q h).1, once (get_or (columns_from m ds) q 0) (get_or ds q 0 % 2) (omega arith))
    where
      once : (x v : ℕ) → v < 2 → x * v ≤ x
      once x zero h = omega arith
      once x (suc zero) h = omega arith
      once x (suc (suc v)) h = absurd (omega arith)

  poured_mem : (q : ℕ) → Memᴰ q (poured_of ds m) → q < length ds
  poured_mem q k = ⊎_elim (down_mem (length ds) q) (λ n. absurd (Memᴰ.not-nil n)) (spread-mem (bucket_of ds m) (2 * m - 1) (down_from (length ds)) [] q k)

  poured_count : (t : Corner → Bool) → count (λ p. t (spot_at c m (bucket_of ds m) (low_of ds m) p)) (poured_of ds m) ≡ count t (feet_from c ds)
  poured_count t =
      spread-all (λ p. t (spot_at c m (bucket_of ds m) (low_of ds m) p)) (bucket_of ds m) (2 * m - 1) (down_from (length ds)) (λ q k. key_below q (down_mem (length ds) q k))
      ∙ feet_count t (c.0 -ℤ pos m) (c.1 -ℤ pos m) c ds m m (at_m c.0) (at_m c.1) (λ j h. (stays.columns j h).0) (λ j h. (stays.rows j h).0) digits

  order_count : (t : Corner → Bool) → count t (map (spot_at c m (bucket_of ds m) (low_of ds m)) (row_order_of ds m)) ≡ count t (feet_from c ds)
  order_count t =
      count_map t (spot_at c m (bucket_of ds m) (low_of ds m)) (row_order_of ds m)
      ∙ rows_all (λ p. t (spot_at c m (bucket_of ds m) (low_of ds m) p)) (low_of ds m) (2 * m) (poured_of ds m) (λ q k. low_below q (poured_mem q k))
      ∙ poured_count t

  -- each row has an even number
  pub row_pairs : (h : ℕ) → length (picked (low_of ds m) h (poured_of ds m)) % 2 ≡ 0
  row_pairs h =
      ap (λ (n : ℕ). n % 2)
      (length-picked (low_of ds m) h (poured_of ds m)
      ∙ count_ext (λ p. eqb (low_of ds m p) h) (λ p. eq_z ((c.1 -ℤ pos m) +ℤ pos (low_of ds m p)) ((c.1 -ℤ pos m) +ℤ pos h)) (poured_of ds m) (λ p. same_height (c.1 -ℤ pos m) (low_of ds m p) h)
      ∙ poured_count (λ q. eq_z q.1 ((c.1 -ℤ pos m) +ℤ pos h))
      ∙ count_feet (λ q. eq_z q.1 ((c.1 -ℤ pos m) +ℤ pos h)) c ds)
      ∙ row_even ((c.1 -ℤ pos m) +ℤ pos h) c ds room.closed

  -- in pairs they are the rows
  pub order_rows : pairs_of (map (spot_at c m (bucket_of ds m) (low_of ds m)) (row_order_of ds m)) ≡ rows_of c ds
  order_rows =
      rows_is_rows_of c ds (pairs_of (map (spot_at c m (bucket_of ds m) (low_of ds m)) (row_order_of ds m))) room.closed
      (room-rows c ds (map (spot_at c m (bucket_of ds m) (low_of ds m)) (row_order_of ds m)) room
      (in_turn c m (bucket_of ds m) (low_of ds m) (row_order_of ds m) (rows_ranked (bucket_of ds m) (low_of ds m) 0 (2 * m) (poured_of ds m) (spread_ranked (bucket_of ds m) (2 * m - 1) (down_from (length ds)) [] (λ q k. absurd (Memᴰ.not-nil k)) tt)))
      order_count)

  pub order_length : length (row_order_of ds m) ≡ 2 * length (rows_of c ds)
  order_length = sym (length-map (spot_at c m (bucket_of ds m) (low_of ds m)) (row_order_of ds m)) ∙ sym (length-count (map (spot_at c m (bucket_of ds m) (low_of ds m)) (row_order_of ds m))) ∙ order_count (λ q. true) ∙ length-count (feet_from c ds) ∙ sym (room-count c ds room)
    where
      length-map : (f : ℕ → Corner) (l : List ℕ) → length (map f l) ≡ length l
      length-map f [] = refl
      length-map f (p ∷ l) = ap suc (length-map f l)

  -- what holds of no place holds of no lower end
  pub feet_none : (t : Corner → Bool) → ((q : ℕ) → bucket_of ds m q < 2 * m → low_of ds m q < 2 * m → t (spot_at c m (bucket_of ds m) (low_of ds m) q) ≡ false) → count t (feet_of (edges_from c ds)) ≡ 0
  feet_none t f = room-all t c ds room ∙ sym (poured_count t) ∙ count_never (λ p. t (spot_at c m (bucket_of ds m) (low_of ds m) p)) (poured_of ds m) (λ q k. let h = poured_mem q k in f q (omega (arith, key_below q h)) (low_below q h))

-- A room has each of its four parts, and only one. It is convex exactly when all four are: then they follow one another once round.
-- Assumes nothing.
use mathlib.Core.Bool.{Bool, true, false, true≢false, cond}
use mathlib.Core.List.Memᴰ
use mathlib.Core.List.{List, [], ◌∷◌, ◌++◌, append_assoc, Memᴰ}
use mathlib.Core.Logic.{◌⊎◌, inl, inr, ⊎_elim, ⊎_map, ◌↔◌}
use mathlib.Core.Path.{◌≡◌, refl, sym, ap, ap₂, ◌∙◌, subst}
use Prim.Native.Nat.{ℕ, zero, suc, ◌+◌, ◌-◌, ◌%◌, ◌≤◌, ◌<◌}
use native.Mathlib.Decide.{dec_lt}
use native.Mathlib.Omega.{arith}
use lib.IntN.{ℤ, pos}
use lib.ListN.{length, take, drop, length-append, length-drop, take-append-drop}
use lib.Seq.{take_at, take-length, take-add, take-take, length-take-le}
use lib.Signed.{lt_z, ◌<ℤ◌, ◌≤ℤ◌}
use Rattle.int_laws.proofs.LinearLaws.{zarith, le_or_lt}
use Rattle.int_laws.proofs.NextLaws.{bal_suc}
use Rattle.lists.specs.Lists.{Below}
use Rattle.grid.specs.declared.Corner.{Corner}
use Rattle.grid.specs.Grid.{stepped, corners_from, end_from, corner_at}
use Rattle.grid.proofs.StepLaws.{end_from-append}
use Rattle.trace.specs.Verdict.{IsRoom, sweep_from}
use Rattle.panels.specs.Moved.{backward}
use Rattle.convex.specs.Parts.{turned_by, clockwise, LowestLeft, LeftmostTop, HighestRight, RightmostBottom, ComesFirst, Extremal, PartIs}
use Rattle.convex.specs.Convex.{ConvexPart, ConvexRoom}
use Rattle.convex_laws.specs.Level.{convex_part}
use Rattle.convex_laws.proofs.PartLaws.{convex_part_exactly}
use Rattle.convex_laws.proofs.PlaceLaws.{Found, first_anti}
use Rattle.convex_laws.proofs.CycleLaws.{room_places, cut-within, cut-corner, cut_in, way_one, cycle_in, in_cycle, cycle_closed, cycle_room, clockwise-room}
use Rattle.convex_laws.proofs.WestLaws.{north_other, east_other, south_other}
use Rattle.convex_laws.proofs.RoomLaws.{Cut, InOrder, order_cut, cut_order, round_room, round_west, cut_split, split_cut}
use Rattle.convex_laws.proofs.TravelLaws.{Place, place, extremal_cycle}
use Rattle.convex_laws.proofs.TurnLaws.{below_join, below_parts, below_backward}

-- ---- each order has a first corner

-- by one coordinate, then by the other
either : (u v s t : ℤ) → ((u <ℤ v) ⊎ ((u ≡ v) × (s ≤ℤ t))) ⊎ ((v <ℤ u) ⊎ ((v ≡ u) × (t ≤ℤ s)))
either u v s t = go (le_or_lt u v) (le_or_lt v u) (le_or_lt s t)
  where
    go : (u ≤ℤ v) ⊎ (v <ℤ u) → (v ≤ℤ u) ⊎ (u <ℤ v) → (s ≤ℤ t) ⊎ (t <ℤ s) → ((u <ℤ v) ⊎ ((u ≡ v) × (s ≤ℤ t))) ⊎ ((v <ℤ u) ⊎ ((v ≡ u) × (t ≤ℤ s)))
    go (inr h) g k = inr (inl h)
    go (inl h) (inr g) k = inl (inl g)
    go (inl h) (inl g) (inl k) = inl (inr (omega zarith, k))
    go (inl h) (inl g) (inr k) = inr (inr (omega zarith, omega zarith))

-- the same with the equation read the other way
facing : {u v s t : ℤ} → (u <ℤ v) ⊎ ((u ≡ v) × (s ≤ℤ t)) → (u <ℤ v) ⊎ ((v ≡ u) × (s ≤ℤ t))
facing = ⊎_map (λ h. h) (λ h. (sym h.0, h.1))

first-total : (i : ℕ) (a b : Corner) → ComesFirst i a b ⊎ ComesFirst i b a
first-total zero a b = either a.0 b.0 a.1 b.1
first-total (suc zero) a b = ⊎_map facing facing (either b.1 a.1 a.0 b.0)
first-total (suc (suc zero)) a b = ⊎_map facing facing (either b.0 a.0 b.1 a.1)
first-total (suc (suc (suc i))) a b = either a.1 b.1 b.0 a.0

-- two steps in an order are one: the first coordinate goes up or down, and the second coordinates are as they are
module _ {u v w : ℤ} {P Q R : Type 0} (join : P → Q → R) where
  up-over : (u <ℤ v) ⊎ ((u ≡ v) × P) → (v <ℤ w) ⊎ ((v ≡ w) × Q) → (u <ℤ w) ⊎ ((u ≡ w) × R)
  up-over (inl h) (inl g) = inl (omega zarith)
  up-over (inl h) (inr g) = inl (omega (zarith, g.0))
  up-over (inr h) (inl g) = inl (omega (zarith, h.0))
  up-over (inr h) (inr g) = inr (h.0 ∙ g.0, join h.1 g.1)

  down_over : (v <ℤ u) ⊎ ((u ≡ v) × P) → (w <ℤ v) ⊎ ((v ≡ w) × Q) → (w <ℤ u) ⊎ ((u ≡ w) × R)
  down_over (inl h) (inl g) = inl (omega zarith)
  down_over (inl h) (inr g) = inl (omega (zarith, g.0))
  down_over (inr h) (inl g) = inl (omega (zarith, h.0))
  down_over (inr h) (inr g) = inr (h.0 ∙ g.0, join h.1 g.1)

le_trans : {r s t : ℤ} → r ≤ℤ s → s ≤ℤ t → r ≤ℤ t
le_trans h g = omega (zarith, h, g)

first-over : (i : ℕ) (a b e : Corner) → ComesFirst i a b → ComesFirst i b e → ComesFirst i a e
first-over zero a b e h g = up-over le_trans h g
first-over (suc zero) a b e h g = down_over le_trans h g
first-over (suc (suc zero)) a b e h g = down_over (λ p q. le_trans q p) h g
first-over (suc (suc (suc i))) a b e h g = up-over (λ p q. le_trans q p) h g

first_self : (i : ℕ) (a : Corner) → ComesFirst i a a
first_self i a = ⊎_elim (λ h. h) (λ h. h) (first-total i a a)

-- some corner of a walk comes first
first_some : (i : ℕ) (c : Corner) (ds : List ℕ) → (m : ℕ) × Found (ComesFirst i) c ds m
first_some i c [] = (0, record { within = omega arith; first = λ p m. subst (ComesFirst i c) (sym (Memᴰ.eq_of_singleton m)) (first_self i c) })
first_some i c (d ∷ ds) = go (first_some i (stepped d c) ds)
  where
    go : (m : ℕ) × Found (ComesFirst i) (stepped d c) ds m → (m : ℕ) × Found (ComesFirst i) c (d ∷ ds) m
    go (m, f) = by (first-total i c (corner_at (stepped d c) ds m))
      where
        by : ComesFirst i c (corner_at (stepped d c) ds m) ⊎ ComesFirst i (corner_at (stepped d c) ds m) c → (m : ℕ) × Found (ComesFirst i) c (d ∷ ds) m
        by (inl h) = (0, record { within = omega arith; first = λ p n. ⊎_elim (λ e. subst (ComesFirst i c) (sym e) (first_self i c)) (λ t. first-over i c (corner_at (stepped d c) ds m) p h (f.first p t)) (Memᴰ.cases_cons n) })
        by (inr h) = (suc m, record { within = omega (arith, f.within); first = λ p n. ⊎_elim (λ e. subst (ComesFirst i (corner_at (stepped d c) ds m)) (sym e) h) (f.first p) (Memᴰ.cases_cons n) })

-- ---- from another corner of the walk

module _ (c : Corner) (u v : List ℕ) (closed : end_from c (u ++ v) ≡ c) where
  extremal_back : (R : Corner → Corner → Type 0) (q : Corner) → Extremal R (end_from c u) (v ++ u) q → Extremal R c (u ++ v) q
  extremal_back R q f p m = f p (in_cycle c u v closed p m)

  -- the parts are the same
  part_cycle : (i : ℕ) (w : List ℕ) → PartIs i c (u ++ v) w → PartIs i (end_from c u) (v ++ u) w
  part_cycle i w p = record {
    before = k.b';
    after = k.a';
    rest = p.rest;
    whole = k.whole;
    round = k.round ∙ p.round;
    more = p.more;
    begins = subst (Extremal (ComesFirst i) (end_from c u) (v ++ u)) (sym k.ends) (extremal_cycle c u v closed (ComesFirst i) (end_from c p.before) p.begins);
    ends = subst (Extremal (ComesFirst ((i + 1) % 4)) (end_from c u) (v ++ u)) there (extremal_cycle c u v closed (ComesFirst ((i + 1) % 4)) (end_from c (p.before ++ w)) p.ends);
  }
    where
      k : Place c u v closed p.before p.after
      k = place c u v closed p.before p.after (sym p.whole)

      there : end_from c (p.before ++ w) ≡ end_from (end_from c u) (k.b' ++ w)
      there = end_from-append c p.before w ∙ ap (λ (q : Corner). end_from q w) (sym k.ends) ∙ sym (end_from-append (end_from c u) k.b' w)

part_back : (c : Corner) (u v : List ℕ) → end_from c (u ++ v) ≡ c → (i : ℕ) (w : List ℕ) → PartIs i (end_from c u) (v ++ u) w → PartIs i c (u ++ v) w
part_back c u v closed i w p = subst (λ (q : Corner). PartIs i q (u ++ v) w) (sym (end_from-append c u v) ∙ closed) (part_cycle (end_from c u) v u (cycle_closed c u v closed) i w p)

-- ---- each part is there

pub part_some : (c : Corner) (ds : List ℕ) → IsRoom c ds → (i : ℕ) → (w : List ℕ) × PartIs i c ds w
part_some c ds r i = go (first_some ((i + 1) % 4) a ws)
  where
    m : (m : ℕ) × Found (ComesFirst i) c ds m
    m = first_some i c ds

    u : List ℕ
    u = take m.0 ds

    v : List ℕ
    v = drop m.0 ds

    whole : u ++ v ≡ ds
    whole = take-append-drop m.0 ds

    closed : end_from c (u ++ v) ≡ c
    closed = ap (end_from c) whole ∙ r.closed

    a : Corner
    a = end_from c u

    ws : List ℕ
    ws = v ++ u

    part : (w rest : List ℕ) → ws ≡ w ++ rest → 0 < length rest → Extremal (ComesFirst ((i + 1) % 4)) a ws (end_from a w) → PartIs i c ds w
    part w rest round more f = record {
      before = u;
      after = v;
      rest = rest;
      whole = whole;
      round = round;
      more = more;
      begins = m.1.first;
      ends = subst (λ (l : List ℕ). Extremal (ComesFirst ((i + 1) % 4)) c l (end_from c (u ++ w))) whole (subst (Extremal (ComesFirst ((i + 1) % 4)) c (u ++ v)) (sym (end_from-append c u w)) (extremal_back c u v closed (ComesFirst ((i + 1) % 4)) (end_from a w) f));
    }

    long : 0 < length ws
    long = omega (arith, r.four, length-append v u, length-append u v, ap length whole)

    go : (k : ℕ) × Found (ComesFirst ((i + 1) % 4)) a ws k → (w : List ℕ) × PartIs i c ds w
    go (k, f) = elim (dec_lt k (length ws)) [
      | yes h ↦ (take k ws, part (take k ws) (drop k ws) (sym (take-append-drop k ws)) (omega (arith, length-drop k ws)) f.first)
      | no h ↦ (let e : k ≡ length ws = omega (arith, f.within) in ([], part [] ws refl long (subst (Extremal (ComesFirst ((i + 1) % 4)) a ws) (ap (corner_at a ws) e ∙ ap (end_from a) (take-length ws) ∙ cycle_closed c u v closed) f.first)))
    ]

-- ---- and only one

-- a walk that did not yet come round stands at each corner once
stop-one : (a : Corner) (ws : List ℕ) → IsRoom a ws → (w r w' r' : List ℕ) → w ++ r ≡ ws → w' ++ r' ≡ ws → 0 < length r → 0 < length r' → end_from a w ≡ end_from a w' → w ≡ w'
stop-one a ws room w r w' r' e e' l l' h = sym (first w r e) ∙ ap (λ (n : ℕ). take n ws) same ∙ first w' r' e'
  where
    first : (x y : List ℕ) → x ++ y ≡ ws → take (length x) ws ≡ x
    first x y z = ap (take (length x)) (sym z) ∙ take_at x y (length x) refl

    go : (length w ≡ length w') ⊎ (((length w ≡ 0) × (length w' ≡ length ws)) ⊎ ((length w ≡ length ws) × (length w' ≡ 0))) → length w ≡ length w'
    go (inl z) = z
    go (inr (inl z)) = absurd (omega (arith, z.1, ap length e', length-append w' r'))
    go (inr (inr z)) = absurd (omega (arith, z.0, ap length e, length-append w r))

    same : length w ≡ length w'
    same = go (room_places a ws room (length w) (length w') (cut-within a ws w r e) (cut-within a ws w' r' e') (cut-corner a ws w r e ∙ h ∙ sym (cut-corner a ws w' r' e')))

-- what comes first is one corner
extremal_one : (i : ℕ) (c : Corner) (ds : List ℕ) (p q : Corner) → Memᴰ p (corners_from c ds) → Memᴰ q (corners_from c ds) → Extremal (ComesFirst i) c ds p → Extremal (ComesFirst i) c ds q → p ≡ q
extremal_one i c ds p q m n f g = first_anti i p q (f q n) (g p m)

pub part_one : (c : Corner) (ds : List ℕ) → IsRoom c ds → (i : ℕ) {w w' : List ℕ} → PartIs i c ds w → PartIs i c ds w' → w ≡ w'
part_one c ds r i {w} {w'} p q = stop-one a ws room w p.rest w' q.rest (sym p.round) (sym (way ∙ q.round)) p.more q.more there
  where
    a : Corner
    a = end_from c p.before

    ws : List ℕ
    ws = p.after ++ p.before

    closed : end_from c (p.before ++ p.after) ≡ c
    closed = ap (end_from c) p.whole ∙ r.closed

    room : IsRoom a ws
    room = cycle_room c p.before p.after closed (subst (IsRoom c) (sym p.whole) r)

    here : a ≡ end_from c q.before
    here = extremal_one i c ds a (end_from c q.before) (cut_in c ds p.before p.after p.whole) (cut_in c ds q.before q.after q.whole) p.begins q.begins

    way : ws ≡ q.after ++ q.before
    way = way_one c ds r p.before p.after q.before q.after p.whole q.whole here

    -- a corner of the way round is one of the walk
    in_walk : (x y : List ℕ) → x ++ y ≡ ws → Memᴰ (end_from a x) (corners_from c ds)
    in_walk x y e = subst (λ (l : List ℕ). Memᴰ (end_from a x) (corners_from c l)) p.whole (cycle_in c p.before p.after closed (end_from a x) (cut_in a ws x y e))

    there : end_from a w ≡ end_from a w'
    there = extremal_one ((i + 1) % 4) c ds (end_from a w) (end_from a w') (in_walk w p.rest (sym p.round)) (in_walk w' q.rest (sym (way ∙ q.round)))
        (subst (Extremal (ComesFirst ((i + 1) % 4)) c ds) (end_from-append c p.before w) p.ends)
        (subst (Extremal (ComesFirst ((i + 1) % 4)) c ds) (end_from-append c q.before w' ∙ ap (λ (z : Corner). end_from z w') (sym here)) q.ends)

-- ---- parts by their places

-- a room that begins at its first extremal corner
module _ (a : Corner) (ws : List ℕ) (room : IsRoom a ws) where
  -- from place j on to place k
  part_straight : (i j k : ℕ) → j ≤ k → k ≤ length ws → (0 < j) ⊎ (k < length ws) → Extremal (ComesFirst i) a ws (corner_at a ws j) → Extremal (ComesFirst ((i + 1) % 4)) a ws (corner_at a ws k) → PartIs i a ws (take (k - j) (drop j ws))
  part_straight i j k h l some f g = record {
    before = take j ws;
    after = drop j ws;
    rest = drop (k - j) (drop j ws) ++ take j ws;
    whole = take-append-drop j ws;
    round = ap (λ (x : List ℕ). x ++ take j ws) (sym (take-append-drop (k - j) (drop j ws))) ∙ append_assoc (take (k - j) (drop j ws)) (drop (k - j) (drop j ws)) (take j ws);
    more = ⊎_elim (λ z. omega (arith, z, sizes)) (λ z. omega (arith, z, sizes)) some;
    begins = f;
    ends = subst (λ (x : List ℕ). Extremal (ComesFirst ((i + 1) % 4)) a ws (end_from a x)) (ap (λ (n : ℕ). take n ws) over-j ∙ take-add j (k - j) ws) g;
  }
    where
      over-j : k ≡ j + (k - j)
      over-j = omega arith

      sizes : length (drop (k - j) (drop j ws) ++ take j ws) ≡ ((length ws - j) - (k - j)) + j
      sizes = length-append (drop (k - j) (drop j ws)) (take j ws) ∙ ap₂ ◌+◌ (length-drop (k - j) (drop j ws) ∙ ap (λ (n : ℕ). n - (k - j)) (length-drop j ws)) (length-take-le j ws (omega arith))

  -- from place j over the start to place k before it
  part_over : (i j k : ℕ) → k < j → j ≤ length ws → Extremal (ComesFirst i) a ws (corner_at a ws j) → Extremal (ComesFirst ((i + 1) % 4)) a ws (corner_at a ws k) → PartIs i a ws (drop j ws ++ take k ws)
  part_over i j k h l f g = record {
    before = take j ws;
    after = drop j ws;
    rest = drop k (take j ws);
    whole = take-append-drop j ws;
    round = ap (λ (x : List ℕ). drop j ws ++ x) (sym (take-append-drop k (take j ws)) ∙ ap (λ (x : List ℕ). x ++ drop k (take j ws)) short) ∙ sym (append_assoc (drop j ws) (take k ws) (drop k (take j ws)));
    more = omega (arith, length-drop k (take j ws), length-take-le j ws l);
    begins = f;
    ends = subst (Extremal (ComesFirst ((i + 1) % 4)) a ws) there g;
  }
    where
      short : take k (take j ws) ≡ take k ws
      short = take-take k j ws (omega arith)

      there : corner_at a ws k ≡ end_from a (take j ws ++ (drop j ws ++ take k ws))
      there = sym (ap (end_from a) (sym (append_assoc (take j ws) (drop j ws) (take k ws)) ∙ ap (λ (x : List ℕ). x ++ take k ws) (take-append-drop j ws)) ∙ end_from-append a ws (take k ws) ∙ ap (λ (q : Corner). end_from q (take k ws)) room.closed)

-- ---- four convex parts follow one another

-- a part that is turned back by no quarter turn or by one has no step west
rises : (i : ℕ) → i < 2 → (c : Corner) (w : List ℕ) → Below 2 (turned_by i w) → c.0 ≤ℤ (end_from c w).0
rises i h c [] b = omega zarith
rises i h c (d ∷ w) b = le_trans (one d b.0) (rises i h (stepped d c) w b.1)
  where
    one : (d : ℕ) → (d + i) % 4 < 2 → c.0 ≤ℤ (stepped d c).0
    one zero l = omega (zarith, bal_suc c.0)
    one (suc zero) l = omega zarith
    one (suc (suc zero)) l = absurd (omega (arith, h, l))
    one (suc (suc (suc d))) l = omega zarith

-- a walk whose first step is in the first part and in the second leads east
leads-east : (a : Corner) (ws : List ℕ) (j k : ℕ) → 0 < length ws → 0 < j → 0 < k → Below 4 ws → Below 2 (turned_by 0 (take j ws)) → Below 2 (turned_by 1 (take k ws)) → Below 2 (turned_by 1 (drop j ws)) → a.0 <ℤ (end_from a ws).0
leads-east a [] j k n h g b p q r = absurd (omega arith)
leads-east a (d ∷ ws) zero k n h g b p q r = absurd (omega arith)
leads-east a (d ∷ ws) (suc j) zero n h g b p q r = absurd (omega arith)
leads-east a (suc d ∷ ws) (suc j) (suc k) n h g b p q r = absurd (omega (arith, b.0, p.0, q.0))
leads-east a (zero ∷ ws) (suc j) (suc k) n h g b p q r =
    let e = stepped 0 a in
    let m = end_from e (take j ws) in
    let z : end_from e ws ≡ end_from m (drop j ws) = ap (end_from e) (sym (take-append-drop j ws)) ∙ end_from-append e (take j ws) (drop j ws) in
    omega (zarith, bal_suc a.0, rises 0 (omega arith) e (take j ws) p.1, rises 1 (omega arith) m (drop j ws) r, ap (λ (x : Corner). x.0) z)

-- no step is in the first part and in the third
not_opposite : (ws : List ℕ) (j l : ℕ) → 0 < length ws → 0 < j → 0 < l → Below 2 (turned_by 0 (take j ws)) → Below 2 (turned_by 2 (take l ws)) → ⊥
not_opposite [] j l n h g p q = omega arith
not_opposite (d ∷ ws) zero l n h g p q = omega arith
not_opposite (d ∷ ws) (suc j) zero n h g p q = omega arith
not_opposite (d ∷ ws) (suc j) (suc l) n h g p q = omega (arith, p.0, q.0)

letters_parts : (i : ℕ) (u v : List ℕ) → Below 2 (turned_by i (u ++ v)) → Below 2 (turned_by i u) × Below 2 (turned_by i v)
letters_parts i [] v b = (tt, b)
letters_parts i (d ∷ u) v b = let r = letters_parts i u v b.1 in ((b.0, r.0), r.1)

pub turned_none : (w : List ℕ) → Below 4 w → turned_by 0 w ≡ w
turned_none [] b = refl
turned_none (d ∷ w) b = ap₂ (λ (n : ℕ) (l : List ℕ). n ∷ l) (same d b.0) (turned_none w b.1)
  where
    same : (d : ℕ) → d < 4 → (d + 0) % 4 ≡ d
    same d h = omega arith

-- each part of the walk is convex, turned back to the first
abbrev Convexly : Corner → List ℕ → Type 0
Convexly c ds = (i : ℕ) → i < 4 → (w : List ℕ) → PartIs i c ds w → ConvexPart (turned_by i w)

module _ (a : Corner) (ws : List ℕ) (room : IsRoom a ws) (west : Extremal LowestLeft a ws a) (below : Below 4 ws) (j k l : ℕ) (fj : Found LeftmostTop a ws j) (fk : Found HighestRight a ws k) (fl : Found RightmostBottom a ws l) where
  -- the places lie between the ends
  inner : (R : Corner → Corner → Type 0) → (Extremal R a ws a → ⊥) → (m : ℕ) → Found R a ws m → (0 < m) × (m < length ws)
  inner R other m f = (go m refl, elim (dec_lt m (length ws)) [ yes h ↦ h | no h ↦ absurd (let e : m ≡ length ws = omega (arith, f.within) in other (subst (Extremal R a ws) (ap (corner_at a ws) e ∙ ap (end_from a) (take-length ws) ∙ room.closed) f.first)) ])
    where
      go : (n : ℕ) → n ≡ m → 0 < m
      go zero e = absurd (other (subst (λ (x : ℕ). Extremal R a ws (corner_at a ws x)) (sym e) f.first))
      go (suc n) e = omega arith

  in_j : (0 < j) × (j < length ws)
  in_j = inner LeftmostTop (north_other a ws room west) j fj

  in_k : (0 < k) × (k < length ws)
  in_k = inner HighestRight (east_other a ws room west) k fk

  in_l : (0 < l) × (l < length ws)
  in_l = inner RightmostBottom (south_other a ws room west) l fl

  part_first : PartIs 0 a ws (take j ws)
  part_first = let e : j - 0 ≡ j = omega arith in subst (λ (n : ℕ). PartIs 0 a ws (take n ws)) e (part_straight a ws room 0 0 j (omega arith) fj.within (inr in_j.1) west fj.first)

  part_second : j ≤ k → PartIs 1 a ws (take (k - j) (drop j ws))
  part_second h = part_straight a ws room 1 j k h fk.within (inl in_j.0) fj.first fk.first

  part_third : k ≤ l → PartIs 2 a ws (take (l - k) (drop k ws))
  part_third h = part_straight a ws room 2 k l h fl.within (inl in_k.0) fk.first fl.first

  part_fourth : PartIs 3 a ws (drop l ws)
  part_fourth = subst (PartIs 3 a ws) all (part_straight a ws room 3 l (length ws) fl.within (omega arith) (inl in_l.0) fl.first (subst (Extremal LowestLeft a ws) (sym (ap (end_from a) (take-length ws) ∙ room.closed)) west))
    where
      all : take (length ws - l) (drop l ws) ≡ drop l ws
      all = ap (λ (n : ℕ). take n (drop l ws)) (sym (length-drop l ws)) ∙ take-length (drop l ws)

  below_j : Below 4 (take j ws)
  below_j = (below_parts (take j ws) (drop j ws) (subst (Below 4) (sym (take-append-drop j ws)) below)).0

  order_parts : InOrder ws j k l → Convexly a ws
  order_parts o zero h w p = subst (λ (x : List ℕ). ConvexPart (turned_by 0 x)) (part_one a ws room 0 part_first p) (subst ConvexPart (sym (turned_none (take j ws) below_j)) o.first)
  order_parts o (suc zero) h w p = subst (λ (x : List ℕ). ConvexPart (turned_by 1 x)) (part_one a ws room 1 (part_second o.to-east) p) o.second
  order_parts o (suc (suc zero)) h w p = subst (λ (x : List ℕ). ConvexPart (turned_by 2 x)) (part_one a ws room 2 (part_third o.to_south) p) o.third
  order_parts o (suc (suc (suc zero))) h w p = subst (λ (x : List ℕ). ConvexPart (turned_by 3 x)) (part_one a ws room 3 part_fourth p) o.fourth
  order_parts o (suc (suc (suc (suc i)))) h w p = absurd (omega arith)

  parts_order : Convexly a ws → InOrder ws j k l
  parts_order f = record {
    to-east = to-east;
    to_south = to_south;
    first = subst ConvexPart (turned_none (take j ws) below_j) first;
    second = f 1 (omega arith) (take (k - j) (drop j ws)) (part_second to-east);
    third = f 2 (omega arith) (take (l - k) (drop k ws)) (part_third to_south);
    fourth = f 3 (omega arith) (drop l ws) part_fourth;
  }
    where
      some : 0 < length ws
      some = omega (arith, room.four)

      first : ConvexPart (turned_by 0 (take j ws))
      first = f 0 (omega arith) (take j ws) part_first

      to-east : j ≤ k
      to-east = elim (dec_lt k j) [ yes h ↦ absurd (apart h) | no h ↦ omega arith ]
        where
          apart : k < j → ⊥
          apart h =
              let b = letters_parts 1 (drop j ws) (take k ws) (f 1 (omega arith) (drop j ws ++ take k ws) (part_over a ws room 1 j k h fj.within fj.first fk.first)).letters in
              omega (zarith, leads-east a ws j k some in_j.0 in_k.0 below first.letters b.1 b.0, ap (λ (x : Corner). x.0) room.closed)

      to_south : k ≤ l
      to_south = elim (dec_lt l k) [ yes h ↦ absurd (apart h) | no h ↦ omega arith ]
        where
          apart : l < k → ⊥
          apart h =
              let b = letters_parts 2 (drop k ws) (take l ws) (f 2 (omega arith) (drop k ws ++ take l ws) (part_over a ws room 2 k l h fk.within fk.first fl.first)).letters in
              not_opposite ws j l some in_j.0 in_l.0 first.letters b.1

-- ---- rooms

pub below_clockwise : (c : Corner) (ds : List ℕ) → Below 4 ds → Below 4 (clockwise c ds)
below_clockwise c ds b = go (lt_z (pos 0) (sweep_from c ds))
  where
    go : (t : Bool) → Below 4 (cond t (backward ds) ds)
    go true = below_backward ds
    go false = b

-- a room is convex exactly when each of its four parts is
pub convex_parts : (c : Corner) (ds : List ℕ) → Below 4 ds → IsRoom c ds → ConvexRoom c ds ↔ ((i : ℕ) → i < 4 → (w : List ℕ) → PartIs i c (clockwise c ds) w → ConvexPart (turned_by i w))
convex_parts c ds b r = (there, back)
  where
    t : List ℕ
    t = clockwise c ds

    room : IsRoom c t
    room = clockwise-room c ds r

    m : (m : ℕ) × Found LowestLeft c t m
    m = first_some 0 c t

    u : List ℕ
    u = take m.0 t

    v : List ℕ
    v = drop m.0 t

    whole : u ++ v ≡ t
    whole = take-append-drop m.0 t

    closed : end_from c (u ++ v) ≡ c
    closed = ap (end_from c) whole ∙ room.closed

    a : Corner
    a = end_from c u

    ws : List ℕ
    ws = v ++ u

    round : IsRoom a ws
    round = round_room c t room m.0 m.1

    west : Extremal LowestLeft a ws a
    west = round_west c t room m.0 m.1

    below : Below 4 ws
    below = let p = below_parts u v (subst (Below 4) (sym whole) (below_clockwise c ds b)) in below_join v u p.1 p.0

    j : (j : ℕ) × Found LeftmostTop a ws j
    j = first_some 1 a ws

    k : (k : ℕ) × Found HighestRight a ws k
    k = first_some 2 a ws

    l : (l : ℕ) × Found RightmostBottom a ws l
    l = first_some 3 a ws

    there : ConvexRoom c ds → Convexly c t
    there x i h w p = order_parts a ws round west below j.0 k.0 l.0 j.1 k.1 l.1 o i h w (part_cycle c u v closed i w (subst (λ (s : List ℕ). PartIs i c s w) (sym whole) p))
      where
        o : InOrder ws j.0 k.0 l.0
        o = cut_order a ws j.0 k.0 l.0 j.1 k.1 l.1 round west (split_cut c t room m.0 m.1 x.one x.two x.three x.four x.split x.first x.second x.third x.fourth)

    back : Convexly c t → ConvexRoom c ds
    back f = record { one = x.one; two = x.two'; three = x.three; four = x.four; split = cut_split c t room m.0 m.1 x; first = x.first; second = x.second; third = x.third; fourth = x.fourth }
      where
        x : Cut a ws
        x = order_cut a ws j.0 k.0 l.0 j.1 k.1 l.1 (parts_order a ws round west below j.0 k.0 l.0 j.1 k.1 l.1
            (λ i h w p. f i h w (subst (λ (s : List ℕ). PartIs i c s w) whole (part_back c u v closed i w p))))

-- it is not convex exactly when some part is not
pub some_part : (c : Corner) (ds : List ℕ) → Below 4 ds → IsRoom c ds → (ConvexRoom c ds → ⊥) ↔ ((i : ℕ) × (i < 4) × (w : List ℕ) × PartIs i c (clockwise c ds) w × (ConvexPart (turned_by i w) → ⊥))
some_part c ds b r = (there, λ x h. x.4 ((convex_parts c ds b r).0 h x.0 x.1 x.2 x.3))
  where
    t : List ℕ
    t = clockwise c ds

    room : IsRoom c t
    room = clockwise-room c ds r

    Bad : Type 0
    Bad = (i : ℕ) × (i < 4) × (w : List ℕ) × PartIs i c t w × (ConvexPart (turned_by i w) → ⊥)

    Fine : ℕ → Type 0
    Fine i = (w : List ℕ) → PartIs i c t w → ConvexPart (turned_by i w)

    one : (i : ℕ) → i < 4 → Bad ⊎ Fine i
    one i h = go (part_some c t room i)
      where
        go : (w : List ℕ) × PartIs i c t w → Bad ⊎ Fine i
        go (w, p) = by (convex_part (turned_by i w)) refl
          where
            by : (d : Bool) → convex_part (turned_by i w) ≡ d → Bad ⊎ Fine i
            by true e = inr (λ w' p'. subst (λ (x : List ℕ). ConvexPart (turned_by i x)) (part_one c t room i p p') ((convex_part_exactly (turned_by i w)).0 e))
            by false e = inl (i, h, w, p, λ x. true≢false (sym ((convex_part_exactly (turned_by i w)).1 x) ∙ e))

    there : (ConvexRoom c ds → ⊥) → Bad
    there f = go (one 0 (omega arith)) (one 1 (omega arith)) (one 2 (omega arith)) (one 3 (omega arith))
      where
        go : Bad ⊎ Fine 0 → Bad ⊎ Fine 1 → Bad ⊎ Fine 2 → Bad ⊎ Fine 3 → Bad
        go (inl x) p q s = x
        go (inr o) (inl x) q s = x
        go (inr o) (inr p) (inl x) s = x
        go (inr o) (inr p) (inr q) (inl x) = x
        go (inr o) (inr p) (inr q) (inr s) = absurd (f ((convex_parts c ds b r).1 all))
          where
            all : (i : ℕ) → i < 4 → Fine i
            all zero h = o
            all (suc zero) h = p
            all (suc (suc zero)) h = q
            all (suc (suc (suc zero))) h = s
            all (suc (suc (suc (suc i)))) h = absurd (omega arith)

-- Reading what was written: the header, the points, and the walk along them.
-- Assumes nothing.
use Rattle.std.specs.Prelude.{Err, Ok, Option, Some}
use mathlib.Core.Path.{◌≡◌, refl, sym, ap, ap₂, ◌∙◌, subst}
use mathlib.Core.Bool.{Bool, true, false, not, cond, ◌&&◌}
use mathlib.Core.List.{List, [], ◌∷◌, ◌++◌, map, append_assoc}
use Prim.Native.Nat.{ℕ, zero, suc, ◌+◌, ◌-◌, ◌*◌, ◌/◌, ◌%◌, ◌^◌, ◌≤◌, ◌<◌}
use native.Mathlib.Omega.{arith}
use borrow.Author.Tests.{eqb-true, eq-eqb, le-leb, le-ltb, lt-ltb}
use lib.Dec.{eqb, ltb}
use lib.IntN.{nat_abs}
use lib.ListN.{length, take, drop, replicate, get_or, length-append}
use lib.Seq.{take_at, drop_at, drop-drop, get_or_at}
use Rattle.polygon_ring.specs.Answers.{Given}
use Rattle.answer.specs.Answers.{Judged}
use Rattle.lists.specs.Lists.{any, Below}
use Rattle.answer.specs.Limits.{most_steps, farthest}
use Rattle.steps.specs.Turns.{turn_of}
use Rattle.grid.specs.declared.Corner.{Corner}
use Rattle.grid.specs.Grid.{origin, same, stepped, end_from}
use Rattle.grid.proofs.CornerLaws.{same_refl}
use Rattle.grid.proofs.BoundLaws.{stepped_bound}
use Rattle.polygon.specs.Bytes.{bytes_of}
use Rattle.polygon_ring.specs.Bytes.{number_of, number_in, starts_with}
use Rattle.polygon.specs.Polygon.{prefix, point_bytes, points_bytes, polygon_bytes, bends, bends_from, bends_of, points_of, polygon_of}
use Rattle.polygon_ring.specs.Ring.{order_of, is_little, is_neither, most_at, point_in, point_at, points_from, is_faulty, corner_in, straight_from, steps_along, length_of, chain_of_points, is_ring, count_in, count_given, points_given, ring_of, read_judged, given_of, ReadCall}
use Rattle.polygon_laws.specs.Bends.{Drawable, turning}
use Rattle.polygon_laws.proofs.BytesLaws.{length-bytes_of, length-point_bytes, length-polygon_bytes}
use Rattle.polygon_ring_laws.proofs.NumberLaws.{number_of-bytes_of}
use Rattle.polygon_laws.proofs.BendLaws.{length-points_of, turning_le}
use Rattle.polygon_ring_laws.proofs.RingLaws.{most_at_le, length-steps_from}
use Rattle.polygon_ring_laws.proofs.RunLaws.{ahead, ahead-one, ahead_more, Run, run_ahead}
use Rattle.polygon_ring_laws.proofs.TakeLaws.{point_back}
use Rattle.answer.specs.Refusal.{when, or_else, first_of}
use Rattle.polygon_ring_laws.specs.Reading.{grid_point_of}
use Rattle.answer.specs.Listed.{laid_if}
use Rattle.answer.specs.declared.{Refusal.TheVariants.FileLength, Refusal.TheVariants.FileKind, Refusal.TheVariants.BadCoordinate, Refusal.TheVariants.BadRing, Refusal.TheVariants.TooLong, Refusal.TheVariants.ChainRoom}
use Rattle.polygon_ring.specs.declared.{Order.Order, Order.TheVariants.Little}

-- ---- the header

order_back : (ps : List Corner) → order_of (polygon_bytes ps) ≡ Some Little
unfolding order_of starts_with polygon_bytes
order_back ps = refl

count-back : (ps : List Corner) → length ps < 256 ^ 4 → count_in true (polygon_bytes ps) ≡ length ps
unfolding count_in polygon_bytes number_in
count-back ps h =
    let c = bytes_of 4 (length ps) in
    let e : take 4 (drop 9 (prefix ++ c ++ points_bytes ps)) ≡ c =
    ap (λ (z : List ℕ). take 4 (drop 9 z)) (append_assoc prefix c (points_bytes ps)) ∙ take_at c (points_bytes ps) 4 (length-bytes_of 4 (length ps)) in
    ap number_of e ∙ number_of-bytes_of 4 (length ps) h

points_back : (ps : List Corner) → drop 13 (polygon_bytes ps) ≡ points_bytes ps
unfolding polygon_bytes
points_back ps = drop_at (prefix ++ bytes_of 4 (length ps)) (points_bytes ps) 13 (simp length-bytes_of)

-- ---- the points

-- each of the points from point i on may be where it is
abbrev Within : ℕ → List Corner → Type 0
Within i [] = Unit {0}
Within i (c ∷ ps) = (nat_abs c.0 ≤ most_at i) × (nat_abs c.1 ≤ most_at i) × Within (suc i) ps

places_back : (s : List ℕ) (i : ℕ) (ps : List Corner) → drop (16 * i) s ≡ points_bytes ps → Within i ps → points_from true s i (length ps) ≡ map grid_point_of ps
unfolding points_from point_at point_in points_bytes
places_back s i [] e w = refl
places_back s i (c ∷ ps) e w =
    let here : point_at true s i ≡ grid_point_of c =
    ap (point_in (most_at i) true) e ∙ point_back (most_at i) c (points_bytes ps) w.0 w.1 (most_at_le i) in
    let more : drop (16 * suc i) s ≡ points_bytes ps =
    ap (λ (n : ℕ). drop n s) (next i) ∙ sym (drop-drop 16 (16 * i) s) ∙ ap (drop 16) e ∙ drop_at (point_bytes c) (points_bytes ps) 16 (length-point_bytes c) in
    ap₂ (λ (j : Option Corner) (js : List (Option Corner)). j ∷ js) here (places_back s (suc i) ps more w.2)
  where
    next : (i : ℕ) → 16 * suc i ≡ 16 * i + 16
    next i = omega arith

none_faulty : (ps : List Corner) → any is_faulty (map grid_point_of ps) ≡ false
none_faulty [] = refl
none_faulty (c ∷ ps) = none_faulty ps

corners-back : (ps : List Corner) → map corner_in (map grid_point_of ps) ≡ ps
corners-back [] = refl
corners-back (c ∷ ps) = ap (λ (cs : List Corner). c ∷ cs) (corners-back ps)

-- the bends of a walk that gets no farther than this
within-bends : (i a : ℕ) (c : Corner) (ds : List ℕ) (e : Corner) → nat_abs c.0 + length ds ≤ farthest → nat_abs c.1 + length ds ≤ farthest → nat_abs e.0 ≤ farthest → nat_abs e.1 ≤ farthest
    → Within (suc i) (bends_from a c ds ++ (e ∷ []))
within-bends i a c [] e p q f g = (f, g, tt)
within-bends i a c (d ∷ ds) e p q f g =
    let m = stepped_bound d c in
    go i (bends a d) (λ j. within-bends j d (stepped d c) ds e (omega (arith, m.0)) (omega (arith, m.1)) f g)
  where
    go : (i : ℕ) (t : Bool) → ((j : ℕ) → Within (suc j) (bends_from d (stepped d c) ds ++ (e ∷ []))) → Within (suc i) (cond t (c ∷ []) [] ++ bends_from d (stepped d c) ds ++ (e ∷ []))
    go i true r = (omega arith, omega arith, r (suc i))
    go i false r = r i

within_points : (s : Corner) (ds : List ℕ) → Drawable s ds → Within 0 (points_of s ds)
within_points s [] p = (p.near_x, p.near_y, (omega (arith, p.near_x), omega (arith, p.near_y), tt))
within_points s (d ∷ ds) p =
    let m = stepped_bound d s in
    (p.near_x, p.near_y, within-bends 0 d (stepped d s) ds s (omega (arith, m.0, p.near_x, p.few)) (omega (arith, m.1, p.near_y, p.few)) (omega (arith, p.near_x)) (omega (arith, p.near_y)))

-- ---- the walk

pub on_along : (a d : ℕ) → a < 4 → d < 4 → bends a d ≡ false → d ≡ a
on_along a d h k e = same a d h k (eqb-true (turn_of a d) 0 (undo (eqb (turn_of a d) 0) e))
  where
    undo : (b : Bool) → not b ≡ false → b ≡ true
    undo true e = refl
    undo false e = sym e

    same : (a d : ℕ) → a < 4 → d < 4 → (d + (4 - a)) % 4 ≡ 0 → d ≡ a
    same a d h k z = omega arith

pub replicate-shift : (k a : ℕ) (ds : List ℕ) → replicate (suc k) a ++ ds ≡ replicate k a ++ (a ∷ ds)
replicate-shift zero a ds = refl
replicate-shift (suc k) a ds = ap (λ (l : List ℕ). a ∷ l) (replicate-shift k a ds)

-- the steps along these corners, and whether neighbours differ along one axis
abbrev Walks : Corner → List Corner → List ℕ → Type 0
Walks s ps ds = (steps_along s ps ≡ ds) × (straight_from s ps ≡ true)

run_on : (s c : Corner) (ps : List Corner) (k a : ℕ) (ds : List ℕ) → Run k a s c → Walks c ps ds → Walks s (c ∷ ps) (replicate k a ++ ds)
run_on s c ps k a ds r w = (
  ap₂ (λ (n d : ℕ). replicate n d ++ steps_along c ps) r.far r.way ∙ ap (λ (z : List ℕ). replicate k a ++ z) w.0,
  ap₂ ◌&&◌ r.line w.1,
)

walk_back : (a k : ℕ) (s c e : Corner) (ds : List ℕ) → a < 4 → 0 < k → Below 4 ds → c ≡ ahead k a s → end_from c ds ≡ e → Walks s (bends_from a c ds ++ (e ∷ [])) (replicate k a ++ ds)
walk_back a k s c e [] h i b p q = run_on s e [] k a [] (subst (Run k a s) (sym p ∙ q) (run_ahead k a s i h)) (refl, refl)
walk_back a k s c e (d ∷ ds) h i b p q =
    go (bends a d) refl (λ j x y f. walk_back d j x (stepped d c) e ds b.0 y b.1 f q)
  where
    go : (t : Bool) → bends a d ≡ t
        → ((j : ℕ) (x : Corner) → 0 < j → stepped d c ≡ ahead j d x → Walks x (bends_from d (stepped d c) ds ++ (e ∷ [])) (replicate j d ++ ds))
        → Walks s (cond (bends a d) (c ∷ []) [] ++ bends_from d (stepped d c) ds ++ (e ∷ [])) (replicate k a ++ (d ∷ ds))
    go true t r =
        subst (λ (u : Bool). Walks s (cond u (c ∷ []) [] ++ bends_from d (stepped d c) ds ++ (e ∷ [])) (replicate k a ++ (d ∷ ds))) (sym t)
        (run_on s c (bends_from d (stepped d c) ds ++ (e ∷ [])) k a (d ∷ ds) (subst (Run k a s) (sym p) (run_ahead k a s i h)) (r 1 c (omega arith) (ahead-one d c)))
    go false t r =
        let g : d ≡ a = on_along a d h b.0 t in
        let w = r (suc k) s (omega arith) (ap (stepped d) (p ∙ ap (λ (x : ℕ). ahead k x s) (sym g)) ∙ ahead_more k d s) in
        subst (λ (u : Bool). Walks s (cond u (c ∷ []) [] ++ bends_from d (stepped d c) ds ++ (e ∷ [])) (replicate k a ++ (d ∷ ds))) (sym t)
        (w.0 ∙ replicate-shift k d ds ∙ ap (λ (x : ℕ). replicate k x ++ (d ∷ ds)) g, w.1)

chain_back : (s : Corner) (ds : List ℕ) → Below 4 ds → 0 < length ds → end_from s ds ≡ s → (chain_of_points (points_of s ds) ≡ ds) × (straight_from s (bends_of s ds ++ (s ∷ [])) ≡ true)
chain_back s [] b h e = absurd (none h)
  where
    none : 0 < 0 → ⊥
    none h = omega arith
chain_back s (d ∷ ds) b h e = walk_back d 1 s (stepped d s) s ds b.0 (omega arith) b.1 (ahead-one d s) e

-- ---- the ring that was written is a ring, and the call reads it

ends-back : (s : Corner) (bs : List Corner) → get_or (s ∷ bs ++ (s ∷ [])) (length (s ∷ bs ++ (s ∷ [])) - 1) origin ≡ s
ends-back s bs = get_or_at (s ∷ bs) s [] origin (length (s ∷ bs ++ (s ∷ [])) - 1) (size (length bs) (length (bs ++ (s ∷ []))) (length-append bs (s ∷ [])))
  where
    size : (n m : ℕ) → m ≡ n + 1 → suc n ≡ suc m - 1
    size n m e = omega arith

ring-back : (s : Corner) (ds : List ℕ) → Below 4 ds → 0 < length ds → end_from s ds ≡ s → 2 ≤ turning ds → is_ring (points_of s ds) ≡ true
ring-back s ds b h e t =
    ap₂ ◌&&◌ (ap₂ ◌&&◌ (le-leb 4 (length (points_of s ds)) (omega (arith, length-points_of s ds b))) (ap (λ (c : Corner). same c s) (ends-back s (bends_of s ds)) ∙ same_refl s)) (chain_back s ds b h e).1

length_back : (s : Corner) (ds : List ℕ) → chain_of_points (points_of s ds) ≡ ds → length_of (points_of s ds) ≡ length ds
length_back s ds e = sym (length-steps_from s (bends_of s ds ++ (s ∷ []))) ∙ ap length e

module _ (s : Corner) (ds : List ℕ) (p : Drawable s ds) where
  count-is : count_given (polygon_of s ds) ≡ length (points_of s ds)
  count-is =
      ap (λ (o : Option Order). count_in (is_little o) (polygon_of s ds)) (order_back (points_of s ds))
      ∙ count-back (points_of s ds) (few (length (points_of s ds)) (turning ds) (length ds) (length-points_of s ds p.digits) (turning_le ds) p.few)
    where
      few : (n t l : ℕ) → n ≡ t + 2 → t ≤ l → l ≤ most_steps → n < 256 ^ 4
      few n t l e f g = omega arith

  many_are : (length (polygon_of s ds) - 13) / 16 ≡ length (points_of s ds)
  many_are = num (length (polygon_of s ds)) (length (points_of s ds)) (length-polygon_bytes (points_of s ds))
    where
      num : (l n : ℕ) → l ≡ 13 + 16 * n → (l - 13) / 16 ≡ n
      num l n e = omega arith

  places_are : points_given (polygon_of s ds) ≡ map grid_point_of (points_of s ds)
  places_are =
      ap₂ (λ (o : Option Order) (n : ℕ). points_from (is_little o) (drop 13 (polygon_of s ds)) 0 n) (order_back (points_of s ds)) many_are
      ∙ ap (λ (l : List ℕ). points_from true l 0 (length (points_of s ds))) (points_back (points_of s ds))
      ∙ places_back (points_bytes (points_of s ds)) 0 (points_of s ds) refl (within_points s ds p)

  ring_written : ring_of (polygon_of s ds) ≡ points_of s ds
  ring_written = ap (map corner_in) places_are ∙ corners-back (points_of s ds)

  -- the judgement of what was written, by what is left to judge
  judged-by : (room : ℕ) → read_judged (polygon_of s ds) room
      ≡ first_of (when (not (is_ring (points_of s ds))) BadRing ∷ when (ltb most_steps (length_of (points_of s ds))) (TooLong most_steps) ∷ when (ltb room (length_of (points_of s ds))) ChainRoom ∷ [])
  judged-by room =
      let file = polygon_of s ds in
      let n = length (points_of s ds) in
      let size : length file ≡ 13 + 16 * n = length-polygon_bytes (points_of s ds) in
      let rest : List Corner → Judged = λ ps. or_else (when (not (is_ring ps)) BadRing) (or_else (when (ltb most_steps (length_of ps)) (TooLong most_steps)) (or_else (when (ltb room (length_of ps)) ChainRoom) (Ok tt))) in
      let long : ltb (length file) 13 ≡ false = le-ltb (length file) 13 (omega arith) in
      let even : eqb (length file) (13 + 16 * count_given file) ≡ true = eq-eqb (length file) (13 + 16 * count_given file) (size ∙ ap (λ (k : ℕ). 13 + 16 * k) (sym count-is)) in
      let good : any is_faulty (points_given file) ≡ false = ap (any is_faulty) places_are ∙ none_faulty (points_of s ds) in
      ap₂ (λ (b c : Bool). or_else (when b FileLength) (or_else (when c FileKind) (or_else (when (not (eqb (length file) (13 + 16 * count_given file))) FileLength) (or_else (when (any is_faulty (points_given file)) BadCoordinate) (rest (ring_of file)))))) long (ap is_neither (order_back (points_of s ds)))
      ∙ ap₂ (λ (b c : Bool). or_else (when (not b) FileLength) (or_else (when c BadCoordinate) (rest (ring_of file)))) even good
      ∙ ap rest ring_written

  module _ (e : end_from s ds ≡ s) where
    -- with two bends the ring is read, and it is the walk
    module _ (t : 2 ≤ turning ds) where
      some : 0 < length ds
      some = omega (arith, turning_le ds)

      long : length_of (points_of s ds) ≡ length ds
      long = length_back s ds (chain_back s ds p.digits some e).0

      judged-room : (room : ℕ) → read_judged (polygon_of s ds) room ≡ when (ltb room (length ds)) ChainRoom
      judged-room room =
          judged-by room
          ∙ ap₂ (λ (b : Bool) (n : ℕ). or_else (when (not b) BadRing) (or_else (when (ltb most_steps n) (TooLong most_steps)) (or_else (when (ltb room n) ChainRoom) (Ok tt)))) (ring-back s ds p.digits some e t) long
          ∙ ap (λ (b : Bool). or_else (when b (TooLong most_steps)) (or_else (when (ltb room (length ds)) ChainRoom) (Ok tt))) (le-ltb most_steps (length ds) p.few)
          ∙ plain (when (ltb room (length ds)) ChainRoom)
        where
          plain : (c : Judged) → or_else c (Ok tt) ≡ c
          plain (Ok _) = refl
          plain (Err r) = refl

      pub back_read : (out : List ℕ) (r : Given) (out' : List ℕ) → length ds ≤ length out → ReadCall (polygon_of s ds) out r out'
          → (r ≡ Ok (record { start = s; steps = length ds })) × (out' ≡ ds ++ drop (length ds) out)
      back_read out r out' h c =
          let j : read_judged (polygon_of s ds) (length out) ≡ Ok tt = judged-room (length out) ∙ ap (λ (b : Bool). when b ChainRoom) (le-ltb (length out) (length ds) h) in
          let w : chain_of_points (ring_of (polygon_of s ds)) ≡ ds = ap chain_of_points ring_written ∙ (chain_back s ds p.digits some e).0 in (
            c.answer
                ∙ ap₂ given_of j ring_written
                ∙ ap (λ (n : ℕ). Ok (record { start = s; steps = n })) long,
            c.buffer ∙ ap₂ (λ (k : Judged) (l : List ℕ). laid_if k l out) j w,
          )

      pub back-short : (out : List ℕ) (r : Given) (out' : List ℕ) → length out < length ds → ReadCall (polygon_of s ds) out r out' → (r ≡ Err ChainRoom) × (out' ≡ out)
      back-short out r out' h c =
          let j : read_judged (polygon_of s ds) (length out) ≡ Err ChainRoom = judged-room (length out) ∙ ap (λ (b : Bool). when b ChainRoom) (lt-ltb (length out) (length ds) h) in
          (c.answer ∙ ap (λ (k : Judged). given_of k (ring_of (polygon_of s ds))) j, c.buffer ∙ ap (λ (k : Judged). laid_if k (chain_of_points (ring_of (polygon_of s ds))) out) j)

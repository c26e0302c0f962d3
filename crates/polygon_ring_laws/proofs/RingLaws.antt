-- The passes over the points of a ring, one point after the other.
-- Assumes nothing.
use Rattle.std.specs.Prelude.{None, Option, Some, ℤ}
use mathlib.Core.Path.{◌≡◌, refl, sym, ap, ap₂, ◌∙◌, subst}
use mathlib.Core.Bool.{Bool, true, false, not, cond, ◌&&◌, ◌||◌, false≢true}
use mathlib.Core.List.{List, [], ◌∷◌, ◌++◌, map}
use Prim.Native.Nat.{ℕ, zero, suc, ◌+◌, ◌-◌, ◌*◌, ◌/◌, ◌%◌, ◌≤◌, ◌<◌}
use native.Mathlib.Omega.{arith}
use native.Mathlib.Numerals.{add-one}
use borrow.Author.Tests.{eqb-true, eq-eqb, ne_eqb, ltb-true, ltb-false, lt-ltb, le-ltb, leb-true}
use lib.Dec.{T, eqb, ltb, leb}
use lib.Ieee.{Float, binary64, of_bits, is_nan}
use lib.ListN.{length, take, drop, replicate, get_or, length-append, length-drop, length-take, length-replicate}
use Rattle.lists.specs.Lists.{any}
use Rattle.lists.proofs.GatherLaws.{and_left}
use Rattle.answer.specs.Limits.{most_steps, most_start, farthest}
use Rattle.grid.specs.declared.Corner.{Corner}
use Rattle.grid.specs.Grid.{origin, same}
use Rattle.polygon_ring.specs.Bytes.{number_in}
use Rattle.polygon_ring.specs.Coordinate.{whole_of}
use Rattle.polygon_ring.specs.Ring.{both, most_at, point_in, point_at, points_from, is_faulty, corner_in, straight, straight_from, apart, length_from, direction_of, steps_along, start_of, later_of, length_of, chain_of_points, is_ring}
use Rattle.polygon_ring_laws.specs.Reading.{PointFits, PointIs, ring_from, capped}
use Rattle.polygon_laws.proofs.BytesLaws.{Laying, laying_first, laying_more, laying_last, over-lent, part}
use Rattle.polygon_ring_laws.proofs.TakeLaws.{accepted}
use Rattle.polygon_ring_laws.proofs.FieldLaws.{kept_whole, kept-number}
use Rattle.polygon_ring.specs.declared.Point.{Point}

-- ---- one point

pub point_is : (most : ℕ) (little : Bool) (s : List ℕ) (j : Option Corner) (p : Point) → PointIs little s p → j ≡ both (whole_of most p.x) (whole_of most p.y) → j ≡ point_in most little s
unfolding point_in
point_is most little s j p q e = e ∙ ap₂ both (ap (whole_of most) q.x ∙ kept_whole most (number_in little (take 8 s))) (ap (whole_of most) q.y ∙ kept_whole most (number_in little (take 8 (drop 8 s))))

-- a point that is kept can be judged
pub point_numbers : (little : Bool) (s : List ℕ) (p : Point) → PointIs little s p → T (not (is_nan p.x)) × T (not (is_nan p.y))
point_numbers little s p q = (
  subst (λ (x : Float). T (not (is_nan x))) (sym q.x) (kept-number (number_in little (take 8 s))),
  subst (λ (x : Float). T (not (is_nan x))) (sym q.y) (kept-number (number_in little (take 8 (drop 8 s)))),
)

pub first-is : (little : Bool) (s : List ℕ) → point_in most_start little s ≡ point_at little s 0
unfolding point_at
first-is little s = refl

pub later-is : (little : Bool) (s : List ℕ) (i : ℕ) → 0 < i → point_in farthest little (take (length s - 16 * i) (drop (16 * i) s)) ≡ point_at little s i
unfolding point_at
later-is little s i h = ap₂ (λ (m : ℕ) (z : List ℕ). point_in m little z) (most i h) (part s (16 * i))
  where
    most : (i : ℕ) → 0 < i → farthest ≡ most_at i
    most zero h = absurd (omega arith)
    most (suc i) h = refl

pub most_at_le : (i : ℕ) → most_at i ≤ farthest
most_at_le zero = omega arith
most_at_le (suc i) = omega arith

within : (most : ℕ) (x y : Float) (v w : Option ℤ) → most ≤ farthest → whole_of most x ≡ v → whole_of most y ≡ w → PointFits (corner_in (both v w))
within most x y (Some a) (Some b) h e f = record { x = omega (arith, (accepted most x a e).1); y = omega (arith, (accepted most y b f).1) }
within most x y (Some a) None h e f = record { x = omega arith; y = omega arith }
within most x y None w h e f = record { x = omega arith; y = omega arith }

pub near-at : (little : Bool) (s : List ℕ) (i : ℕ) → PointFits (corner_in (point_at little s i))
unfolding point_at point_in
near-at little s i =
    let z = drop (16 * i) s in
    let x = of_bits binary64 (number_in little (take 8 z)) in
    let y = of_bits binary64 (number_in little (take 8 (drop 8 z))) in
    within (most_at i) x y (whole_of (most_at i) x) (whole_of (most_at i) y) (most_at_le i) refl refl

-- ---- the points that are left

places_next : (little : Bool) (s : List ℕ) (i n : ℕ) → i < n → points_from little s i (n - i) ≡ point_at little s i ∷ points_from little s (i + 1) (n - (i + 1))
unfolding points_from
places_next little s i n h =
    let e : n - i ≡ suc (n - (i + 1)) = omega arith in
    ap (points_from little s i) e ∙ ap (λ (m : ℕ). point_at little s i ∷ points_from little s m (n - (i + 1))) (sym (add-one i))

places_none : (little : Bool) (s : List ℕ) (i n : ℕ) → n ≤ i → points_from little s i (n - i) ≡ []
unfolding points_from
places_none little s i n h = let e : n - i ≡ 0 = omega arith in ap (points_from little s i) e

places_all : (little : Bool) (s : List ℕ) (n : ℕ) → points_from little s 0 n ≡ points_from little s 0 (n - 0)
places_all little s n = ap (points_from little s 0) (plain n)
  where
    plain : (n : ℕ) → n ≡ n - 0
    plain n = omega arith

corners-next : (little : Bool) (s : List ℕ) (i n : ℕ) → i < n → ring_from little s i (n - i) ≡ corner_in (point_at little s i) ∷ ring_from little s (i + 1) (n - (i + 1))
corners-next little s i n h = ap (map corner_in) (places_next little s i n h)

pub ring-first : (little : Bool) (s : List ℕ) (n : ℕ) → 0 < n → ring_from little s 0 n ≡ corner_in (point_at little s 0) ∷ ring_from little s 1 (n - 1)
ring-first little s n h = ap (map corner_in) (places_all little s n) ∙ corners-next little s 0 n h

-- ---- a faulty point

pub faulty_first : (little : Bool) (s : List ℕ) (n : ℕ) → any is_faulty (points_from little s 0 n) ≡ any is_faulty (points_from little s 0 (n - 0))
faulty_first little s n = ap (any is_faulty) (places_all little s n)

faulty_next : (little : Bool) (s : List ℕ) (i n : ℕ) (b : Bool) → i < n → b ≡ is_faulty (point_at little s i)
    → any is_faulty (points_from little s i (n - i)) ≡ (b || any is_faulty (points_from little s (i + 1) (n - (i + 1))))
faulty_next little s i n b h e = ap (any is_faulty) (places_next little s i n h) ∙ ap (λ (t : Bool). t || any is_faulty (points_from little s (i + 1) (n - (i + 1)))) (sym e)

pub faulty_found : (little : Bool) (s : List ℕ) (i n : ℕ) (b : Bool) → i < n → b ≡ is_faulty (point_at little s i) → b ≡ true
    → any is_faulty (points_from little s 0 n) ≡ any is_faulty (points_from little s i (n - i)) → true ≡ any is_faulty (points_from little s 0 n)
faulty_found little s i n b h e f p = sym (p ∙ faulty_next little s i n b h e ∙ ap (λ (t : Bool). t || any is_faulty (points_from little s (i + 1) (n - (i + 1)))) f)

faulty_more : (little : Bool) (s : List ℕ) (i n : ℕ) (b : Bool) → i < n → b ≡ is_faulty (point_at little s i) → b ≡ false
    → any is_faulty (points_from little s 0 n) ≡ any is_faulty (points_from little s i (n - i)) → any is_faulty (points_from little s 0 n) ≡ any is_faulty (points_from little s (i + 1) (n - (i + 1)))
faulty_more little s i n b h e f p = p ∙ faulty_next little s i n b h e ∙ ap (λ (t : Bool). t || any is_faulty (points_from little s (i + 1) (n - (i + 1)))) f

-- ---- the pass that judges the points

abbrev rest : Bool → List ℕ → ℕ → ℕ → List Corner
rest little s n i = ring_from little s i (n - i)

pub record Measuring (little : Bool) (s : List ℕ) (n : ℕ) (a : Corner) (line : Bool) (steps i : ℕ) : Type 0 where
  pub here : a ≡ corner_in (point_at little s (i - 1))
  pub sound : any is_faulty (points_from little s 0 n) ≡ any is_faulty (points_from little s i (n - i))
  pub straight : straight_from (corner_in (point_at little s 0)) (rest little s n 1) ≡ (line && straight_from a (rest little s n i))
  pub total : capped (length_from (corner_in (point_at little s 0)) (rest little s n 1)) ≡ capped (steps + length_from a (rest little s n i))
  pub small : steps ≤ suc most_steps
  pub under : capped steps ≡ steps
  pub some : 0 < i
  pub within : i ≤ n

pub near_of : (little : Bool) (s : List ℕ) (i : ℕ) (a : Corner) → a ≡ corner_in (point_at little s i) → PointFits a
near_of little s i a e = subst PointFits (sym e) (near-at little s i)

pub measuring_first : (little : Bool) (s : List ℕ) (n : ℕ) (b : Bool) (a : Corner) → 0 < n → b ≡ is_faulty (point_at little s 0) → b ≡ false → a ≡ corner_in (point_at little s 0) → Measuring little s n a true 0 1
measuring_first little s n b a h f g e = record {
  here = e;
  sound = faulty_more little s 0 n b h f g (faulty_first little s n);
  straight = ap (λ (c : Corner). straight_from c (rest little s n 1)) (sym e);
  total = ap (λ (c : Corner). capped (length_from c (rest little s n 1))) (sym e) ∙ ap capped (plain (length_from a (rest little s n 1)));
  small = omega arith;
  under = refl;
  some = omega arith;
  within = omega arith;
}
  where
    plain : (n : ℕ) → n ≡ 0 + n
    plain n = omega arith

pub measuring_near : {little : Bool} {s : List ℕ} {n : ℕ} {a : Corner} {line : Bool} {steps i : ℕ} → Measuring little s n a line steps i → PointFits a
measuring_near {little = little} {s = s} {a = a} {i = i} p = near_of little s (i - 1) a p.here

capped_le : (n : ℕ) → capped n ≤ suc most_steps
capped_le n = go (ltb most_steps n) refl
  where
    go : (b : Bool) → ltb most_steps n ≡ b → cond b (suc most_steps) n ≤ suc most_steps
    go true e = omega arith
    go false e = omega (arith, ltb-false most_steps n e)

capped_many : (n : ℕ) → most_steps < n → capped n ≡ suc most_steps
capped_many n h = ap (λ (b : Bool). cond b (suc most_steps) n) (lt-ltb most_steps n h)

capped_few : (n : ℕ) → n ≤ most_steps → capped n ≡ n
capped_few n h = ap (λ (b : Bool). cond b (suc most_steps) n) (le-ltb most_steps n h)

capped-twice : (n : ℕ) → capped (capped n) ≡ capped n
capped-twice n = go (ltb most_steps n) refl
  where
    go : (b : Bool) → ltb most_steps n ≡ b → capped (capped n) ≡ capped n
    go true e = let p : capped n ≡ suc most_steps = capped_many n (ltb-true most_steps n e) in ap capped p ∙ sym p
    go false e = let p : capped n ≡ n = capped_few n (ltb-false most_steps n e) in ap capped p

capped-sum : (m n : ℕ) → capped (m + n) ≡ capped (capped m + n)
capped-sum m n = go (ltb most_steps m) refl
  where
    go : (b : Bool) → ltb most_steps m ≡ b → capped (m + n) ≡ capped (capped m + n)
    go true e =
        let p : capped m ≡ suc most_steps = capped_many m (ltb-true most_steps m e) in
        capped_many (m + n) (omega (arith, ltb-true most_steps m e)) ∙ sym (capped_many (capped m + n) (omega arith))
    go false e = ap (λ (k : ℕ). capped (k + n)) (sym (capped_few m (ltb-false most_steps m e)))

and_assoc : (x y z : Bool) → (x && (y && z)) ≡ ((x && y) && z)
and_assoc true y z = refl
and_assoc false y z = refl

and_true : (x : Bool) → (x && true) ≡ x
and_true true = refl
and_true false = refl

module _ (little : Bool) (s : List ℕ) (n : ℕ) (a b : Corner) (line : Bool) (steps i : ℕ) (h : i < n) (e : b ≡ corner_in (point_at little s i)) (p : Measuring little s n a line steps i) where
  left : straight_from a (rest little s n i) ≡ (straight a b && straight_from b (rest little s n (i + 1)))
  left = ap (straight_from a) (corners-next little s i n h) ∙ ap (λ (d : Corner). straight a d && straight_from d (rest little s n (i + 1))) (sym e)

  way : length_from a (rest little s n i) ≡ apart a b + length_from b (rest little s n (i + 1))
  way = ap (length_from a) (corners-next little s i n h) ∙ ap (λ (d : Corner). apart a d + length_from d (rest little s n (i + 1))) (sym e)

  pub measuring_more : (f t : Bool) (k next : ℕ) → f ≡ is_faulty (point_at little s i) → f ≡ false → t ≡ (line && straight a b) → k ≡ apart a b → next ≡ capped (steps + k) → Measuring little s n b t next (i + 1)
  measuring_more f t k next c d g u v = record {
    here = e ∙ ap (λ (j : ℕ). corner_in (point_at little s j)) (back i);
    sound = faulty_more little s i n f h c d p.sound;
    straight =
        p.straight
        ∙ ap (λ (x : Bool). line && x) left
        ∙ and_assoc line (straight a b) (straight_from b (rest little s n (i + 1)))
        ∙ ap (λ (x : Bool). x && straight_from b (rest little s n (i + 1))) (sym g);
    total =
        p.total
        ∙ ap capped (sum steps k (apart a b) (length_from b (rest little s n (i + 1))) (length_from a (rest little s n i)) u way)
        ∙ capped-sum (steps + k) (length_from b (rest little s n (i + 1)))
        ∙ ap (λ (m : ℕ). capped (m + length_from b (rest little s n (i + 1)))) (sym v);
    small = omega (arith, capped_le (steps + k));
    under = ap capped v ∙ capped-twice (steps + k) ∙ sym v;
    some = omega arith;
    within = omega arith;
  }
    where
      sum : (t k j r w : ℕ) → k ≡ j → w ≡ j + r → t + w ≡ t + k + r
      sum t k j r w e f = omega arith

      back : (i : ℕ) → i ≡ i + 1 - 1
      back i = omega arith

-- ---- the length of a file

pub whole_no : (len n : ℕ) → 13 ≤ len → ((len - 13) % 16 ≡ 0 → ⊥) → false ≡ eqb len (13 + 16 * n)
whole_no len n h f = sym (ne_eqb len (13 + 16 * n) (λ e. f (even e)))
  where
    even : len ≡ 13 + 16 * n → (len - 13) % 16 ≡ 0
    even e = omega arith

pub whole_is : (len k n : ℕ) → 13 ≤ len → (len - 13) % 16 ≡ 0 → k ≡ n → eqb k ((len - 13) / 16) ≡ eqb len (13 + 16 * n)
whole_is len k n h z e = go (eqb k ((len - 13) / 16)) refl
  where
    go : (b : Bool) → eqb k ((len - 13) / 16) ≡ b → eqb k ((len - 13) / 16) ≡ eqb len (13 + 16 * n)
    go true f = f ∙ sym (eq-eqb len (13 + 16 * n) (same (eqb-true k ((len - 13) / 16) f)))
      where
        same : k ≡ (len - 13) / 16 → len ≡ 13 + 16 * n
        same g = omega arith
    go false f = f ∙ sym (ne_eqb len (13 + 16 * n) (λ g. false≢true (sym f ∙ eq-eqb k ((len - 13) / 16) (same g))))
      where
        same : len ≡ 13 + 16 * n → k ≡ (len - 13) / 16
        same g = omega arith

-- ---- the pass that writes the chain

pub length-steps_from : (a : Corner) (cs : List Corner) → length (steps_along a cs) ≡ length_from a cs
length-steps_from a [] = refl
length-steps_from a (b ∷ cs) =
    length-append (replicate (apart a b) (direction_of a b)) (steps_along b cs) ∙ ap₂ ◌+◌ (length-replicate (apart a b) (direction_of a b)) (length-steps_from b cs)

pub record Chaining (little : Bool) (s : List ℕ) (n : ℕ) (l out : List ℕ) (a : Corner) (at i : ℕ) : Type 0 where
  pub near : PointFits a
  pub laid : Laying l (steps_along (corner_in (point_at little s 0)) (rest little s n 1)) (steps_along a (rest little s n i)) out at
  pub total : length_from (corner_in (point_at little s 0)) (rest little s n 1) ≡ at + length_from a (rest little s n i)
  pub some : 0 < i
  pub within : i ≤ n

pub chaining_first : (little : Bool) (s : List ℕ) (n : ℕ) (l : List ℕ) (a : Corner) → 0 < n → a ≡ corner_in (point_at little s 0) → Chaining little s n l l a 0 1
chaining_first little s n l a h e = record {
  near = near_of little s 0 a e;
  laid = laying_first (steps_along a (rest little s n 1)) (ap (λ (c : Corner). steps_along c (rest little s n 1)) (sym e));
  total = ap (λ (c : Corner). length_from c (rest little s n 1)) (sym e) ∙ plain (length_from a (rest little s n 1));
  some = omega arith;
  within = omega arith;
}
  where
    plain : (n : ℕ) → n ≡ 0 + n
    plain n = omega arith

module _ (little : Bool) (s : List ℕ) (n : ℕ) (l out : List ℕ) (a b : Corner) (at i : ℕ) (h : i < n) (e : b ≡ corner_in (point_at little s i))
    (fit : length_of (ring_from little s 0 n) ≤ length l) (p : Chaining little s n l out a at i) where
  gone : length_from a (rest little s n i) ≡ apart a b + length_from b (rest little s n (i + 1))
  gone = ap (length_from a) (corners-next little s i n h) ∙ ap (λ (d : Corner). apart a d + length_from d (rest little s n (i + 1))) (sym e)

  going : steps_along a (rest little s n i) ≡ replicate (apart a b) (direction_of a b) ++ steps_along b (rest little s n (i + 1))
  going = ap (steps_along a) (corners-next little s i n h) ∙ ap (λ (d : Corner). replicate (apart a d) (direction_of a d) ++ steps_along d (rest little s n (i + 1))) (sym e)

  pub chaining_room : at + apart a b ≤ length out
  chaining_room =
      sum (length_of (ring_from little s 0 n)) (length_from (corner_in (point_at little s 0)) (rest little s n 1)) (length_from a (rest little s n i)) (apart a b) (length_from b (rest little s n (i + 1))) (length l) (length out)
      fit (ap length_of (ring-first little s n (omega arith))) p.total gone p.laid.same
    where
      sum : (w t m k r x y : ℕ) → w ≤ x → w ≡ t → t ≡ at + m → m ≡ k + r → y ≡ x → at + k ≤ y
      sum w t m k r x y f g u v z = omega arith

  pub chaining_more : (k d : ℕ) (ys : List ℕ) → k ≡ apart a b → d ≡ direction_of a b → ys ≡ replicate k d ++ drop k (take (length out - at) (drop at out))
      → Chaining little s n l (take at out ++ (ys ++ drop (length out - at) (drop at out))) b (at + k) (i + 1)
  chaining_more k d ys u v w =
      let room : at + apart a b ≤ length out = chaining_room in
      let B = replicate k d in
      let size : k ≡ length B = sym (length-replicate k d) in
      let more = steps_along b (rest little s n (i + 1)) in
      record {
        near = near_of little s i b e;
        laid =
            laying_more B more (take at out ++ (ys ++ drop (length out - at) (drop at out))) (at + k) (going ∙ ap₂ (λ (k d : ℕ). replicate k d ++ more) (sym u) (sym v))
            (omega arith) (over-lent out at B ys (omega arith) (w ∙ ap (λ (m : ℕ). B ++ drop m (take (length out - at) (drop at out))) size)) (ap (λ (m : ℕ). at + m) size) p.laid;
        total = p.total ∙ sum at (length_from a (rest little s n i)) k (apart a b) (length_from b (rest little s n (i + 1))) u gone;
        some = omega arith;
        within = omega arith;
      }
    where
      sum : (t m k j r : ℕ) → k ≡ j → m ≡ j + r → t + m ≡ t + k + r
      sum t m k j r e f = omega arith

pub chaining_last : (little : Bool) (s : List ℕ) (n : ℕ) (l out : List ℕ) (a : Corner) (at i : ℕ) → 0 < n → n ≤ i → Chaining little s n l out a at i
    → out ≡ chain_of_points (ring_from little s 0 n) ++ drop (length_of (ring_from little s 0 n)) l
chaining_last little s n l out a at i m h p =
    let none : rest little s n i ≡ [] = ap (map corner_in) (places_none little s i n h) in
    let e : length_of (ring_from little s 0 n) ≡ at = ap length_of (ring-first little s n m) ∙ p.total ∙ ap (λ (c : List Corner). at + length_from a c) none ∙ plain at in
    laying_last (ap (steps_along a) none) p.laid
    ∙ ap₂ (λ (c : List Corner) (k : ℕ). chain_of_points c ++ drop k l) (sym (ring-first little s n m)) (sym e)
  where
    plain : (k : ℕ) → k + 0 ≡ k
    plain k = omega arith

-- ---- what the tests of a ring are, by its points

pub length_places : (little : Bool) (s : List ℕ) (i n : ℕ) → length (ring_from little s i n) ≡ n
unfolding points_from
length_places little s i zero = refl
length_places little s i (suc n) = ap suc (length_places little s (suc i) n)

pub get_d_places : (little : Bool) (s : List ℕ) (i n k : ℕ) → k < n → get_or (ring_from little s i n) k origin ≡ corner_in (point_at little s (i + k))
unfolding points_from
get_d_places little s i zero k h = absurd (omega arith)
get_d_places little s i (suc n) zero h = ap (λ (j : ℕ). corner_in (point_at little s j)) (plain i)
  where
    plain : (i : ℕ) → i ≡ i + 0
    plain i = omega arith
get_d_places little s i (suc n) (suc k) h = get_d_places little s (suc i) n k (omega arith) ∙ ap (λ (j : ℕ). corner_in (point_at little s j)) (over-one i k)
  where
    over-one : (i k : ℕ) → suc i + k ≡ i + suc k
    over-one i k = omega arith

-- the ends, by the points
abbrev closed_at : Bool → List ℕ → ℕ → Bool
closed_at little s n = leb 4 n && same (corner_in (point_at little s (n - 1))) (corner_in (point_at little s 0))

closed_some : (little : Bool) (s : List ℕ) (n : ℕ) (r : Bool) → r ≡ closed_at little s n → r ≡ true → 0 < n
closed_some little s n r e f = go (leb 4 n) refl
  where
    go : (b : Bool) → leb 4 n ≡ b → 0 < n
    go true p = omega (arith, leb-true 4 n p)
    go false p = absurd (false≢true (sym (ap (λ (t : Bool). t && same (corner_in (point_at little s (n - 1))) (corner_in (point_at little s 0))) p) ∙ sym e ∙ f))

ring-is : (little : Bool) (s : List ℕ) (n : ℕ) → is_ring (ring_from little s 0 n) ≡ (closed_at little s n && straight_from (start_of (ring_from little s 0 n)) (later_of (ring_from little s 0 n)))
ring-is little s zero = ap (λ (k : ℕ). leb 4 k && same (get_or (ring_from little s 0 zero) (k - 1) origin) (start_of (ring_from little s 0 zero)) && straight_from (start_of (ring_from little s 0 zero)) (later_of (ring_from little s 0 zero))) (length_places little s 0 zero)
ring-is little s (suc n) =
    let ps = ring_from little s 0 (suc n) in
    let st = straight_from (start_of ps) (later_of ps) in
    let last : get_or ps n origin ≡ corner_in (point_at little s n) = get_d_places little s 0 (suc n) n (omega arith) ∙ ap (λ (j : ℕ). corner_in (point_at little s j)) (plain n) in
    let first : start_of ps ≡ corner_in (point_at little s 0) = ap start_of (ring-first little s (suc n) (omega arith)) in
    ap (λ (k : ℕ). leb 4 k && same (get_or ps (k - 1) origin) (start_of ps) && st) (length_places little s 0 (suc n))
    ∙ ap (λ (k : ℕ). leb 4 (suc n) && same (get_or ps k origin) (start_of ps) && st) (less n)
    ∙ ap₂ (λ (x y : Corner). leb 4 (suc n) && same x y && st) last first
    ∙ ap (λ (k : ℕ). leb 4 (suc n) && same (corner_in (point_at little s k)) (corner_in (point_at little s 0)) && st) (sym (less n))
  where
    plain : (n : ℕ) → 0 + n ≡ n
    plain n = omega arith

    less : (n : ℕ) → suc n - 1 ≡ n
    less n = omega arith

pub ring_some : (little : Bool) (s : List ℕ) (n : ℕ) → is_ring (ring_from little s 0 n) ≡ true → 0 < n
ring_some little s n e =
    closed_some little s n (closed_at little s n) refl
    (and_left (closed_at little s n) (straight_from (start_of (ring_from little s 0 n)) (later_of (ring_from little s 0 n))) (sym (ring-is little s n) ∙ e))

pub record Measured (little : Bool) (s : List ℕ) (n : ℕ) (first last : Corner) (line : Bool) (steps : ℕ) : Type 0 where
  pub sound : any is_faulty (points_from little s 0 n) ≡ false
  pub ring : is_ring (ring_from little s 0 n) ≡ (leb 4 n && same last first && line)
  pub total : capped (length_of (ring_from little s 0 n)) ≡ steps

pub measuring_last : (little : Bool) (s : List ℕ) (n : ℕ) (first a : Corner) (line : Bool) (steps i : ℕ) → n ≤ i → first ≡ corner_in (point_at little s 0) → Measuring little s n a line steps i
    → Measured little s n first a line steps
measuring_last little s n first a line steps i h f p =
    let none : rest little s n i ≡ [] = ap (map corner_in) (places_none little s i n h) in
    let one : ring_from little s 0 n ≡ corner_in (point_at little s 0) ∷ rest little s n 1 = ring-first little s n (omega (arith, p.some, p.within)) in
    let last : corner_in (point_at little s (n - 1)) ≡ a = ap (λ (j : ℕ). corner_in (point_at little s (j - 1))) (whole n i h p.within) ∙ sym p.here in
    record {
      sound = p.sound ∙ ap (any is_faulty) (places_none little s i n h);
      ring =
          ring-is little s n
          ∙ ap₂ ◌&&◌ (ap₂ (λ (x y : Corner). leb 4 n && same x y) last (sym f))
          (ap (λ (ps : List Corner). straight_from (start_of ps) (later_of ps)) one ∙ p.straight ∙ ap (λ (l : List Corner). line && straight_from a l) none ∙ and_true line);
      total =
          ap (λ (ps : List Corner). capped (length_of ps)) one
          ∙ p.total
          ∙ ap (λ (l : List Corner). capped (steps + length_from a l)) none
          ∙ ap capped (plain steps)
          ∙ p.under;
    }
  where
    plain : (k : ℕ) → k + 0 ≡ k
    plain k = omega arith

    whole : (n i : ℕ) → n ≤ i → i ≤ n → n ≡ i
    whole n i h k = omega arith

pub no_points : (little : Bool) (s : List ℕ) (n : ℕ) → n ≡ 0 → [] ≡ points_from little s 0 n
no_points little s n e = sym (places_all little s n ∙ places_none little s 0 n (omega arith))

-- ---- a test that the code turns round

pub not-true : (b : Bool) → not b ≡ true → b ≡ false
not-true false e = refl
not-true true e = sym e

pub not-false : (b : Bool) → not b ≡ false → b ≡ true
not-false true e = refl
not-false false e = sym e

pub part_room : (l : List ℕ) (a k : ℕ) → a + k ≤ length l → k ≤ length (take (length l - a) (drop a l))
part_room l a k h = simp (length-take, length-drop) (omega arith)

-- The tests of a file pass exactly if it is what is asked.
-- Assumes nothing.
use Rattle.std.specs.Prelude.{None, Option, Some}
use mathlib.Core.Path.{◌≡◌, refl, sym, ap, ap₂, ◌∙◌, subst}
use mathlib.Core.Logic.{◌↔◌, inl, inr, ⊎_elim}
use mathlib.Core.Bool.{Bool, true, false, not, cond, ◌&&◌, ◌||◌, false≢true}
use mathlib.Core.List.{List, [], ◌∷◌, ◌++◌, map}
use Prim.Native.Nat.{ℕ, zero, suc, ◌+◌, ◌-◌, ◌*◌, ◌/◌, ◌≤◌, ◌<◌}
use native.Mathlib.Omega.{arith}
use borrow.Author.Tests.{eqb-true, eq-eqb, le-leb, leb-true}
use lib.Dec.{eqb, leb}
use lib.ListN.{length, drop, get_or}
use lib.Seq.{ext_get_or}
use Rattle.lists.specs.Lists.{any}
use Rattle.lists.proofs.GatherLaws.{and_left, and_right}
use Rattle.grid.specs.declared.Corner.{Corner}
use Rattle.grid.specs.Grid.{origin, eq_z, same}
use Rattle.grid.proofs.CornerLaws.{eq_z_sound, eq_z_refl, same_sound, same_refl}
use Rattle.polygon.specs.Polygon.{prefix}
use Rattle.polygon_ring.specs.Bytes.{starts_with}
use Rattle.polygon_ring.specs.Ring.{big_prefix, pick_order, order_of, is_little, is_neither, point_at, points_from, is_faulty, corner_in, straight, straight_from, is_ring, count_in, points_in}
use Rattle.polygon_ring.specs.declared.{Order.Order, Order.TheVariants.Little, Order.TheVariants.Big}
use Rattle.polygon_ring_laws.specs.Reading.{ring_from}
use Rattle.polygon_ring_laws.specs.Files.{header_in, Headed, Sized, IsPoint, HasCorners, OneAxis, IsRing}
use Rattle.polygon_ring_laws.proofs.RingLaws.{length_places, get_d_places}
use Rattle.polygon_ring_laws.proofs.PointLaws.{point_good, sixteen_exactly}

-- ---- the header

starts_sound : (p s : List ℕ) → starts_with p s ≡ true → (rest : List ℕ) × (s ≡ p ++ rest)
unfolding starts_with
starts_sound [] s e = (s, refl)
starts_sound (p ∷ ps) [] e = absurd (false≢true e)
starts_sound (p ∷ ps) (b ∷ s) e =
    let r = starts_sound ps s (and_right (eqb b p) (starts_with ps s) e) in
    (r.0, ap₂ (λ (x : ℕ) (l : List ℕ). x ∷ l) (eqb-true b p (and_left (eqb b p) (starts_with ps s) e)) r.1)

starts_append : (p rest : List ℕ) → starts_with p (p ++ rest) ≡ true
unfolding starts_with
starts_append [] rest = refl
starts_append (p ∷ ps) rest = ap₂ ◌&&◌ (eq-eqb p p refl) (starts_append ps rest)

abbrev order_in : Bool → Option Order
order_in true = Some Little
order_in false = Some Big

order_headed : (little : Bool) (rest : List ℕ) → order_of (header_in little ++ rest) ≡ order_in little
unfolding order_of starts_with
order_headed true rest = ap (λ (b : Bool). pick_order b (Some Little) (pick_order (starts_with big_prefix (prefix ++ rest)) (Some Big) None)) (starts_append prefix rest)
order_headed false rest = ap (λ (b : Bool). pick_order b (Some Big) None) (starts_append big_prefix rest)

pub headed_order : (little : Bool) (file : List ℕ) → Headed little file → (is_neither (order_of file) ≡ false) × (is_little (order_of file) ≡ little)
headed_order little file h = let e = ap order_of h.header ∙ order_headed little h.rest in (ap is_neither e ∙ sure little, ap is_little e ∙ back little)
  where
    sure : (b : Bool) → is_neither (order_in b) ≡ false
    sure true = refl
    sure false = refl

    back : (b : Bool) → is_little (order_in b) ≡ b
    back true = refl
    back false = refl

pub order_some : (file : List ℕ) → 13 ≤ length file → is_neither (order_of file) ≡ false → Headed (is_little (order_of file)) file
unfolding order_of
order_some file h e = go (starts_with prefix file) (starts_with big_prefix file) refl refl
  where
    go : (a b : Bool) → starts_with prefix file ≡ a → starts_with big_prefix file ≡ b → Headed (is_little (order_of file)) file
    go true b f g =
        let r = starts_sound prefix file f in
        let o : order_of file ≡ Some Little = ap (λ (t : Bool). pick_order t (Some Little) (pick_order (starts_with big_prefix file) (Some Big) None)) f in
        subst (λ (l : Bool). Headed l file) (sym (ap is_little o)) (record { enough = h; rest = r.0; header = r.1 })
    go false true f g =
        let r = starts_sound big_prefix file g in
        let o : order_of file ≡ Some Big = ap₂ (λ (t u : Bool). pick_order t (Some Little) (pick_order u (Some Big) None)) f g in
        subst (λ (l : Bool). Headed l file) (sym (ap is_little o)) (record { enough = h; rest = r.0; header = r.1 })
    go false false f g =
        let o : order_of file ≡ None = ap₂ (λ (t u : Bool). pick_order t (Some Little) (pick_order u (Some Big) None)) f g in
        absurd (false≢true (sym e ∙ ap is_neither o))

-- ---- the points

faulty_some : (little : Bool) (s : List ℕ) (i n : ℕ) → any is_faulty (points_from little s i n) ≡ true → (k : ℕ) × (k < i + n) × (is_faulty (point_at little s k) ≡ true)
unfolding points_from
faulty_some little s i zero e = absurd (false≢true e)
faulty_some little s i (suc n) e = go (is_faulty (point_at little s i)) refl (λ h. faulty_some little s (suc i) n h)
  where
    go : (b : Bool) → is_faulty (point_at little s i) ≡ b → (any is_faulty (points_from little s (suc i) n) ≡ true → (k : ℕ) × (k < suc i + n) × (is_faulty (point_at little s k) ≡ true))
        → (k : ℕ) × (k < i + suc n) × (is_faulty (point_at little s k) ≡ true)
    go true f more = (i, omega arith, f)
    go false f more = let r = more (ap (λ (b : Bool). b || any is_faulty (points_from little s (suc i) n)) (sym f) ∙ e) in (r.0, omega (arith, r.1), r.2)

sized_count : (little : Bool) (file : List ℕ) → Sized little file → (length file - 13) / 16 ≡ count_in little file
sized_count little file s = many (length file) (count_in little file) s.size
  where
    many : (l n : ℕ) → l ≡ 13 + 16 * n → (l - 13) / 16 ≡ n
    many l n e = omega arith

module _ (little : Bool) (file : List ℕ) (s : Sized little file) where
  counted : points_in little file ≡ points_from little (drop 13 file) 0 (count_in little file)
  counted = ap (points_from little (drop 13 file) 0) (sized_count little file s)

  -- a point that is not a corner
  pub point_faulty : (i : ℕ) → i < count_in little file → ((c : Corner) → IsPoint little (drop 13 file) i c → ⊥) → any is_faulty (points_in little file) ≡ true
  point_faulty i h f = go (any is_faulty (points_in little file)) refl
    where
      go : (b : Bool) → any is_faulty (points_in little file) ≡ b → any is_faulty (points_in little file) ≡ true
      go true e = e
      go false e =
          let c = (sixteen_exactly little (drop 13 file) (count_in little file)).0 (sym (ap (any is_faulty) counted) ∙ e) i h in
          absurd (f c.0 c.1)

  pub faulty_point : any is_faulty (points_in little file) ≡ true → (i : ℕ) × (i < count_in little file) × ((c : Corner) → IsPoint little (drop 13 file) i c → ⊥)
  faulty_point e =
      let r = faulty_some little (drop 13 file) 0 (count_in little file) (sym (ap (any is_faulty) counted) ∙ e) in
      (r.0, omega (arith, r.1), λ c p. false≢true (sym (ap is_faulty ((point_good little (drop 13 file) r.0 c).1 p)) ∙ r.2))

  -- all of them are corners
  pub points_corners : any is_faulty (points_in little file) ≡ false → HasCorners little file (map corner_in (points_in little file))
  points_corners e =
      let n = count_in little file in
      let P = drop 13 file in
      let ring : map corner_in (points_in little file) ≡ ring_from little P 0 n = ap (map corner_in) counted in
      let all = (sixteen_exactly little P n).0 (sym (ap (any is_faulty) counted) ∙ e) in
      subst (HasCorners little file) (sym ring) (record {
        sized = s;
        count = length_places little P 0 n;
        points = λ i h.
            let k : i < n = subst (λ (m : ℕ). i < m) (length_places little P 0 n) h in
            let c = all i k in
            subst (IsPoint little P i) (sym (get_d_places little P 0 n i k ∙ ap (λ (j : ℕ). corner_in (point_at little P j)) (plain i) ∙ ap corner_in ((point_good little P i c.0).1 c.1))) c.1;
      })
    where
      plain : (i : ℕ) → 0 + i ≡ i
      plain i = omega arith

-- the corners are those that the file's points are read as
pub corners-read : (little : Bool) (file : List ℕ) (ps : List Corner) → HasCorners little file ps → (any is_faulty (points_in little file) ≡ false) × (map corner_in (points_in little file) ≡ ps)
corners-read little file ps h =
    let n = count_in little file in
    let P = drop 13 file in
    let same-many : points_in little file ≡ points_from little P 0 n = counted little file h.sized in
    let at : (i : ℕ) → i < n → i < length ps = λ i k. subst (λ (m : ℕ). i < m) (sym h.count) k in (
      ap (any is_faulty) same-many ∙ (sixteen_exactly little P n).1 (λ i k. (get_or ps i origin, h.points i (at i k))),
      ap (map corner_in) same-many
          ∙ ext_get_or origin (ring_from little P 0 n) ps (length_places little P 0 n ∙ sym h.count) (λ i k.
          let m : i < n = subst (λ (j : ℕ). i < j) (length_places little P 0 n) k in
          get_d_places little P 0 n i m ∙ ap (λ (j : ℕ). corner_in (point_at little P j)) (plain i) ∙ ap corner_in ((point_good little P i (get_or ps i origin)).1 (h.points i (at i m)))),
    )
  where
    plain : (i : ℕ) → 0 + i ≡ i
    plain i = omega arith

-- ---- the ring

axis_by : (a b : Corner) (p q : Bool) → eq_z a.0 b.0 ≡ p → eq_z a.1 b.1 ≡ q → cond p (not q) q ≡ true → OneAxis a b
axis_by a b true false e f t = inl (eq_z_sound a.0 b.0 e, λ g. false≢true (sym f ∙ ap (eq_z a.1) (sym g) ∙ eq_z_refl a.1))
axis_by a b true true e f t = absurd (false≢true t)
axis_by a b false true e f t = inr (λ g. false≢true (sym e ∙ ap (eq_z a.0) (sym g) ∙ eq_z_refl a.0), eq_z_sound a.1 b.1 f)
axis_by a b false false e f t = absurd (false≢true t)

straight-by : (a b : Corner) (p q : Bool) → eq_z a.0 b.0 ≡ p → eq_z a.1 b.1 ≡ q → OneAxis a b → cond p (not q) q ≡ true
straight-by a b true false e f x = refl
straight-by a b false true e f x = refl
straight-by a b true true e f x = absurd (⊎_elim (λ y. y.1 (eq_z_sound a.1 b.1 f)) (λ y. y.0 (eq_z_sound a.0 b.0 e)) x)
straight-by a b false false e f x =
    absurd (⊎_elim
    (λ y. false≢true (sym e ∙ ap (eq_z a.0) (sym y.0) ∙ eq_z_refl a.0))
    (λ y. false≢true (sym f ∙ ap (eq_z a.1) (sym y.1) ∙ eq_z_refl a.1)) x)

straight_exactly : (a b : Corner) → (straight a b ≡ true) ↔ OneAxis a b
straight_exactly a b = (axis_by a b (eq_z a.0 b.0) (eq_z a.1 b.1) refl refl, straight-by a b (eq_z a.0 b.0) (eq_z a.1 b.1) refl refl)

line_sound : (a : Corner) (cs : List Corner) → straight_from a cs ≡ true → (i : ℕ) → suc i < length (a ∷ cs) → OneAxis (get_or (a ∷ cs) i origin) (get_or (a ∷ cs) (suc i) origin)
line_sound a [] e i h = absurd (none i h)
  where
    none : (i : ℕ) → suc i < 1 → ⊥
    none i h = omega arith
line_sound a (b ∷ cs) e zero h = (straight_exactly a b).0 (and_left (straight a b) (straight_from b cs) e)
line_sound a (b ∷ cs) e (suc i) h = line_sound b cs (and_right (straight a b) (straight_from b cs) e) i (omega arith)

line_complete : (a : Corner) (cs : List Corner) → ((i : ℕ) → suc i < length (a ∷ cs) → OneAxis (get_or (a ∷ cs) i origin) (get_or (a ∷ cs) (suc i) origin)) → straight_from a cs ≡ true
line_complete a [] f = refl
line_complete a (b ∷ cs) f = ap₂ ◌&&◌ ((straight_exactly a b).1 (f 0 (omega arith))) (line_complete b cs (λ i h. f (suc i) (omega arith)))

pub ring_exactly : (ps : List Corner) → (is_ring ps ≡ true) ↔ IsRing ps
ring_exactly [] = (λ e. absurd (false≢true e), λ r. absurd (none r.four))
  where
    none : 4 ≤ 0 → ⊥
    none h = omega arith
ring_exactly (a ∷ cs) =
    let n = length (a ∷ cs) in
    let last = get_or (a ∷ cs) (n - 1) origin in (
      (λ e.
          let h = and_left (leb 4 n && same last a) (straight_from a cs) e in
          record {
            four = leb-true 4 n (and_left (leb 4 n) (same last a) h);
            closed = same_sound last a (and_right (leb 4 n) (same last a) h);
            straight = line_sound a cs (and_right (leb 4 n && same last a) (straight_from a cs) e);
          }),
      (λ r. ap₂ ◌&&◌ (ap₂ ◌&&◌ (le-leb 4 n r.four) (ap (λ (c : Corner). same c a) r.closed ∙ same_refl a)) (line_complete a cs r.straight)),
    )

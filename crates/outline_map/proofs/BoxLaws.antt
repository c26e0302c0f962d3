-- The corners of a walk in its box, column after column: more of the place is more of the corner, and a step adds by its digit.
-- Assumes nothing.
use Rattle.std.proofs.Common.{◌≡◌, ℕ, zero, suc, ◌+◌, ◌-◌, ◌*◌, ◌/◌, ◌%◌, ◌^◌, ◌<◌, ◌≤◌, List, [], ◌∷◌, length, get_or, ℤ, pos, negsuc, ◌+ℤ◌, ◌-ℤ◌, sym, refl, ap, ◌∙◌, subst, ap₂, subst₂, inl, inr, mul-le-mul_right, suc-mul, div-add-mod', arith}
use mathlib.Core.List.{Memᴰ}
use native.Mathlib.Decide.{dec_lt}
use native.Mathlib.Nat.{mul-add-div_right, div-eq_of_lt}
use lib.IntN.{suc_ℤ, pred_ℤ, suc-pred}
use Rattle.lists.proofs.DistinctLaws.{get_d_mem}
use Rattle.int_laws.specs.Signed.{up, dn}
use Rattle.int_laws.proofs.LinearLaws.{nat_eq, nat_lt, nat_le, bal+, bal-}
use Rattle.grid.specs.declared.Corner.{Corner}
use Rattle.grid.specs.Grid.{origin, stepped, corners_from, corner_at, Begins}
use Rattle.grid.proofs.StepLaws.{corners_from-at, length-corners_from, start_from_mem}
use Rattle.column_laws.specs.Columns.{middle}
use Rattle.outline_laws.specs.Keys.{offset}
use Rattle.box_laws.specs.Box.{column_at, height_at, box_west, box_south, box_width, box_height, InBox, box_place, place_at, Boxable}
use Rattle.box_laws.proofs.PlaceLaws.{corner_in_lem, corner-column, corner_height, height_few}
use Rattle.box_laws.proofs.StepLaws.{places_few}
use Rattle.outline_map.specs.Map.{Placed, MapBlank}

-- what a step adds to a place, by its digit, in a box of h rows
abbrev columnwise : ℕ → List ℕ
columnwise h = h ∷ 1 ∷ (18446744073709551616 - h) ∷ 18446744073709551615 ∷ []

-- ---- coordinates as offsets

-- z lies x after o
abbrev Lies : ℤ → ℤ → ℕ → Type 0
Lies o z x = up z + dn o ≡ up o + dn z + x

lies : (o z : ℤ) (x : ℕ) → z ≡ o +ℤ pos x → Lies o z x
lies o z x e = omega (arith, ap up e, ap dn e, bal+ o (pos x))

offset_of : (a z : ℤ) (x : ℕ) → z ≡ (a -ℤ pos middle) +ℤ pos x → offset a z ≡ x
offset_of a z x e = omega (arith, lies (a -ℤ pos middle) z x e, bal- a (pos middle), bal- z a)

up_suc : (z : ℤ) → up (suc_ℤ z) + dn z ≡ up z + dn (suc_ℤ z) + 1
up_suc (pos n) = omega arith
up_suc (negsuc zero) = omega arith
up_suc (negsuc (suc n)) = omega arith

up_pred : (z : ℤ) → up z + dn (pred_ℤ z) ≡ up (pred_ℤ z) + dn z + 1
up_pred z = subst (λ (y : ℤ). up y + dn (pred_ℤ z) ≡ up (pred_ℤ z) + dn y + 1) (suc-pred z) (up_suc (pred_ℤ z))

-- ---- the law of places, column after column

row_past : (a b c e h : ℕ) → e < h → a * h + b ≤ c * h + e → c < a → ⊥
row_past a b c e h l q m = let k : suc c * h ≤ a * h = mul-le-mul_right h m in omega (arith, k, suc-mul c h)

module _ (c : Corner) (ds : List ℕ) (w : Boxable ds) where
  abbrev x_of : Corner → ℕ
  x_of p = offset c.0 p.0

  abbrev y_of : Corner → ℕ
  y_of p = offset c.1 p.1

  abbrev place_of : Corner → ℕ
  place_of p = (x_of p - box_west ds) * box_height ds + (y_of p - box_south ds)

  -- a corner of the walk, by its column and its height in the box
  record Cell (p : Corner) : Type 0 where
    inside : InBox ds (x_of p, y_of p)
    x : Lies (c.0 -ℤ pos middle) p.0 (x_of p)
    y : Lies (c.1 -ℤ pos middle) p.1 (y_of p)

  cell : (p : Corner) → Memᴰ p (corners_from c ds) → Cell p
  cell p m = record {
    inside = subst₂ (λ (a b : ℕ). InBox ds (a, b)) (sym ex) (sym ey) (corner_in_lem ds k);
    x = lies (c.0 -ℤ pos middle) p.0 (x_of p) (px ∙ ap (λ (n : ℕ). (c.0 -ℤ pos middle) +ℤ pos n) (sym ex));
    y = lies (c.1 -ℤ pos middle) p.1 (y_of p) (py ∙ ap (λ (n : ℕ). (c.1 -ℤ pos middle) +ℤ pos n) (sym ey));
  }
    where
      found : (i : ℕ) × (i < length (corners_from c ds)) × (get_or (corners_from c ds) i origin ≡ p)
      found = get_d_mem (corners_from c ds) origin m

      k : ℕ
      k = found.0

      e : p ≡ corner_at c ds k
      e = sym found.2 ∙ corners_from-at c ds k origin (omega (arith, found.1, length-corners_from c ds))

      px : p.0 ≡ (c.0 -ℤ pos middle) +ℤ pos (column_at ds k)
      px = ap (λ (q : Corner). q.0) e ∙ corner-column ds w c k

      py : p.1 ≡ (c.1 -ℤ pos middle) +ℤ pos (height_at ds k)
      py = ap (λ (q : Corner). q.1) e ∙ corner_height ds w c k

      ex : x_of p ≡ column_at ds k
      ex = offset_of c.0 p.0 (column_at ds k) px

      ey : y_of p ≡ height_at ds k
      ey = offset_of c.1 p.1 (height_at ds k) py

  short : (p : Corner) → Cell p → y_of p - box_south ds < box_height ds
  unfolding box_height
  short p u = omega (arith, u.inside.north)

  below : (p : Corner) → Cell p → place_of p < box_width ds * box_height ds
  unfolding box_width
  below p u =
      let k : suc (x_of p - box_west ds) * box_height ds ≤ box_width ds * box_height ds = mul-le-mul_right (box_height ds) (omega (arith, u.inside.east)) in
      omega (arith, k, suc-mul (x_of p - box_west ds) (box_height ds), short p u)

  order : (p q : Corner) → Cell p → Cell q → place_of p ≤ place_of q → Begins p q
  order p q u v h =
      elim (dec_lt (x_of q - box_west ds) (x_of p - box_west ds)) [
        | yes l ↦ absurd (row_past (x_of p - box_west ds) (y_of p - box_south ds) (x_of q - box_west ds) (y_of q - box_south ds) (box_height ds) (short q v) h l)
        | no l ↦
            elim (dec_lt (x_of p) (x_of q)) [
              | yes g ↦ inl (nat_lt p.0 q.0 (omega (arith, u.x, v.x)))
              | no g ↦
                  let e : x_of p ≡ x_of q = omega (arith, u.inside.west, v.inside.west) in
                  let s : (x_of p - box_west ds) * box_height ds ≡ (x_of q - box_west ds) * box_height ds = ap (λ (n : ℕ). (n - box_west ds) * box_height ds) e in
                  inr (nat_eq p.0 q.0 (omega (arith, u.x, v.x, e)), nat_le p.1 q.1 (omega (arith, u.y, v.y, s, h, u.inside.south, v.inside.south)))
            ]
      ]

  -- one column on
  column_on : (p q : Corner) → Cell p → x_of q ≡ x_of p + 1 → y_of q ≡ y_of p → place_of q ≡ place_of p + box_height ds
  column_on p q u e f =
      let g : x_of q - box_west ds ≡ suc (x_of p - box_west ds) = omega (arith, e, u.inside.west) in
      omega (arith, f, ap (λ (n : ℕ). n * box_height ds) g, suc-mul (x_of p - box_west ds) (box_height ds))

  -- one row on
  row_on : (p q : Corner) → Cell p → x_of q ≡ x_of p → y_of q ≡ y_of p + 1 → place_of q ≡ place_of p + 1
  row_on p q u e f = omega (arith, f, ap (λ (n : ℕ). (n - box_west ds) * box_height ds) e, u.inside.south)

  onto : (p : Corner) (d : ℕ) → d < 4 → Cell p → Cell (stepped d p) → (place_of p + get_or (columnwise (box_height ds)) d 0) % 2 ^ 64 ≡ place_of (stepped d p)
  onto p zero l u v =
      let e : x_of (stepped 0 p) ≡ x_of p + 1 = omega (arith, u.x, v.x, up_suc p.0) in
      let s = column_on p (stepped 0 p) u e refl in
      omega (arith, s, below (stepped 0 p) v, places_few ds w)
  onto p (suc zero) l u v =
      let e : y_of (stepped 1 p) ≡ y_of p + 1 = omega (arith, u.y, v.y, up_suc p.1) in
      let s = row_on p (stepped 1 p) u refl e in
      omega (arith, s, below (stepped 1 p) v, places_few ds w)
  onto p (suc (suc zero)) l u v =
      let e : x_of p ≡ x_of (stepped 2 p) + 1 = omega (arith, u.x, v.x, up_pred p.0) in
      let s = column_on (stepped 2 p) p v e refl in
      omega (arith, s, below p u, places_few ds w)
  onto p (suc (suc (suc zero))) l u v =
      let e : y_of p ≡ y_of (stepped 3 p) + 1 = omega (arith, u.y, v.y, up_pred p.1) in
      let s = row_on (stepped 3 p) p v refl e in
      omega (arith, s, below p u, places_few ds w)
  onto p (suc (suc (suc (suc d)))) l u v = absurd (omega arith)

  -- the box of a walk places its corners
  box_placed : (size : ℕ) → box_width ds * box_height ds ≤ size → Placed c ds (columnwise (box_height ds)) size place_of
  box_placed size h = record {
    inside = λ p m. omega (arith, h, below p (cell p m));
    order = λ p q m n e. order p q (cell p m) (cell q n) e;
    onto = λ p d l m n. onto p d l (cell p m) (cell (stepped d p) n);
  }

  -- where the start stands, from its place row after row
  start-place : (width height from : ℕ) → width ≡ box_width ds → height ≡ box_height ds → from ≡ place_at ds 0 → from % width * height + from / width ≡ place_of c
  unfolding box_place box_width
  start-place width height from ew eh ef =
      ap₂ (λ (x y : ℕ). x * height + y) (column ∙ sym ex) (row ∙ sym ey)
      ∙ ap (λ (n : ℕ). (x_of c - box_west ds) * n + (y_of c - box_south ds)) eh
    where
      a : ℕ
      a = height_at ds 0 - box_south ds

      b : ℕ
      b = column_at ds 0 - box_west ds

      few : b < width
      few = omega (arith, ew, (corner_in_lem ds 0).east)

      whole : from ≡ a * width + b
      whole = ef ∙ ap (λ (n : ℕ). a * n + b) (sym ew)

      row : from / width ≡ a
      row = ap (λ (n : ℕ). n / width) whole ∙ mul-add-div_right {m = width} (omega (arith, few)) a b ∙ omega (arith, div-eq_of_lt few)

      column : from % width ≡ b
      column = omega (arith, div-add-mod' from width, ap (λ (n : ℕ). n * width) row, whole)

      ex : x_of c - box_west ds ≡ b
      ex = ap (λ (n : ℕ). n - box_west ds) (offset_of c.0 c.0 (column_at ds 0) (corner-column ds w c 0))

      ey : y_of c - box_south ds ≡ a
      ey = ap (λ (n : ℕ). n - box_south ds) (offset_of c.1 c.1 (height_at ds 0) (corner_height ds w c 0))

  start_few : place_of c < 268468225
  start_few = omega (arith, below c (cell c (start_from_mem c ds)), places_few ds w)

-- the box of a walk, and what the pass over it finds
module _ (ds : List ℕ) (width height from : ℕ) (w : Boxable ds) (ew : width ≡ box_width ds) (eh : height ≡ box_height ds) (ef : from ≡ place_at ds 0) where
  -- the place of the start is a small number
  pub start_small : (0 < width) × (from % width * height + from / width < 268468225)
  unfolding box_width
  start_small = (omega (arith, ew), omega (arith, start-place origin ds w width height from ew eh ef, start_few origin ds w))

  -- and so are the rows and the corners of the box
  pub box_small : (0 < height) × (height ≤ 16385) × (width * height ≤ 268468225)
  unfolding box_height
  box_small = (omega (arith, eh), omega (arith, eh, height_few ds w, w.short), omega (arith, ap₂ (λ (x y : ℕ). x * y) ew eh, places_few ds w))

  -- a map of zeros that the box fits into is ready for the walk
  pub box_blank : (map : List ℕ) (start : ℕ) → width * height ≤ length map → ((b : ℕ) → get_or map b 0 ≡ 0) → start ≡ from % width * height + from / width → MapBlank ds start (height ∷ 1 ∷ (18446744073709551615 - height + 1) ∷ 18446744073709551615 ∷ []) map
  box_blank map start h z es = record {
    digits = w.digits;
    four = refl;
    nothing = z;
    placed = λ c. (place_of c ds w, es ∙ start-place c ds w width height from ew eh ef, subst (λ (l : List ℕ). Placed c ds l (length map) (place_of c ds w)) (sym table) (box_placed c ds w (length map) (omega (arith, h, ap₂ (λ (x y : ℕ). x * y) ew eh))));
  }
    where
      back : 18446744073709551615 - height + 1 ≡ 18446744073709551616 - height
      back = omega (arith, box_small.1)

      table : height ∷ 1 ∷ (18446744073709551615 - height + 1) ∷ 18446744073709551615 ∷ [] ≡ columnwise (box_height ds)
      table = ap (λ (n : ℕ). height ∷ 1 ∷ n ∷ 18446744073709551615 ∷ []) back ∙ ap columnwise eh

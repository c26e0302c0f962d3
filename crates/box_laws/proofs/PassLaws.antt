-- The pass that finds the box: after i steps it knows where the walk is and what it reached so far, along both axes.
-- Assumes nothing.
use mathlib.Core.Path.{◌≡◌, refl, sym, ap, ap₂, ◌∙◌}
use mathlib.Core.Bool.{Bool, true}
use mathlib.Core.List.{List}
use mathlib.Core.Logic.{◌↔◌}
use Prim.Native.Nat.{ℕ, ◌+◌, ◌*◌, ◌-◌, ◌≤◌, ◌<◌, min, max}
use native.Mathlib.Omega.{arith}
use native.Mathlib.Nat.{mul-le-mul}
use lib.ListN.{length, get_or, take, length-take}
use lib.Seq.{take_all}
use lib.IntN.{ℤ, pos, ◌+ℤ◌, ◌-ℤ◌}
use Rattle.int_laws.proofs.LinearLaws.{zarith, bal+, bal-}
use Rattle.grid.specs.declared.Corner.{Corner}
use Rattle.grid.specs.Grid.{end_from, corner_at}
use Rattle.grid.proofs.StepLaws.{corner_at_end}
use Rattle.column_laws.specs.Columns.{middle, top, col_after, row_after}
use Rattle.grid.proofs.CornerLaws.{corner_eq}
use Rattle.column_laws.proofs.TrailLaws.{near, near-row}
use Rattle.room_thread_laws.specs.Threads.{Closes}
use Rattle.box_laws.specs.Box.{last_from, low_from, high_from, column_at, height_at, box_width, box_height, box_place, place_at, Boxable, Reached, Framed}
use Rattle.box_laws.proofs.AxisLaws.{low_le, high_ge, last-next, low-next, high-next, last-near, span_le}
use Rattle.box_laws.proofs.PlaceLaws.{corner-column, corner_height}

-- along one axis: at x after i steps, and never below lo nor above hi
pub record Passed (f : ℕ → ℕ → ℕ) (ds : List ℕ) (i x lo hi : ℕ) : Type 0 where
  pub here : x ≡ last_from f middle (take i ds)
  pub low : lo ≡ low_from f middle (take i ds)
  pub high : hi ≡ high_from f middle (take i ds)

module _ (f : ℕ → ℕ → ℕ) (ds : List ℕ) where
  pub passed_start : Passed f ds 0 middle middle middle
  unfolding last_from low_from high_from
  passed_start = record { here = refl; low = refl; high = refl }

  module _ (i x lo hi : ℕ) (p : Passed f ds i x lo hi) where
    pub passed_step : (x' lo' hi' : ℕ) → i < length ds → x' ≡ f x (get_or ds i 0) → lo' ≡ min lo x' → hi' ≡ max hi x' → Passed f ds (i + 1) x' lo' hi'
    passed_step x' lo' hi' l e g h =
        let k : x' ≡ f (last_from f middle (take i ds)) (get_or ds i 0) = e ∙ ap (λ (n : ℕ). f n (get_or ds i 0)) p.here in
        record {
          here = k ∙ sym (last-next f middle ds i l);
          low = g ∙ ap₂ min p.low k ∙ sym (low-next f middle ds i l);
          high = h ∙ ap₂ max p.high k ∙ sym (high-next f middle ds i l);
        }

    -- at the end of the walk
    passed-low : length ds ≤ i → lo ≡ low_from f middle ds
    passed-low h = p.low ∙ ap (low_from f middle) (take_all i ds h)

    passed-high : length ds ≤ i → hi ≡ high_from f middle ds
    passed-high h = p.high ∙ ap (high_from f middle) (take_all i ds h)

    -- the start lies between, and no farther from either end than the walk is long
    passed-span : ((x d : ℕ) → 0 < x → (x ≤ f x d + 1) × (f x d ≤ x + 1)) → Boxable ds → length ds ≤ i → (lo ≤ middle) × (middle ≤ hi) × (hi ≤ lo + middle)
    unfolding last_from
    passed-span near w h = (
      omega (arith, passed-low h, low_le f middle ds 0),
      omega (arith, passed-high h, high_ge f middle ds 0),
      omega (arith, passed-low h, passed-high h, span_le f near middle ds w.short, w.short),
    )

module _ (ds : List ℕ) (w : Boxable ds) where
  -- where the walk is stays within reach of its start
  pub column-near : (k x : ℕ) → x ≡ column_at ds k → k < length ds → (0 < x) × (x ≤ top)
  column-near k x e l =
      let n = length-take k ds in
      let r = last-near col_after near middle (take k ds) (omega (arith, n, w.short)) in
      (omega (arith, n, w.short, r.0), omega (arith, n, w.short, r.1))

  pub height_near : (k y : ℕ) → y ≡ height_at ds k → k < length ds → (0 < y) × (y ≤ top)
  height_near k y e l =
      let n = length-take k ds in
      let r = last-near row_after near-row middle (take k ds) (omega (arith, n, w.short)) in
      (omega (arith, n, w.short, r.0), omega (arith, n, w.short, r.1))

  -- the walk is closed exactly if it ends in the column and at the height of its start
  pub closed_at : (i x y : ℕ) (r : Bool) → length ds ≤ i → i ≤ length ds → x ≡ column_at ds i → y ≡ height_at ds i → (r ≡ true) ↔ ((x ≡ middle) × (y ≡ middle)) → Closes ds r
  closed_at i x y r h g e f t c = (
    (λ q. let m = t.0 q in corner_eq (end_from c ds) c (column ∙ ap (λ (n : ℕ). (c.0 -ℤ pos middle) +ℤ pos n) (sym e ∙ m.0) ∙ sym (at-middle c.0)) (height ∙ ap (λ (n : ℕ). (c.1 -ℤ pos middle) +ℤ pos n) (sym f ∙ m.1) ∙ sym (at-middle c.1))),
    (λ q. t.1 (e ∙ to-middle c.0 (column_at ds i) (sym (ap (λ (p : Corner). p.0) q) ∙ column), f ∙ to-middle c.1 (height_at ds i) (sym (ap (λ (p : Corner). p.1) q) ∙ height))),
  )
    where
      there : end_from c ds ≡ corner_at c ds i
      there = sym (corner_at_end c ds) ∙ ap (corner_at c ds) all
        where
          all : length ds ≡ i
          all = omega arith

      column : (end_from c ds).0 ≡ (c.0 -ℤ pos middle) +ℤ pos (column_at ds i)
      column = ap (λ (p : Corner). p.0) there ∙ corner-column ds w c i

      height : (end_from c ds).1 ≡ (c.1 -ℤ pos middle) +ℤ pos (height_at ds i)
      height = ap (λ (p : Corner). p.1) there ∙ corner_height ds w c i

      at-middle : (z : ℤ) → z ≡ (z -ℤ pos middle) +ℤ pos middle
      at-middle z = omega (zarith, bal- z (pos middle), bal+ (z -ℤ pos middle) (pos middle))

      to-middle : (z : ℤ) (n : ℕ) → z ≡ (z -ℤ pos middle) +ℤ pos n → n ≡ middle
      to-middle z n e = omega (zarith, bal- z (pos middle), bal+ (z -ℤ pos middle) (pos n))

module _ (ds : List ℕ) (w : Boxable ds) (i x y west east south north : ℕ) (p : Passed col_after ds i x west east) (q : Passed row_after ds i y south north) (e : length ds ≤ i) where
  pub found-reached : Reached west east south north
  found-reached =
      let a = passed-span col_after ds i x west east p near w e in
      let b = passed-span row_after ds i y south north q near-row w e in
      let m : east - west + 1 ≤ 16385 = omega (arith, a.2) in
      let n : 16384 - south ≤ 16384 = omega arith in
      record { left = a.0; right = a.1; wide = a.2; lower = b.0; upper = b.1; high = b.2; place = mul-le-mul n m }

  found-width : east - west + 1 ≡ box_width ds
  unfolding box_width
  found-width = omega (arith, passed-low col_after ds i x west east p e, passed-high col_after ds i x west east p e)

  -- and the box is that of the walk
  pub found-wide : (width height from : ℕ) → Framed west east south north width height from → width ≡ box_width ds
  found-wide width height from f = f.wide ∙ found-width

  pub found-high : (width height from : ℕ) → Framed west east south north width height from → height ≡ box_height ds
  unfolding box_height
  found-high width height from f = f.high ∙ omega (arith, passed-low row_after ds i y south north q e, passed-high row_after ds i y south north q e)

  pub found-start : (width height from : ℕ) → Framed west east south north width height from → from ≡ place_at ds 0
  unfolding last_from box_place
  found-start width height from f = f.start ∙ ap₂ ◌+◌ (ap₂ ◌*◌ (ap (λ (n : ℕ). middle - n) (passed-low row_after ds i y south north q e)) found-width) (ap (λ (n : ℕ). middle - n) (passed-low col_after ds i x west east p e))

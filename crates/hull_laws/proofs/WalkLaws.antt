-- The hull of a walk's corners, by columns: any columns that are enough give it, and so there is one.
-- Assumes nothing.
use mathlib.Core.Path.{◌≡◌, refl, sym, ap, ap₂, ◌∙◌, subst}
use mathlib.Core.List.Memᴰ
use mathlib.Core.List.{List, [], ◌∷◌, ◌++◌, map, Memᴰ}
use Prim.Native.Nat.{ℕ, suc, ◌+◌, ◌-◌, ◌≤◌, ◌<◌}
use native.Mathlib.Omega.{arith}
use lib.ListN.{length, get_or}
use lib.IntN.{ℤ, pos, neg_ℤ, ◌+ℤ◌, ◌-ℤ◌}
use Rattle.int_laws.proofs.LinearLaws.{zarith, bal+, bal-, up_neg, dn-neg}
use Rattle.grid.specs.declared.Corner.{Corner}
use Rattle.grid.specs.Grid.{corners_from}
use Rattle.hull.specs.Hull.{HullIs, Encloses}
use Rattle.column_laws.specs.Columns.{trail, west_from, east_from, spot}
use Rattle.hull_laws.specs.Lowest.{sinks, counted_from, half_turned}
use Rattle.hull_laws.specs.Chain.{chain_from, spot_back, col_at, upper, hull_by}
use Rattle.grid.proofs.CornerLaws.{corner_eq}
use Rattle.hull_laws.proofs.ChainLaws.{chain}
use Rattle.hull_laws.proofs.TurnedLaws.{Lows, neg, negs}
use Rattle.hull_laws.proofs.RoundLaws.{round}
use Rattle.hull_laws.proofs.SideLaws.{hull_ok}
use Rattle.column_laws.proofs.TrailLaws.{trail-corners, trail_reaches, trail-column, Reaches, west_le, east_ge}
use Rattle.hull_laws.proofs.SpotLaws.{spots_east, spots_half_turned}
use Rattle.hull_laws.proofs.SinkLaws.{at, up_from, cols_lows}
use Rattle.hull_laws.proofs.ScanLaws.{chain_cols}
use Rattle.hull_laws.proofs.OutlineLaws.{round_cols}

-- the upper chain, turned back
spot_back_lem : (x1 y1 : ℤ) (v : ℕ × ℕ) → neg (spot (neg_ℤ x1) (neg_ℤ y1) v) ≡ spot_back x1 y1 v
spot_back_lem x1 y1 v = corner_eq (neg (spot (neg_ℤ x1) (neg_ℤ y1) v)) (spot_back x1 y1 v) (back x1 v.0) (back y1 v.1)
  where
    back : (z : ℤ) (n : ℕ) → neg_ℤ (neg_ℤ z +ℤ pos n) ≡ z -ℤ pos n
    back z n = omega (zarith, bal- z (pos n), bal+ (neg_ℤ z) (pos n), up_neg z, dn-neg z, up_neg (neg_ℤ z +ℤ pos n), dn-neg (neg_ℤ z +ℤ pos n))

turned-back : (x1 y1 : ℤ) (ys : List ℕ) (l : List ℕ) → negs (map (at (neg_ℤ x1) (neg_ℤ y1) ys) l) ≡ map (λ c. spot_back x1 y1 (col_at ys c)) l
unfolding negs
turned-back x1 y1 ys [] = refl
turned-back x1 y1 ys (c ∷ l) = ap₂ ◌∷◌ (spot_back_lem x1 y1 (col_at ys c)) (turned-back x1 y1 ys l)

-- what is asked of the columns: space for the walk on every side, heights up to h, and no height yet
pub record Room (x y : ℕ) (ds : List ℕ) (h top : ℕ) (a b : List ℕ) : Type 0 where
  pub across : length ds ≤ x
  pub up : length ds ≤ y
  pub high : y + length ds ≤ h
  pub over : h < top
  pub first : suc (east_from x ds - west_from x ds) ≤ length a
  pub second : suc (east_from x ds - west_from x ds) ≤ length b
  pub blank : (c : ℕ) → c ≤ east_from x ds - west_from x ds → get_or a c 0 ≡ top
  pub blank2 : (c : ℕ) → c ≤ east_from x ds - west_from x ds → get_or b c 0 ≡ top

module _ (x0 y0 : ℤ) (x y : ℕ) (ds : List ℕ) (h top : ℕ) (a b : List ℕ) (r : Room x y ds h top a b) where
  w : ℕ
  w = west_from x ds

  e : ℕ
  e = east_from x ds

  vs : List (ℕ × ℕ)
  vs = trail x y ds

  P : List Corner
  P = corners_from (spot x0 y0 (x, y)) ds

  spots : P ≡ map (spot x0 y0) vs
  unfolding P vs
  spots = trail-corners x0 y0 x y ds r.across r.up

  reaches : (v : ℕ × ℕ) → Memᴰ v vs → Reaches x y ds v
  unfolding vs
  reaches = trail_reaches x y ds r.across r.up

  lows : Lows P (map (at (x0 +ℤ pos w) y0 (sinks a (map (counted_from w) vs))) (up_from 0 (suc (e - w))))
  unfolding w e vs
  lows = subst (λ (l : List Corner). Lows l (map (at (x0 +ℤ pos w) y0 (sinks a (map (counted_from w) vs))) (up_from 0 (suc (e - w)))))
      (sym (spots ∙ spots_east x0 y0 w vs (λ v m. (reaches v m).west)))
      (cols_lows (x0 +ℤ pos w) y0 (map (counted_from w) vs) a (suc (e - w)) top r.first (λ c l. r.blank c (omega arith)) inside every)
    where
      inside : (v : ℕ × ℕ) → Memᴰ v (map (counted_from w) vs) → (v.0 < suc (e - w)) × (v.1 < top)
      inside v m =
          let t = Memᴰ.of_map (counted_from w) vs m in
          let u = reaches t.0 t.1 in
          subst (λ (v : ℕ × ℕ). (v.0 < suc (e - w)) × (v.1 < top)) t.2 (omega (arith, u.east), omega (arith, u.below, r.high, r.over))

      every : (c : ℕ) → c < suc (e - w) → (k : ℕ) × Memᴰ (c, k) (map (counted_from w) vs)
      every c l =
          let t = trail-column x y ds r.across (w + c) (omega arith) (omega (arith, west_le x ds, east_ge x ds)) in
          (t.0, subst (λ (n : ℕ). Memᴰ (n, t.0) (map (counted_from w) vs)) less (Memᴰ.map (counted_from w) {a = (w + c, t.0)} t.1))
        where
          less : (w + c) - w ≡ c
          less = omega arith

  turned_lows : Lows (negs P) (map (at (neg_ℤ (x0 +ℤ pos e)) (neg_ℤ (y0 +ℤ pos h)) (sinks b (map (half_turned e h) vs))) (up_from 0 (suc (e - w))))
  unfolding w e vs
  turned_lows = subst (λ (l : List Corner). Lows l (map (at (neg_ℤ (x0 +ℤ pos e)) (neg_ℤ (y0 +ℤ pos h)) (sinks b (map (half_turned e h) vs))) (up_from 0 (suc (e - w)))))
      (sym (ap negs spots ∙ spots_half_turned x0 y0 e h vs (λ v m. ((reaches v m).east, omega (arith, (reaches v m).below, r.high)))))
      (cols_lows (neg_ℤ (x0 +ℤ pos e)) (neg_ℤ (y0 +ℤ pos h)) (map (half_turned e h) vs) b (suc (e - w)) top r.second (λ c l. r.blank2 c (omega arith)) inside every)
    where
      inside : (v : ℕ × ℕ) → Memᴰ v (map (half_turned e h) vs) → (v.0 < suc (e - w)) × (v.1 < top)
      inside v m =
          let t = Memᴰ.of_map (half_turned e h) vs m in
          let u = reaches t.0 t.1 in
          subst (λ (v : ℕ × ℕ). (v.0 < suc (e - w)) × (v.1 < top)) t.2 (omega (arith, u.west, u.east), omega (arith, r.over))

      every : (c : ℕ) → c < suc (e - w) → (k : ℕ) × Memᴰ (c, k) (map (half_turned e h) vs)
      every c l =
          let t = trail-column x y ds r.across (e - c) (omega (arith, west_le x ds, east_ge x ds)) (omega arith) in
          (h - t.0, subst (λ (n : ℕ). Memᴰ (n, h - t.0) (map (half_turned e h) vs)) less (Memᴰ.map (half_turned e h) {a = (e - c, t.0)} t.1))
        where
          less : e - (e - c) ≡ c
          less = omega (arith, west_le x ds, east_ge x ds)

  east-is : (x0 +ℤ pos w) +ℤ pos (e - w) ≡ x0 +ℤ pos e
  unfolding w e
  east-is = sum (west_from x ds) (east_from x ds) (omega (arith, west_le x ds, east_ge x ds))
    where
      sum : (m n : ℕ) → m ≤ n → (x0 +ℤ pos m) +ℤ pos (n - m) ≡ x0 +ℤ pos n
      sum m n l = omega (zarith, bal+ x0 (pos m), bal+ x0 (pos n), bal+ (x0 +ℤ pos m) (pos (n - m)))

  -- the columns of the walk give its hull, with all corners on or left of each edge
  pub columns_both : HullIs (corners_from (spot x0 y0 (x, y)) ds) (hull_by x0 y0 (west_from x ds) (east_from x ds) h (sinks a (map (counted_from (west_from x ds)) (trail x y ds))) (sinks b (map (half_turned (east_from x ds) h) (trail x y ds)))) × Encloses (corners_from (spot x0 y0 (x, y)) ds) (hull_by x0 y0 (west_from x ds) (east_from x ds) h (sinks a (map (counted_from (west_from x ds)) (trail x y ds))) (sinks b (map (half_turned (east_from x ds) h) (trail x y ds))))
  unfolding hull_by w e vs P
  columns_both = subst (λ (L : List Corner). HullIs P L × Encloses P L) joined (hull_ok P (spot x0 y0 (x, y)) here lowers uppers lows turned_lows)
    where
      lo : List ℕ
      lo = sinks a (map (counted_from w) vs)

      hi : List ℕ
      hi = sinks b (map (half_turned e h) vs)

      lowers : List Corner
      lowers = map (at (x0 +ℤ pos w) y0 lo) (up_from 0 (suc (e - w)))

      uppers : List Corner
      uppers = map (at (neg_ℤ (x0 +ℤ pos e)) (neg_ℤ (y0 +ℤ pos h)) hi) (up_from 0 (suc (e - w)))

      here : Memᴰ (spot x0 y0 (x, y)) P
      here = first ds
        where
          first : (ds : List ℕ) → Memᴰ (spot x0 y0 (x, y)) (corners_from (spot x0 y0 (x, y)) ds)
          first [] = Memᴰ.head refl
          first (d ∷ ds) = Memᴰ.head refl

      joined : round (chain lowers) (negs (chain uppers)) ≡ map (λ c. spot (x0 +ℤ pos w) y0 (col_at lo c)) (chain_from lo 0 (suc (e - w))) ++ map (λ c. spot_back (x0 +ℤ pos e) (y0 +ℤ pos h) (col_at hi c)) (upper h lo hi (e - w))
      joined =
          ap₂ (λ (s t : List Corner). round s (negs t)) (chain_cols (x0 +ℤ pos w) y0 lo 0 (suc (e - w))) (chain_cols (neg_ℤ (x0 +ℤ pos e)) (neg_ℤ (y0 +ℤ pos h)) hi 0 (suc (e - w)))
          ∙ ap (round (map (λ c. spot (x0 +ℤ pos w) y0 (col_at lo c)) (chain_from lo 0 (suc (e - w))))) (turned-back (x0 +ℤ pos e) (y0 +ℤ pos h) hi (chain_from hi 0 (suc (e - w))))
          ∙ subst (λ (z : ℤ). round (map (λ c. spot (x0 +ℤ pos w) y0 (col_at lo c)) (chain_from lo 0 (suc (e - w)))) (map (λ c. spot_back z (y0 +ℤ pos h) (col_at hi c)) (chain_from hi 0 (suc (e - w)))) ≡ map (λ c. spot (x0 +ℤ pos w) y0 (col_at lo c)) (chain_from lo 0 (suc (e - w))) ++ map (λ c. spot_back z (y0 +ℤ pos h) (col_at hi c)) (upper h lo hi (e - w))) east-is (round_cols (x0 +ℤ pos w) y0 (e - w) h lo hi)

  pub columns_hull : HullIs (corners_from (spot x0 y0 (x, y)) ds) (hull_by x0 y0 (west_from x ds) (east_from x ds) h (sinks a (map (counted_from (west_from x ds)) (trail x y ds))) (sinks b (map (half_turned (east_from x ds) h) (trail x y ds))))
  columns_hull = columns_both.0

-- A walk that is as many columns wide as it has steps stays on one height: its hull is its two outermost corners.
-- Assumes nothing.
use mathlib.Core.Path.{◌≡◌, refl, sym, ap, ap₂, ◌∙◌, subst}
use mathlib.Core.List.Memᴰ
use mathlib.Core.List.{List, [], ◌∷◌, map, Memᴰ}
use mathlib.Core.Logic.{inl, inr, ⊎_elim}
use Prim.Native.Nat.{ℕ, zero, suc, ◌+◌, ◌-◌, ◌≤◌, ◌<◌}
use native.Mathlib.Omega.{arith}
use lib.ListN.{length}
use lib.IntN.{ℤ, pos, ◌+ℤ◌}
use Rattle.int_laws.proofs.LinearLaws.{zarith, bal+, le_or_lt}
use Rattle.grid.specs.declared.Corner.{Corner}
use Rattle.grid.specs.Grid.{corners_from, Begins}
use Rattle.hull.specs.Hull.{HullIs}
use Rattle.column_laws.specs.Columns.{col_after, row_after, trail, west_from, east_from, spot}
use Rattle.column_laws.proofs.BeginLaws.{begins_both}
use Rattle.column_laws.proofs.TrailLaws.{Reaches, trail-corners, trail-column, trail_reaches, west_le, east_ge, width_le}
use Rattle.hull_laws.proofs.HullLaws.{hull_exists}
use Rattle.hull_laws.proofs.LineLaws.{InLine, Outermost, hull_of_line, row_in_line}

-- a step of such a walk goes east or west, and the rest of it is as wide as it is long
across : (x y d : ℕ) (ds : List ℕ) → length ds < x → west_from x (d ∷ ds) + suc (length ds) ≤ east_from x (d ∷ ds) → (row_after y d ≡ y) × (length ds ≤ col_after x d) × (west_from (col_after x d) ds + length ds ≤ east_from (col_after x d) ds)
unfolding west_from east_from col_after row_after
across x y zero ds h g = (refl, omega arith, omega (arith, west_le (x + 1) ds, east_ge (x + 1) ds))
across x y (suc zero) ds h g = let z : ⊥ = omega (arith, west_le x ds, east_ge x ds, width_le x ds (omega arith)) in absurd z
across x y (suc (suc zero)) ds h g = (refl, omega arith, omega (arith, west_le (x - 1) ds, east_ge (x - 1) ds))
across x y (suc (suc (suc d))) ds h g = let z : ⊥ = omega (arith, west_le x ds, east_ge x ds, width_le x ds (omega arith)) in absurd z

level : (x y : ℕ) (ds : List ℕ) → length ds ≤ x → west_from x ds + length ds ≤ east_from x ds → (v : ℕ × ℕ) → Memᴰ v (trail x y ds) → v.1 ≡ y
unfolding trail
level x y [] h g v (Memᴰ.head e) = ap (λ (u : ℕ × ℕ). u.1) e
level x y [] h g v (Memᴰ.tail m) = absurd (Memᴰ.not-nil m)
level x y (d ∷ ds) h g v (Memᴰ.head e) = ap (λ (u : ℕ × ℕ). u.1) e
level x y (d ∷ ds) h g v (Memᴰ.tail m) =
    let a = across x y d ds (omega arith) g in
    level (col_after x d) (row_after y d) ds a.1 a.2 v m ∙ a.0

-- the hull of a walk along one line, given its outermost corners
hull_of_ends : (s : Corner) (ds : List ℕ) (a b : Corner) → InLine (corners_from s ds) → Memᴰ a (corners_from s ds) → Memᴰ b (corners_from s ds) → ¬ (a ≡ b) → ((q : Corner) → Memᴰ q (corners_from s ds) → Begins a q) → ((q : Corner) → Memᴰ q (corners_from s ds) → Begins q b) → HullIs (corners_from s ds) (a ∷ (b ∷ []))
hull_of_ends s ds a b l i j ne f g = go (hull_exists s ds).0 (hull_exists s ds).1 (hull_of_line (corners_from s ds) (hull_exists s ds).0 (hull_exists s ds).1 l)
  where
    go : (L : List Corner) → HullIs (corners_from s ds) L → Outermost (corners_from s ds) L → HullIs (corners_from s ds) (a ∷ (b ∷ []))
    go [] h o = absurd o
    go (c ∷ []) h o = absurd (ne (o a i ∙ sym (o b j)))
    go (c ∷ (d ∷ [])) h o = subst (HullIs (corners_from s ds)) (ap₂ (λ (x y : Corner). x ∷ (y ∷ [])) first last) h
      where
        first : c ≡ a
        first = begins_both c a (o a i).0 (f c h.starts.0)

        last : d ≡ b
        last = begins_both d b (g d ((h.corners d).0 (Memᴰ.tail (Memᴰ.head refl))).visited) (o b j).1
    go (c ∷ (d ∷ (e ∷ L))) h o = absurd o

module _ (x0 y0 : ℤ) (x y : ℕ) (ds : List ℕ) (h : length ds ≤ x) (g : length ds ≤ y) (some : 0 < length ds) (wide : west_from x ds + length ds ≤ east_from x ds) where
  -- a corner of the walk by its column
  by-column : (q : Corner) → Memᴰ q (corners_from (spot x0 y0 (x, y)) ds) → (c : ℕ) × (west_from x ds ≤ c) × (c ≤ east_from x ds) × (q ≡ spot x0 y0 (c, y))
  by-column q m =
      let r = Memᴰ.of_map (spot x0 y0) (trail x y ds) (subst (Memᴰ q) (trail-corners x0 y0 x y ds h g) m) in
      let k : Reaches x y ds r.0 = trail_reaches x y ds h g r.0 r.1 in
      (r.0.0, k.west, k.east, sym r.2 ∙ ap (λ (n : ℕ). spot x0 y0 (r.0.0, n)) (level x y ds h wide r.0 r.1))

  there : (c : ℕ) → west_from x ds ≤ c → c ≤ east_from x ds → Memᴰ (spot x0 y0 (c, y)) (corners_from (spot x0 y0 (x, y)) ds)
  there c a b =
      let t = trail-column x y ds h c a b in
      subst (Memᴰ (spot x0 y0 (c, y))) (sym (trail-corners x0 y0 x y ds h g)) (subst (λ (n : ℕ). Memᴰ (spot x0 y0 (c, n)) (map (spot x0 y0) (trail x y ds))) (level x y ds h wide (c, t.0) t.1) (Memᴰ.map (spot x0 y0) t.1))

  left_begins : (c d : ℕ) → c ≤ d → Begins (spot x0 y0 (c, y)) (spot x0 y0 (d, y))
  left_begins c d l = ⊎_elim (λ k. inr (omega (zarith, bal+ x0 (pos c), bal+ x0 (pos d)), omega zarith)) (λ k. inl k) (le_or_lt (x0 +ℤ pos d) (x0 +ℤ pos c))

  apart : ¬ (spot x0 y0 (west_from x ds, y) ≡ spot x0 y0 (east_from x ds, y))
  apart e = clash (ap (λ (q : Corner). q.0) e)
    where
      clash : x0 +ℤ pos (west_from x ds) ≡ x0 +ℤ pos (east_from x ds) → ⊥
      clash e = omega (zarith, bal+ x0 (pos (west_from x ds)), bal+ x0 (pos (east_from x ds)))

  pub row_hull : HullIs (corners_from (spot x0 y0 (x, y)) ds) (spot x0 y0 (west_from x ds, y) ∷ (spot x0 y0 (east_from x ds, y) ∷ []))
  row_hull =
      hull_of_ends (spot x0 y0 (x, y)) ds (spot x0 y0 (west_from x ds, y)) (spot x0 y0 (east_from x ds, y))
      (row_in_line (corners_from (spot x0 y0 (x, y)) ds) (y0 +ℤ pos y) (λ q m. ap (λ (q : Corner). q.1) (by-column q m).3))
      (there (west_from x ds) (omega arith) (omega arith)) (there (east_from x ds) (omega arith) (omega arith)) apart
      (λ q m. let k = by-column q m in subst (Begins (spot x0 y0 (west_from x ds, y))) (sym k.3) (left_begins (west_from x ds) k.0 k.1))
      (λ q m. let k = by-column q m in subst (λ (q : Corner). Begins q (spot x0 y0 (east_from x ds, y))) (sym k.3) (left_begins k.0 (east_from x ds) k.2))

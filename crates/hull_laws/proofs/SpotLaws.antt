-- A walk's corners counted from another column, and turned by half a turn.
-- Assumes nothing.
use mathlib.Core.Path.{◌≡◌, refl, sym, ap, ap₂, ◌∙◌}
use mathlib.Core.List.{List, [], ◌∷◌, map, Memᴰ}
use Prim.Native.Nat.{ℕ, ◌-◌, ◌≤◌}
use lib.IntN.{ℤ, pos, neg_ℤ, ◌+ℤ◌}
use Rattle.int_laws.proofs.LinearLaws.{zarith, bal+, up_neg, dn-neg}
use Rattle.grid.specs.declared.Corner.{Corner}
use Rattle.grid.proofs.CornerLaws.{corner_eq}
use Rattle.column_laws.specs.Columns.{spot}
use Rattle.hull_laws.specs.Lowest.{counted_from, half_turned}
use Rattle.hull_laws.proofs.TurnedLaws.{neg, negs}

map_ext : (f g : ℕ × ℕ → Corner) (vs : List (ℕ × ℕ)) → ((v : ℕ × ℕ) → Memᴰ v vs → f v ≡ g v) → map f vs ≡ map g vs
map_ext f g [] h = refl
map_ext f g (v ∷ vs) h = ap₂ ◌∷◌ (h v (Memᴰ.head refl)) (map_ext f g vs (λ u m. h u (Memᴰ.tail m)))

map-spot : (x0 y0 : ℤ) (f : ℕ × ℕ → ℕ × ℕ) (vs : List (ℕ × ℕ)) → map (spot x0 y0) (map f vs) ≡ map (λ v. spot x0 y0 (f v)) vs
map-spot x0 y0 f [] = refl
map-spot x0 y0 f (v ∷ vs) = ap (λ (l : List Corner). spot x0 y0 (f v) ∷ l) (map-spot x0 y0 f vs)

-- the same corners from the column w
pub spots_east : (x0 y0 : ℤ) (w : ℕ) (vs : List (ℕ × ℕ)) → ((v : ℕ × ℕ) → Memᴰ v vs → w ≤ v.0) → map (spot x0 y0) vs ≡ map (spot (x0 +ℤ pos w) y0) (map (counted_from w) vs)
spots_east x0 y0 w vs h = map_ext (spot x0 y0) (λ v. spot (x0 +ℤ pos w) y0 (counted_from w v)) vs each ∙ sym (map-spot (x0 +ℤ pos w) y0 (counted_from w) vs)
  where
    shift : (n : ℕ) → w ≤ n → x0 +ℤ pos n ≡ (x0 +ℤ pos w) +ℤ pos (n - w)
    shift n l = omega (zarith, bal+ x0 (pos n), bal+ x0 (pos w), bal+ (x0 +ℤ pos w) (pos (n - w)))

    each : (v : ℕ × ℕ) → Memᴰ v vs → spot x0 y0 v ≡ spot (x0 +ℤ pos w) y0 (counted_from w v)
    each v m = corner_eq (spot x0 y0 v) (spot (x0 +ℤ pos w) y0 (counted_from w v)) (shift v.0 (h v m)) refl

negs-map : (f : ℕ × ℕ → Corner) (vs : List (ℕ × ℕ)) → negs (map f vs) ≡ map (λ v. neg (f v)) vs
unfolding negs
negs-map f [] = refl
negs-map f (v ∷ vs) = ap (λ (l : List Corner). neg (f v) ∷ l) (negs-map f vs)

-- and turned by half a turn, from the column e and the height k
pub spots_half_turned : (x0 y0 : ℤ) (e k : ℕ) (vs : List (ℕ × ℕ)) → ((v : ℕ × ℕ) → Memᴰ v vs → (v.0 ≤ e) × (v.1 ≤ k)) → negs (map (spot x0 y0) vs) ≡ map (spot (neg_ℤ (x0 +ℤ pos e)) (neg_ℤ (y0 +ℤ pos k))) (map (half_turned e k) vs)
spots_half_turned x0 y0 e k vs h = negs-map (spot x0 y0) vs ∙ map_ext (λ v. neg (spot x0 y0 v)) (λ v. spot x1 y1 (half_turned e k v)) vs each ∙ sym (map-spot x1 y1 (half_turned e k) vs)
  where
    x1 : ℤ
    x1 = neg_ℤ (x0 +ℤ pos e)

    y1 : ℤ
    y1 = neg_ℤ (y0 +ℤ pos k)

    flip : (z : ℤ) (m n : ℕ) → n ≤ m → neg_ℤ (z +ℤ pos n) ≡ neg_ℤ (z +ℤ pos m) +ℤ pos (m - n)
    flip z m n l =
        omega (zarith, bal+ z (pos n), bal+ z (pos m), bal+ (neg_ℤ (z +ℤ pos m)) (pos (m - n)), up_neg (z +ℤ pos n), dn-neg (z +ℤ pos n), up_neg (z +ℤ pos m), dn-neg (z +ℤ pos m))

    each : (v : ℕ × ℕ) → Memᴰ v vs → neg (spot x0 y0 v) ≡ spot x1 y1 (half_turned e k v)
    each v m = corner_eq (neg (spot x0 y0 v)) (spot x1 y1 (half_turned e k v)) (flip x0 e v.0 (h v m).0) (flip y0 k v.1 (h v m).1)

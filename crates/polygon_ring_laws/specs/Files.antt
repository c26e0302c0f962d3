-- What is asked of a file, without tests (RULES 18.2 to 18.6), and the file in the other byte order. Assumes nothing.
use Rattle.std.specs.Prelude.{reverse, ◌⊎◌, Float, ◌≡◌, Bool, true, false, List, ◌∷◌, ◌++◌, length, take, drop, get_or, ℕ, zero, suc, ◌+◌, ◌-◌, ◌*◌, ◌/◌, ◌≤◌, ◌<◌, ℤ, pos, nat_abs, ◌*ℤ◌}
use Rattle.std.specs.Float.{binary64}
use Rattle.std.specs.Float.Ieee.{of_bits}
use Rattle.grid.specs.{declared.Corner.Corner, Grid.origin}
use Rattle.polygon.specs.{Coordinate.scale, Coordinate.IsWhole, Polygon.prefix}
use Rattle.polygon_ring.specs.{Bytes.number_in, Ring.big_prefix, Ring.most_at, Ring.count_in}

-- byte order, type and ring count, the lowest byte first or the highest
abbrev pub header_in : Bool → List ℕ
header_in true = prefix
header_in false = big_prefix

-- thirteen bytes or more, and a polygon of one ring in this byte order
pub record Headed (little : Bool) (file : List ℕ) : Type 0 where
  pub enough : 13 ≤ length file
  pub rest : List ℕ
  pub header : file ≡ header_in little ++ rest

-- sixteen bytes for each point counted
pub record Sized (little : Bool) (file : List ℕ) : Type 0 where
  pub headed : Headed little file
  pub size : length file ≡ 13 + 16 * count_in little file

-- the float is exactly 600 times the whole number k, which is at most `most` from 0
abbrev pub IsCoordinate : ℕ → Float → ℤ → Type 0
IsCoordinate most x k = IsWhole x (pos scale *ℤ k) × (nat_abs k ≤ most)

-- the floats of point i
abbrev pub x_at : Bool → List ℕ → ℕ → Float
x_at little s i = of_bits binary64 (number_in little (take 8 (drop (16 * i) s)))

abbrev pub y_at : Bool → List ℕ → ℕ → Float
y_at little s i = of_bits binary64 (number_in little (take 8 (drop 8 (drop (16 * i) s))))

-- point i is the corner c
abbrev pub IsPoint : Bool → List ℕ → ℕ → Corner → Type 0
IsPoint little s i c = IsCoordinate (most_at i) (x_at little s i) c.0 × IsCoordinate (most_at i) (y_at little s i) c.1

-- the points of the file are the corners ps
pub record HasCorners (little : Bool) (file : List ℕ) (ps : List Corner) : Type 0 where
  pub sized : Sized little file
  pub count : length ps ≡ count_in little file
  pub points : (i : ℕ) → i < length ps → IsPoint little (drop 13 file) i (get_or ps i origin)

-- two corners differ along exactly one axis
abbrev pub OneAxis : Corner → Corner → Type 0
OneAxis a b = ((a.0 ≡ b.0) × (a.1 ≡ b.1 → ⊥)) ⊎ ((a.0 ≡ b.0 → ⊥) × (a.1 ≡ b.1))

-- four points or more, the last is the first, and neighbours differ along exactly one axis
pub record IsRing (ps : List Corner) : Type 0 where
  pub four : 4 ≤ length ps
  pub closed : get_or ps (length ps - 1) origin ≡ get_or ps 0 origin
  pub straight : (i : ℕ) → suc i < length ps → OneAxis (get_or ps i origin) (get_or ps (suc i) origin)

-- n numbers of eight bytes, each with its bytes the other way round
abbrev pub eights_reversed : ℕ → List ℕ → List ℕ
eights_reversed zero s = s
eights_reversed (suc n) s = reverse (take 8 s) ++ eights_reversed n (drop 8 s)

-- the same file in the other byte order: 0 for 1 and 1 for 0, then type, ring count, point count and each coordinate with its
-- bytes the other way round
abbrev pub twin_of : List ℕ → List ℕ
twin_of file =
    (1 - get_or file 0 0) ∷ (reverse (take 4 (drop 1 file))
    ++ (reverse (take 4 (drop 5 file))
    ++ (reverse (take 4 (drop 9 file)) ++ eights_reversed ((length file - 13) / 8) (drop 13 file))))

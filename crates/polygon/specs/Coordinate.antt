-- Coordinates in millimetres, as floats (RULES 13.4). Assumes nothing.
use Rattle.std.specs.Prelude.{Float, ◌≡◌, Bool, true, false, ℕ, ◌*◌, ℤ, pos, neg_ℤ, ◌*ℤ◌}
use Rattle.std.specs.Float.{nan, inf, fin, binary64}
use Rattle.std.specs.Float.Ieee.{up, down, of_int}
use Rattle.grid.specs.declared.Corner.{Corner}

-- millimetres in a panel's side
abbrev pub scale : ℕ
scale = 600

-- 600 times a whole coordinate, as a float
unfoldable pub coordinate_of : ℤ → Float
coordinate_of z = of_int binary64 (pos scale *ℤ z)

-- a magnitude with a sign: minus zero is zero
abbrev pub signed : Bool → ℕ → ℤ
signed true n = neg_ℤ (pos n)
signed false n = pos n

-- the float is finite, and is the whole number z: m * 2 ^ e is the fraction m * up e / down e
unfoldable pub IsWhole : Float → ℤ → Type 0
IsWhole nan z = ⊥
IsWhole (inf s) z = ⊥
IsWhole (fin s m e) z = (n : ℕ) × (m * up e ≡ n * down e) × (z ≡ signed s n)

-- both coordinates of a point are written exactly
abbrev pub Exact : Corner → Type 0
Exact p = IsWhole (coordinate_of p.0) (pos scale *ℤ p.0) × IsWhole (coordinate_of p.1) (pos scale *ℤ p.1)

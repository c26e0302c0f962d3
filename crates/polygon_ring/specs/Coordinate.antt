-- The whole coordinate that a float is (RULES 18.4). Assumes nothing.
use Rattle.std.specs.Prelude.{Float, Bool, true, false, ◌&&◌, ℕ, ◌*◌, ◌/◌, ◌%◌, eqb, None, Option, Some, ℤ, leb}
use Rattle.std.specs.Float.{nan, inf, fin}
use Rattle.std.specs.Float.Ieee.{up, down}
use Rattle.polygon.specs.Coordinate.{scale, signed}

abbrev pub pick : Bool → Option ℤ → Option ℤ → Option ℤ
pick true a b = a
pick false a b = b

-- the coordinate that the fraction a / c with a sign is: a whole multiple of 600, and the multiple is at most `most`
unfoldable pub whole_at : ℕ → Bool → ℕ → ℕ → Option ℤ
whole_at most s a c = pick (eqb (a % (scale * c)) 0 && leb (a / (scale * c)) most) (Some (signed s (a / (scale * c)))) None

-- the coordinate that a float is: m * 2 ^ e is the fraction m * up e / down e
unfoldable pub whole_of : ℕ → Float → Option ℤ
unfolding whole_at
whole_of most nan = None
whole_of most (inf s) = None
whole_of most (fin s m e) = whole_at most s (m * up e) (down e)

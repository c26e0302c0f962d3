-- What the parts of the hull call ask and promise.
-- Assumes nothing.
use Rattle.std.specs.Prelude.{◌≡◌, List, ℕ, suc, ◌-◌, ◌<◌, ◌≤◌, ℤ, length, replicate}
use Rattle.answer.specs.Answers.{Counted}
use Rattle.grid.specs.declared.Corner.{Corner}
use Rattle.grid.specs.Grid.{corners_from}
use Rattle.hull.specs.Hull.{HullIs}
use Rattle.hull_laws.specs.Lowest.{blank}
use Rattle.hull_corners.specs.Parts.{ListGiven}

-- the columns that the medium store has: as many as 1,024 steps go through
abbrev pub medium_size : ℕ
medium_size = 1025

-- working store for the columns w to e
pub record HullStore (w e : ℕ) (lo hi s t : List ℕ) : Type 0 where
  pub low : length lo ≡ suc (e - w)
  pub high : length hi ≡ suc (e - w)
  pub stack : e - w < length s
  pub stack2 : e - w < length t
  pub short : length s ≤ suc blank
  pub short2 : length t ≤ suc blank
  pub clear : lo ≡ replicate (length lo) blank
  pub clear2 : hi ≡ replicate (length hi) blank

-- the hull of the walk is listed
pub record Hulled (c : Corner) (chain : List ℕ) (before : List ℤ) (r : Counted) (after : List ℤ) : Type 0 where
  pub list : List Corner
  pub hull : HullIs (corners_from c chain) list
  pub listed : ListGiven list before r after

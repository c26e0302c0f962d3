-- The decision on a room: the places of its four extremal corners, the parts between them, and the decision on each.
-- Assumes nothing.
use Rattle.std.specs.Prelude.{Bool, ◌&&◌, List, ℕ, ◌-◌, leb, take, drop}
use Rattle.grid.specs.declared.Corner.{Corner}
use Rattle.panels.specs.Moved.{started_at}
use Rattle.convex.specs.Parts.{turned_by, clockwise}
use Rattle.convex_laws.specs.Level.{convex_part}
use Rattle.convex_laws.specs.Place.{place_of}

-- the decision on a room that begins at its first extremal corner and has the others at places j, k and l
unfoldable pub convex_at : ℕ → ℕ → ℕ → List ℕ → Bool
convex_at j k l ds =
    (leb j k && leb k l)
    && ((convex_part (take j ds) && convex_part (turned_by 1 (take (k - j) (drop j ds))))
    && (convex_part (turned_by 2 (take (l - k) (drop k ds))) && convex_part (turned_by 3 (drop l ds))))

-- on a room that begins at its first extremal corner
unfoldable pub convex_from : List ℕ → Bool
convex_from ds = convex_at (place_of 1 ds) (place_of 2 ds) (place_of 3 ds) ds

-- on a room that is travelled clockwise
unfoldable pub convex_round : List ℕ → Bool
convex_round ds = convex_from (started_at (place_of 0 ds) ds)

-- on any room
unfoldable pub convex_of : Corner → List ℕ → Bool
convex_of c ds = convex_round (clockwise c ds)

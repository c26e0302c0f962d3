-- What the first pass over the points finds. Assumes nothing.
use Rattle.lists.specs.Lists.{any}
use Rattle.std.specs.Prelude.{map, Bool, true, false, List, ℕ, Err, Ok, Option}
use Rattle.grid.specs.declared.Corner.{Corner}
use Rattle.polygon_ring.specs.Ring.{is_faulty, corner_in, start_of, length_of, is_ring}
use Rattle.answer.specs.declared.{Refusal.TheVariants.BadCoordinate, Refusal.TheVariants.BadRing}
use Rattle.polygon_ring.specs.Answers.{Given}
use Rattle.polygon_ring_laws.specs.Reading.{capped}

-- by two tests: whether a point is not a corner, and whether the points are a ring
abbrev pub measured_by : Bool → Bool → Corner → ℕ → Given
measured_by true ring c n = Err BadCoordinate
measured_by false false c n = Err BadRing
measured_by false true c n = Ok (record { start = c; steps = n })

abbrev pub measured_of : List (Option Corner) → Given
measured_of ps =
    measured_by (any is_faulty ps) (is_ring (map corner_in ps)) (start_of (map corner_in ps))
    (capped (length_of (map corner_in ps)))

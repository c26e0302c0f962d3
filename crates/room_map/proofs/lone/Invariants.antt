-- What the loops of `room_map::lone` keep.
use Rattle.std.proofs.Common.{◌≡◌, length}
use Rattle.room_map.specs.Map.{Marked}
use Rattle.room_map.proofs.lone.Given as goal

abbrev pub invariant-loop-d : goal.invariant-loop-d
invariant-loop-d l = (length l.map ≡ length l.initial.map) × Marked l.chain l.d-index l.at l.map

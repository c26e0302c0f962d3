-- Rooms and their refusals, computed.
-- Assumes nothing.
use Rattle.std.specs.Prelude.{Err, Ok}
use mathlib.Core.Bool.{true, false}
use mathlib.Core.List.{[], ◌∷◌}
use mathlib.Core.Path.{◌≡◌, refl}
use lib.IntN.{pos, negsuc}
use Rattle.answer.specs.declared.Refusal.TheVariants.{StartRange, BadDigit, NotRoom}
use Rattle.answer.specs.Limits.{start_fits}
use Rattle.grid.specs.Grid.{corner, origin}
use Rattle.room.specs.Room.{as_room_judged}

-- one panel, from the farthest start
one-panel : as_room_judged (corner (pos 16384) (negsuc 16383)) (0 ∷ 1 ∷ 2 ∷ 3 ∷ []) ≡ Ok tt
one-panel = refl

-- there and back is not a room, though it is closed and meets nowhere else
pub there_and_back : as_room_judged origin (0 ∷ 2 ∷ []) ≡ Err NotRoom
there_and_back = refl

-- a walk that does not come back
open_walk : as_room_judged origin (0 ∷ 1 ∷ 2 ∷ []) ≡ Err NotRoom
open_walk = refl

-- a walk that crosses itself
crossed : as_room_judged origin (0 ∷ 0 ∷ 1 ∷ 2 ∷ 3 ∷ 2 ∷ []) ≡ Err NotRoom
crossed = refl

nowhere : as_room_judged origin [] ≡ Err NotRoom
nowhere = refl

-- the start is judged before the chain
start_first : as_room_judged (corner (pos 0) (negsuc 16384)) (9 ∷ []) ≡ Err StartRange
start_first = refl

-- and the chain before the room
pub digit_first : as_room_judged origin (0 ∷ 4 ∷ []) ≡ Err (BadDigit 1)
digit_first = refl

start_too_far : start_fits (corner (pos 16385) (pos 0)) ≡ false
start_too_far = refl

start-farthest : start_fits (corner (negsuc 16383) (pos 16384)) ≡ true
start-farthest = refl

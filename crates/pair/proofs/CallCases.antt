-- The refusals of two parties in their order, computed on small inputs.
-- Assumes nothing.
use Rattle.std.specs.Prelude.{Err, Ok}
use mathlib.Core.Bool.{true, false}
use mathlib.Core.List.{[], ◌∷◌}
use mathlib.Core.Path.{◌≡◌, refl}
use Prim.Native.Nat.{◌*◌}
use lib.ListN.{length}
use lib.IntN.{pos, negsuc}
use Rattle.answer.specs.declared.Refusal.TheVariants.{Table, ResultRoom, BadDigit, NothingToTake, NoRoom, StartRange, UnknownParty}
use Rattle.answer.specs.declared.Verdict.TheVariants.{Open, Room}
use Rattle.grid.specs.Grid.{corner, origin}
use Rattle.pair_table.specs.Slots.{needs_of}
use Rattle.pair.specs.Call.{pair_fits, pair_judged, pair_answer}

-- 36 words for each of 1 to 262,296 records
smallest_table : pair_fits 36 ≡ true
smallest_table = refl

no_table : pair_fits 0 ≡ false
no_table = refl

largest_table : pair_fits (36 * 262296) ≡ true
largest_table = refl

larger_table : pair_fits (36 * 262297) ≡ false
larger_table = refl

-- 2 before 3 before 10 before 20
table_first : pair_judged (corner (pos 20000) (pos 0)) origin (37 ∷ []) 35 0 0 0
    ≡ Err Table
table_first = refl

room_second : pair_judged (corner (pos 20000) (pos 0)) origin (37 ∷ []) 36 3 1 0
    ≡ Err ResultRoom
room_second = refl

start_third : pair_judged origin (corner (pos 0) (negsuc 16384)) (37 ∷ []) 36 3 1 1
    ≡ Err StartRange
start_third = refl

start-at_the_edge : pair_judged (corner (pos 16384) (negsuc 16383)) origin [] 1440 0 0 0
    ≡ Ok tt
start-at_the_edge = refl

-- 20 wins on one byte; 4, 5 and 6 at an earlier place win over it
party_before_digit : pair_judged origin origin (37 ∷ []) 36 3 1 1
    ≡ Err (UnknownParty 0)
party_before_digit = refl

digit_first : pair_judged origin origin (0 ∷ 21 ∷ 32 ∷ []) 36 9 3 3
    ≡ Err (BadDigit 1)
digit_first = refl

-- party 1 has nothing to take, whatever party 0 has
nothing_of_its-own : pair_judged origin origin (0 ∷ 20 ∷ []) 72 6 2 2
    ≡ Err (NothingToTake 1)
nothing_of_its-own = refl

-- a fault at any place before 7 at an earlier one
fault_before-room : pair_judged origin origin (0 ∷ 0 ∷ 20 ∷ []) 36 9 3 3
    ≡ Err (NothingToTake 2)
fault_before-room = refl

-- the union counts: both need (1,0)
room_for_both : pair_judged origin origin (0 ∷ 16 ∷ []) 72 6 2 2
    ≡ Ok tt
room_for_both = refl

no_room_for_both : pair_judged origin origin (0 ∷ 17 ∷ []) 72 6 2 2
    ≡ Err (NoRoom 1)
no_room_for_both = refl

-- before the first operation the place is 0
no_room-at_the_start : pair_judged (corner (pos 2) (pos 0)) origin (0 ∷ []) 72 3 1 1
    ≡ Err (NoRoom 0)
no_room-at_the_start = refl

no_room_empty : pair_judged (corner (pos 2) (pos 0)) (corner (pos 0) (pos 1)) [] 72 0 0 0
    ≡ Err (NoRoom 0)
no_room_empty = refl

-- a take-back would mend it, but it is refused at the first place
room_mended : pair_judged origin origin (0 ∷ 17 ∷ 20 ∷ []) 72 9 3 3
    ≡ Err (NoRoom 1)
room_mended = refl

-- neighbouring operations exchanged: one order may be refused because the table is full, and the other accepted
back_then_step : pair_judged origin origin (0 ∷ 4 ∷ 17 ∷ []) 72 9 3 3
    ≡ Ok tt
back_then_step = refl

step_then_back : pair_judged origin origin (0 ∷ 17 ∷ 4 ∷ []) 72 9 3 3
    ≡ Err (NoRoom 1)
step_then_back = refl

-- a room of the first from (1,0), one step of the second from (-1,0), mixed: nodes once, the rest for each
answer_of_both : pair_answer (corner (pos 1) (pos 0)) (corner (negsuc 0) (pos 0)) (0 ∷ 16 ∷ 1 ∷ 2 ∷ 3 ∷ []) 432 15 5 5
    ≡ Ok (record { nodes = 6; first = record { verdict = Room; steps = 4; corners = 4; j = 0; k = 4; area = pos 1; last = corner (pos 1) (pos 0) }; second = record { verdict = Open; steps = 1; corners = 2; j = 65535; k = 65535; area = pos 0; last = corner (pos 0) (pos 0) } })
answer_of_both = refl

-- two far starts need more than eight nodes for each of their two corners
starts_need-more : length (needs_of (corner (pos 16384) (pos 16384)) (corner (negsuc 16383) (negsuc 16383)) [] [])
    ≡ 31
starts_need-more = refl

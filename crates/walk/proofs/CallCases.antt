-- The walk's refusals in their order, its answer and its buffers, computed on small inputs.
-- Assumes nothing.
use Rattle.std.specs.Prelude.{Err, Ok}
use mathlib.Core.Bool.{true, false}
use mathlib.Core.List.{List, [], ◌∷◌}
use mathlib.Core.Path.{◌≡◌, refl}
use Prim.Native.Nat.{ℕ, ◌+◌, ◌-◌, ◌*◌}
use lib.IntN.{pos, negsuc}
use lib.ListN.{length}
use Rattle.answer.specs.Answers.{Judged}
use Rattle.answer.specs.declared.Refusal.TheVariants.{Table, ResultRoom, BadDigit, NothingToTake, NoRoom, StartRange}
use Rattle.grid.specs.declared.Corner.{Corner}
use Rattle.grid.specs.Grid.{corner, origin}
use Rattle.layout.specs.Marks.{mark_words}
use Rattle.layout.specs.Table.{width}
use Rattle.walk.specs.Walk.{table_fits, walk_judged, walk_answer, facts_of, buffer_by}

-- the judgement with this many records, and marks and a chain of the lengths asked
abbrev judged_in : ℕ → List ℕ → Judged
judged_in records os = walk_judged origin os (width * records) (mark_words * length os) (length os)

-- one step too far west
abbrev far : Corner
far = corner (negsuc 16384) (pos 0)

-- the words of 1 to 131,148 records
smallest_table : table_fits width ≡ true
smallest_table = refl

no_table : table_fits 0 ≡ false
no_table = refl

part_of_a_record : table_fits (width + 1) ≡ false
part_of_a_record = refl

largest_table : table_fits (width * 131148) ≡ true
largest_table = refl

larger_table : table_fits (width * 131149) ≡ false
larger_table = refl

-- 2 before 3 before 4
table_first : walk_judged origin (5 ∷ []) (width - 1) 0 0 ≡ Err Table
table_first = refl

room_second : walk_judged origin (5 ∷ []) width mark_words 0 ≡ Err ResultRoom
room_second = refl

-- 3 before 10 before 4: a start is at most 16,384 from 0 on each axis
room-before-start : walk_judged far (5 ∷ []) width mark_words 0 ≡ Err ResultRoom
room-before-start = refl

start-before_digits : walk_judged far (5 ∷ []) width mark_words 1 ≡ Err StartRange
start-before_digits = refl

farthest-start : walk_judged (corner (pos 16384) (negsuc 16383)) [] (width * 400) 0 0 ≡ Ok tt
farthest-start = refl

-- 7 before the first operation, at place 0, if the table is too small for the start and its ancestors; 4, 5 and 6 come before it
start_without_room : walk_judged (corner (pos 3) (negsuc 1)) [] (width * 2) 0 0 ≡ Err (NoRoom 0)
start_without_room = refl

start_with_room : walk_judged (corner (pos 3) (negsuc 1)) [] (width * 3) 0 0 ≡ Ok tt
start_with_room = refl

digits_before_the_start's_room : walk_judged (corner (pos 3) (negsuc 1)) (0 ∷ 4 ∷ 4 ∷ []) width (mark_words * 3) 3 ≡ Err (NothingToTake 2)
digits_before_the_start's_room = refl

-- 4 and 5 at any place before 7 at an earlier one
digits_before-room : judged_in 1 (0 ∷ 0 ∷ 5 ∷ []) ≡ Err (BadDigit 2)
digits_before-room = refl

nothing-before-room : judged_in 1 (0 ∷ 4 ∷ 4 ∷ []) ≡ Err (NothingToTake 2)
nothing-before-room = refl

-- 7 at the first place after which the nodes needed exceed the records, also if a take-back would mend it
first_without_room : judged_in 2 (0 ∷ 0 ∷ 4 ∷ []) ≡ Err (NoRoom 1)
first_without_room = refl

just_enough_room : judged_in 2 (0 ∷ 2 ∷ 0 ∷ 4 ∷ []) ≡ Ok tt
just_enough_room = refl

-- "no room" sets a buffer to zero, any other refusal leaves it
zeros_for_no_room : buffer_by (Err (NoRoom 3)) (1 ∷ 1 ∷ []) (7 ∷ 7 ∷ []) ≡ 0 ∷ 0 ∷ []
zeros_for_no_room = refl

untouched_otherwise : buffer_by (Err (BadDigit 3)) (1 ∷ 1 ∷ []) (7 ∷ 7 ∷ []) ≡ 7 ∷ 7 ∷ []
untouched_otherwise = refl

refused_answer : walk_answer origin (4 ∷ []) width mark_words 1 ≡ Err (NothingToTake 0)
refused_answer = refl

accepted_answer : walk_answer origin (0 ∷ 4 ∷ []) (width * 2) (mark_words * 2) 2 ≡ Ok (facts_of origin [])
accepted_answer = refl

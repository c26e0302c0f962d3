-- When each answer of the walk is given: the table of refusals, one row for each constructor (RULES 6.1 to 6.3).
-- Assumes nothing.
use Rattle.std.specs.Prelude.{List, ◌≡◌, ℕ, suc, ◌*◌, ◌<◌, ◌≤◌, pred, length, Err, Ok, get_or}
use Rattle.answer.specs.Answers.{Judged}
use Rattle.answer.specs.declared.Refusal.TheVariants.{TooMany, Table, ResultRoom, BadDigit, NothingToTake, TooLong, NoRoom, StartRange}
use Rattle.answer.specs.Limits.{most_input, most_steps, most_records, Near}
use Rattle.grid.specs.declared.Corner.{Corner}
use Rattle.steps.specs.Operations.{Fine}
use Rattle.layout.specs.Marks.{mark_words}
use Rattle.layout.specs.Table.{width, records_in}
use Rattle.demands.specs.Moments.{steps_after, nodes_after, Exceeds}

-- the words are those of a record times a count of 1 to 131,148
abbrev pub HasRecords : ℕ → Type 0
HasRecords words = (r : ℕ) × (1 ≤ r) × (r ≤ most_records) × (words ≡ r * width)

-- three words of marks and one byte of chain for each operation
abbrev pub HasRoom : List ℕ → ℕ → ℕ → Type 0
HasRoom os marks chain = (marks ≡ mark_words * length os) × (chain ≡ length os)

-- operation i has no fault
abbrev pub FineAt : List ℕ → ℕ → Type 0
FineAt os i = Fine (length (steps_after os i)) (get_or os i 0)

-- the three faults of an operation: a byte above 4; operation 4 with no surviving step; a step that would be the 16,385th
abbrev pub BadDigitAt : List ℕ → ℕ → Type 0
BadDigitAt os i = 4 < get_or os i 0

abbrev pub NothingAt : List ℕ → ℕ → Type 0
NothingAt os i = (get_or os i 0 ≡ 4) × (length (steps_after os i) ≡ 0)

abbrev pub TooLongAt : List ℕ → ℕ → Type 0
TooLongAt os i = (get_or os i 0 < 4) × (most_steps ≤ length (steps_after os i))

-- place i of n is bad, and all places before it are fine
pub record FirstAt (n : ℕ) (fine bad : ℕ → Type 0) (i : ℕ) : Type 0 where
  pub inside : i < n
  pub before : (h : ℕ) → h < i → fine h
  pub here : bad i

-- 1, 2, 3 and 10 are out of the question
pub record WalkSized (c : Corner) (os : List ℕ) (words marks chain : ℕ) : Type 0 where
  pub few : length os ≤ most_input
  pub table : HasRecords words
  pub room : HasRoom os marks chain
  pub start : Near c

-- and so are 4, 5 and 6: nothing is wrong with the call, apart from the size of the table
pub record Faultless (c : Corner) (os : List ℕ) (words marks chain : ℕ) : Type 0 where
  pub sized : WalkSized c os words marks chain
  pub fine : (i : ℕ) → i < length os → FineAt os i

-- k operations are the fewest after which the nodes needed exceed the records
abbrev pub NoRoomAfter : Corner → List ℕ → ℕ → ℕ → Type 0
NoRoomAfter c os records k =
    FirstAt (suc (length os)) (λ h. nodes_after c os h ≤ records) (λ h. Exceeds (nodes_after c os h) records) k

-- the occasion of each judgement; the place of "no room" is k - 1, and 0 before the first operation
pub data GivenWalk (c : Corner) (os : List ℕ) (words marks chain : ℕ) : Judged → Type 0 where
  too_many : most_input < length os → GivenWalk c os words marks chain (Err TooMany)
  table : length os ≤ most_input → (HasRecords words → ⊥) → GivenWalk c os words marks chain (Err Table)
  result_room : length os ≤ most_input → HasRecords words → (HasRoom os marks chain → ⊥)
      → GivenWalk c os words marks chain (Err ResultRoom)
  start_range : length os ≤ most_input → HasRecords words → HasRoom os marks chain → (Near c → ⊥)
      → GivenWalk c os words marks chain (Err StartRange)
  bad_digit : (i : ℕ) → WalkSized c os words marks chain → FirstAt (length os) (FineAt os) (BadDigitAt os) i
      → GivenWalk c os words marks chain (Err (BadDigit i))
  nothing_to_take : (i : ℕ) → WalkSized c os words marks chain → FirstAt (length os) (FineAt os) (NothingAt os) i
      → GivenWalk c os words marks chain (Err (NothingToTake i))
  too_long : (i : ℕ) → WalkSized c os words marks chain → FirstAt (length os) (FineAt os) (TooLongAt os) i
      → GivenWalk c os words marks chain (Err (TooLong i))
  no_room : (i k : ℕ) → Faultless c os words marks chain → NoRoomAfter c os (records_in words) k → i ≡ pred k
      → GivenWalk c os words marks chain (Err (NoRoom i))
  accepted : Faultless c os words marks chain → ((k : ℕ) → k ≤ length os → nodes_after c os k ≤ records_in words)
      → GivenWalk c os words marks chain (Ok tt)

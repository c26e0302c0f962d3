-- When each answer to a line is given (RULES 7.2, 7.3, 14.7). Assumes nothing.
use Rattle.std.specs.Prelude.{List, ◌≡◌, ℕ, ◌<◌, ◌≤◌, pred, Err, Ok, length}
use Rattle.answer.specs.Answers.{Judged}
use Rattle.answer.specs.declared.Refusal.{Refusal}
use Rattle.answer.specs.declared.Refusal.TheVariants.{BadDigit, NothingToTake, NoRoom, BadLine, NotRoom, RetiredKind}
use Rattle.lists.specs.Lists.{Below}
use Rattle.grid.specs.Grid.{origin}
use Rattle.steps.specs.Operations.{survivors}
use Rattle.trace.specs.Verdict.{IsRoom}
use Rattle.line_frame.specs.Sizes.{most_digits, frame_records}
use Rattle.line_frame.specs.Converted.{framed}
use Rattle.demands.specs.Moments.{nodes_after}
use Rattle.demands.specs.Given.{FineAt, BadDigitAt, NothingAt, FirstAt, NoRoomAfter}

-- the line is the frame of this kind with these digits, at most 0400 of them: it is what they spell
pub record FrameIs (s : List ℕ) (kind : ℕ) (ds : List ℕ) : Type 0 where
  pub few : length ds ≤ most_digits
  pub digits : Below 16 ds
  pub spelled : s ≡ framed kind ds

-- it is one of kind 00 with these operations, and none of them has a fault
pub record FineFrame (s os : List ℕ) : Type 0 where
  pub frame : FrameIs s 0 os
  pub fine : (i : ℕ) → i < length os → FineAt os i

-- the occasion of each judgement of a line: 9 if it is not a frame, 19 if it is one of kind 01; of kind 00 then 4 and 5 at the
-- first faulty place, and then 7 if the walk needs more than 320 nodes at some moment
pub data GivenLine (s : List ℕ) : Judged → Type 0 where
  bad_line : ((kind : ℕ) (ds : List ℕ) → kind < 2 → FrameIs s kind ds → ⊥) → GivenLine s (Err BadLine)
  retired_kind : (ds : List ℕ) → FrameIs s 1 ds → GivenLine s (Err RetiredKind)
  bad_digit : (os : List ℕ) (i : ℕ) → FrameIs s 0 os → FirstAt (length os) (FineAt os) (BadDigitAt os) i
      → GivenLine s (Err (BadDigit i))
  nothing_to_take : (os : List ℕ) (i : ℕ) → FrameIs s 0 os → FirstAt (length os) (FineAt os) (NothingAt os) i
      → GivenLine s (Err (NothingToTake i))
  no_room : (os : List ℕ) (i k : ℕ) → FineFrame s os → NoRoomAfter origin os frame_records k → i ≡ pred k
      → GivenLine s (Err (NoRoom i))
  accepted : (os : List ℕ) → FineFrame s os → ((k : ℕ) → k ≤ length os → nodes_after origin os k ≤ frame_records)
      → GivenLine s (Ok tt)

-- that of each judgement of a line as a room: those, and then 12 if the steps that survive are not a room
pub data GivenLineRoom (s : List ℕ) : Judged → Type 0 where
  refused : (q : Refusal) → GivenLine s (Err q) → GivenLineRoom s (Err q)
  not_room : (os : List ℕ) → GivenLine s (Ok tt) → FrameIs s 0 os → (IsRoom origin (survivors os) → ⊥)
      → GivenLineRoom s (Err NotRoom)
  is_room : (os : List ℕ) → GivenLine s (Ok tt) → FrameIs s 0 os → IsRoom origin (survivors os) → GivenLineRoom s (Ok tt)

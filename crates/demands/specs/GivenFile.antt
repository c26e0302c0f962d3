-- When each answer to a polygon that is read is given (RULES 18.7).
-- Assumes nothing.
use Rattle.std.specs.Prelude.{Bool, List, ◌≡◌, ℕ, ◌+◌, ◌*◌, ◌<◌, ◌≤◌, length, Err, Ok, drop}
use Rattle.answer.specs.Answers.{Judged}
use Rattle.answer.specs.declared.Refusal.TheVariants.{FileLength, FileKind, BadCoordinate, BadRing, TooLong, ChainRoom}
use Rattle.answer.specs.Limits.{most_steps}
use Rattle.grid.specs.declared.Corner.{Corner}
use Rattle.polygon_ring.specs.Ring.{length_of, count_in}
use Rattle.polygon_ring_laws.specs.Files.{Headed, Sized, IsPoint, HasCorners, IsRing}

-- the occasion of each judgement of a file, if the chain buffer has this size: 14, 15, 14 again, 16, 17, 6 at place 16,384, 18
pub data GivenFile (file : List ℕ) (size : ℕ) : Judged → Type 0 where
  too_short : length file < 13 → GivenFile file size (Err FileLength)
  other_kind : 13 ≤ length file → ((little : Bool) → Headed little file → ⊥) → GivenFile file size (Err FileKind)
  other_length : (little : Bool) → Headed little file → (length file ≡ 13 + 16 * count_in little file → ⊥)
      → GivenFile file size (Err FileLength)
  bad_coordinate : (little : Bool) (i : ℕ) → Sized little file → i < count_in little file
      → ((c : Corner) → IsPoint little (drop 13 file) i c → ⊥) → GivenFile file size (Err BadCoordinate)
  bad_ring : (little : Bool) (ps : List Corner) → HasCorners little file ps → (IsRing ps → ⊥)
      → GivenFile file size (Err BadRing)
  too_long : (little : Bool) (ps : List Corner) → HasCorners little file ps → IsRing ps → most_steps < length_of ps
      → GivenFile file size (Err (TooLong most_steps))
  chain_room : (little : Bool) (ps : List Corner) → HasCorners little file ps → IsRing ps → length_of ps ≤ most_steps
      → size < length_of ps → GivenFile file size (Err ChainRoom)
  accepted : (little : Bool) (ps : List Corner) → HasCorners little file ps → IsRing ps → length_of ps ≤ most_steps
      → length_of ps ≤ size → GivenFile file size (Ok tt)

-- What the operations of a walk leave.
-- Assumes nothing.
use Rattle.std.specs.Prelude.{List, [], ◌≡◌, ℕ, length}
use Rattle.answer.specs.Answers.{Answer}
use Rattle.walk.specs.Walk.{room_from, facts_of, answer_by, buffer_by}
use Rattle.grid.specs.declared.Corner.{Corner}
use Rattle.layout.specs.Marks.{marks_of, chain_of}
use Rattle.layout.specs.Table.{records_in, table_of}
use Rattle.steps.specs.Operations.{survivors}

-- what operations with no fault leave, from the start c: the size of the table decides
pub record Followed (c : Corner) (os t ms ch : List ℕ) (r : Answer) (t' ms' ch' : List ℕ) : Type 0 where
  pub answer : r ≡ answer_by (room_from (records_in (length t)) c 0 [] os) (facts_of c (survivors os))
  pub table : t' ≡ buffer_by (room_from (records_in (length t)) c 0 [] os) (table_of (length t) c (survivors os)) t
  pub marks : ms' ≡ buffer_by (room_from (records_in (length t)) c 0 [] os) (marks_of c os) ms
  pub chain : ch' ≡ buffer_by (room_from (records_in (length t)) c 0 [] os) (chain_of os) ch

-- The refusals of a call of two parties in their order, its answer, and its four buffers (RULES 19.6, 19.7). c and e are the two
-- starts. Assumes nothing.
use Rattle.std.specs.Prelude.{◌≡◌, Bool, not, ◌&&◌, List, [], ◌∷◌, length, ℕ, suc, pred, ◌*◌, ◌%◌, eqb, ltb, Err, Ok, leb}
use Rattle.answer.specs.Answers.{Judged, PairAnswer}
use Rattle.answer.specs.declared.{PairFacts.PairFacts}
use Rattle.answer.specs.declared.Refusal.TheVariants.{TooMany, Table, ResultRoom, NoRoom, StartRange}
use Rattle.answer.specs.{Limits.most_input, Limits.most_pair_records, Limits.start_fits, Refusal.when, Refusal.or_else, Refusal.first_of}
use Rattle.grid.specs.declared.Corner.{Corner}
use Rattle.layout.specs.Marks.{mark_words}
use Rattle.walk.specs.Walk.{party_facts_of, buffer_by}
use Rattle.pair_steps.specs.Parties.{steps_by, moved_by, bytes_judged}
use Rattle.pair_table.specs.{Slots.needs_of, Slots.slots_of, Words.pair_width, Words.pair_records_in, Words.pair_table_of, Words.pair_marks_of, Words.own_chain_of}

-- 2: the words are those of a record times a count of 1 to 262,296
abbrev pub pair_fits : ℕ → Bool
pair_fits words = eqb (words % pair_width) 0 && leb 1 (pair_records_in words) && leb (pair_records_in words) most_pair_records

-- 3: the words of a mark for each operation, and a chain for each party as long as the input
abbrev pub pair_roomy : ℕ → ℕ → ℕ → ℕ → Bool
pair_roomy n marks chain chain' = eqb marks (mark_words * n) && eqb chain n && eqb chain' n

-- 7 after k operations, which ds and es survive: the nodes that either needs exceed the records. Its place is k - 1, and 0 before
-- the first operation
abbrev pub pair_room_at : ℕ → Corner → Corner → ℕ → List ℕ → List ℕ → Judged
pair_room_at records c e k ds es = when (ltb records (length (needs_of c e ds es))) (NoRoom (pred k))

-- 7 at the first moment: after k operations, which ds and es survive, or after some of those that are left
abbrev pub pair_room_from : ℕ → Corner → Corner → ℕ → List ℕ → List ℕ → List ℕ → Judged
pair_room_from records c e k ds es [] = pair_room_at records c e k ds es
pair_room_from records c e k ds es (o ∷ os) =
    or_else (pair_room_at records c e k ds es) (pair_room_from records c e (suc k) (moved_by 0 ds o) (moved_by 1 es o) os)

-- 1, 2, 3; 10 for the first start, then the second; 20, 4, 5, 6 at the first faulty place; then 7
abbrev pub pair_judgements : Corner → Corner → List ℕ → ℕ → ℕ → ℕ → ℕ → List Judged
pair_judgements c e os words marks chain chain' =
    when (ltb most_input (length os)) TooMany
    ∷ when (not (pair_fits words)) Table
    ∷ when (not (pair_roomy (length os) marks chain chain')) ResultRoom
    ∷ when (not (start_fits c)) StartRange
    ∷ when (not (start_fits e)) StartRange
    ∷ bytes_judged 0 0 0 os
    ∷ pair_room_from (pair_records_in words) c e 0 [] [] os
    ∷ []

-- the first of them that is a refusal
abbrev pub pair_judged : Corner → Corner → List ℕ → ℕ → ℕ → ℕ → ℕ → Judged
pair_judged c e os words marks chain chain' = first_of (pair_judgements c e os words marks chain chain')

-- the facts of both: the nodes that either needs once, the rest for each
abbrev pub pair_facts_of : Corner → Corner → List ℕ → List ℕ → PairFacts
pair_facts_of c e ds es =
    record { nodes = length (needs_of c e ds es); first = party_facts_of c ds; second = party_facts_of e es }

-- the facts, or the refusal
abbrev pub pair_answer_by : Judged → PairFacts → PairAnswer
pair_answer_by (Ok _) f = Ok f
pair_answer_by (Err r) f = Err r

-- the answer to operations with a table, marks and two chains of these lengths
abbrev pub pair_answer : Corner → Corner → List ℕ → ℕ → ℕ → ℕ → ℕ → PairAnswer
pair_answer c e os words marks chain chain' =
    pair_answer_by (pair_judged c e os words marks chain chain') (pair_facts_of c e (steps_by 0 os) (steps_by 1 os))

-- what is lent, or left: table, marks, and a chain for each party
pub record PairLent : Type 0 where
  pub table : List ℕ
  pub marks : List ℕ
  pub first : List ℕ
  pub second : List ℕ

-- the judgement of a call with these buffers
abbrev pub pair_judged_in : Corner → Corner → List ℕ → PairLent → Judged
pair_judged_in c e os b = pair_judged c e os (length b.table) (length b.marks) (length b.first) (length b.second)

-- the call's promise: the answer and what each of the four buffers holds then; untouched on a refusal, and all zero if it is 7,
-- "no room"
pub record PairIs (c e : Corner) (os : List ℕ) (b : PairLent) (r : PairAnswer) (b' : PairLent) : Type 0 where
  pub answer : r ≡ pair_answer c e os (length b.table) (length b.marks) (length b.first) (length b.second)
  pub table : b'.table ≡ buffer_by (pair_judged_in c e os b)
      (pair_table_of (length b.table) c e (slots_of c e os) (steps_by 0 os) (steps_by 1 os)) b.table
  pub marks : b'.marks ≡ buffer_by (pair_judged_in c e os b) (pair_marks_of (pair_records_in (length b.table)) c e os) b.marks
  pub first : b'.first ≡ buffer_by (pair_judged_in c e os b) (own_chain_of 0 os) b.first
  pub second : b'.second ≡ buffer_by (pair_judged_in c e os b) (own_chain_of 1 os) b.second

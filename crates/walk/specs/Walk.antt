-- The walk's refusals in their order, its answer, and its three buffers (RULES 5.2, 6.2, 6.5, 6.6). Assumes nothing.
use Rattle.std.specs.Prelude.{◌≡◌, Bool, cond, not, ◌&&◌, List, [], ◌∷◌, length, replicate, ℕ, suc, ◌*◌, ◌%◌, eqb, ltb, leb, ◌++◌, Err, Ok, pred}
use Rattle.answer.specs.Answers.{Answer, Judged}
use Rattle.answer.specs.declared.{Refusal.TheVariants.TooMany, Refusal.TheVariants.Table, Refusal.TheVariants.ResultRoom, Refusal.TheVariants.NoRoom, Refusal.TheVariants.StartRange, Facts.Facts, PartyFacts.PartyFacts}
use Rattle.answer.specs.{Limits.most_input, Limits.most_records, Limits.start_fits, Refusal.when, Refusal.or_else, Refusal.first_of, Refusal.refusal_number}
use Rattle.grid.specs.{declared.Corner.Corner, Grid.corners_from, Grid.end_from}
use Rattle.steps.specs.Operations.{operate, survivors, operations_judged}
use Rattle.trace.specs.{Meeting.meeting_of, Meeting.meeting_j, Meeting.meeting_k, Meeting.visited_of, Verdict.verdict_of, Verdict.area_of}
use Rattle.tree.specs.Nodes.{nodes_of}
use Rattle.layout.specs.{Table.width, Table.records_in, Table.table_of, Marks.mark_words, Marks.marks_of, Marks.chain_of}

-- 2: the words are those of a record times a count of 1 to 131,148
abbrev pub table_fits : ℕ → Bool
table_fits words = eqb (words % width) 0 && leb 1 (records_in words) && leb (records_in words) most_records

-- 1, 2, 3; then 10; then 4, 5, 6 at the first faulty place
abbrev pub input_judgements : Corner → List ℕ → ℕ → ℕ → ℕ → List Judged
input_judgements c os words marks chain =
    when (ltb most_input (length os)) TooMany
    ∷ when (not (table_fits words)) Table
    ∷ when (not (eqb marks (mark_words * length os) && eqb chain (length os))) ResultRoom
    ∷ when (not (start_fits c)) StartRange
    ∷ operations_judged 0 0 os
    ∷ []

-- 7 after k operations, which ds survive: the nodes needed exceed the records. Its place is k - 1, and 0 before the first
-- operation
abbrev pub room_at : ℕ → Corner → ℕ → List ℕ → Judged
room_at records c k ds = when (ltb records (length (nodes_of (corners_from c ds)))) (NoRoom (pred k))

-- 7 at the first moment: after k operations, which ds survive, or after some of those that are left
abbrev pub room_from : ℕ → Corner → ℕ → List ℕ → List ℕ → Judged
room_from records c k ds [] = room_at records c k ds
room_from records c k ds (o ∷ os) = or_else (room_at records c k ds) (room_from records c (suc k) (operate ds o) os)

-- the input's refusals; then 7
abbrev pub walk_judgements : Corner → List ℕ → ℕ → ℕ → ℕ → List Judged
walk_judgements c os words marks chain = input_judgements c os words marks chain ++ (room_from (records_in words) c 0 [] os ∷ [])

-- the first of them that is a refusal
abbrev pub walk_judged : Corner → List ℕ → ℕ → ℕ → ℕ → Judged
walk_judged c os words marks chain = first_of (walk_judgements c os words marks chain)

-- the facts of the walk of these surviving steps
abbrev pub facts_of : Corner → List ℕ → Facts
facts_of c ds = record {
  verdict = verdict_of c ds;
  steps = length ds;
  nodes = length (nodes_of (corners_from c ds));
  corners = length (visited_of (corners_from c ds));
  j = meeting_j (meeting_of c ds);
  k = meeting_k (meeting_of c ds);
  area = area_of c ds;
  last = end_from c ds;
}

-- the same without the nodes, which two parties share
abbrev pub party_facts_of : Corner → List ℕ → PartyFacts
party_facts_of c ds = record {
  verdict = verdict_of c ds;
  steps = length ds;
  corners = length (visited_of (corners_from c ds));
  j = meeting_j (meeting_of c ds);
  k = meeting_k (meeting_of c ds);
  area = area_of c ds;
  last = end_from c ds;
}

-- the facts, or the refusal
abbrev pub answer_by : Judged → Facts → Answer
answer_by (Ok _) f = Ok f
answer_by (Err r) f = Err r

-- the answer to operations with a table, marks and a chain of these lengths
abbrev pub walk_answer : Corner → List ℕ → ℕ → ℕ → ℕ → Answer
walk_answer c os words marks chain = answer_by (walk_judged c os words marks chain) (facts_of c (survivors os))

-- a buffer after the call: written if accepted; after a refusal all zero if it is "no room", and untouched if it is any other
abbrev pub buffer_by : Judged → List ℕ → List ℕ → List ℕ
buffer_by (Ok _) new old = new
buffer_by (Err r) new old = cond (eqb (refusal_number r) (refusal_number (NoRoom 0))) (replicate (length old) 0) old

-- the call's promise: the answer and what each of the three buffers holds then
pub record WalkIs (c : Corner) (os t ms ch : List ℕ) (r : Answer) (t' ms' ch' : List ℕ) : Type 0 where
  pub answer : r ≡ walk_answer c os (length t) (length ms) (length ch)
  pub table : t' ≡ buffer_by (walk_judged c os (length t) (length ms) (length ch)) (table_of (length t) c (survivors os)) t
  pub marks : ms' ≡ buffer_by (walk_judged c os (length t) (length ms) (length ch)) (marks_of c os) ms
  pub chain : ch' ≡ buffer_by (walk_judged c os (length t) (length ms) (length ch)) (chain_of os) ch

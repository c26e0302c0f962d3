-- What the demands (RULES 8) and RULES 19 ask of two parties in one table, as theorems about the promise `PairIs` of their call.
-- Each is proved by naming a law. c and e are the two starts, os the bytes, b the four buffers that are lent and b' what they
-- hold then. Assumes nothing.
use Rattle.std.specs.Prelude.{Err, Ok}
use mathlib.Core.Bool.{false}
use mathlib.Core.List.{List, [], ◌∷◌, ◌++◌, map, Memᴰ}
use mathlib.Core.Logic.{◌⊎◌, ◌↔◌}
use mathlib.Core.Path.{◌≡◌}
use Prim.Native.Nat.{ℕ, suc, pred, ◌+◌, ◌-◌, ◌*◌, ◌<◌, ◌≤◌}
use lib.ListN.{length, get_or, take, replicate}
use Rattle.answer.specs.Answers.{PairAnswer}
use Rattle.answer.specs.declared.Facts.{Facts}
use Rattle.answer.specs.declared.PairFacts.{PairFacts}
use Rattle.answer.specs.declared.Refusal.{Refusal}
use Rattle.answer.specs.declared.Refusal.TheVariants.{NoRoom}
use Rattle.answer.specs.Refusal.{refusal_number}
use Rattle.lists.specs.Lists.{count, Distinct}
use Rattle.grid.specs.declared.Corner.{Corner}
use Rattle.grid.specs.Grid.{origin, corners_from, end_from}
use Rattle.grid.specs.Tree.{path_of}
use Rattle.tree.specs.Nodes.{nodes_of, InUse}
use Rattle.walk.specs.Walk.{party_facts_of, WalkIs}
use Rattle.pair_steps.specs.Parties.{by_party, party_of, op_of, own_ops, steps_by}
use Rattle.pair_table.specs.Slots.{union_of, Slot, kept_for, placed, placed_all, settle, slots_of}
use Rattle.pair_table.specs.Words.{pair_width, pair_records_in, pair_word_at, own_word, own_of, visits_of}
use Rattle.layout.specs.Marks.{mark_words, changes_by}
use Rattle.pair.specs.Call.{pair_facts_of, PairLent, PairIs}
use Rattle.pair_laws.specs.Stand.{At, FreeAt, InPlace, TakesLowest}
use Rattle.pair_laws.specs.Same.{SameButNumbers}
use Rattle.pair_laws.specs.Moments.{own_after, needs_after, pair_nodes_after, slots_after, pair_table_after, pair_corners_after}
use Rattle.pair_laws.specs.Alone.{AloneOf, PairLentAlone, alone_in}
use Rattle.pair_laws.proofs.SlotLaws as slot_laws
use Rattle.pair_laws.proofs.ByteLaws as byte_laws
use Rattle.pair_laws.specs.Changes.{record_at, differs_at, numbers_from}
use Rattle.pair_laws.proofs.ChangeLaws as change_laws
use Rattle.pair_laws.proofs.UnionLaws as union_laws
use Rattle.pair_laws.proofs.MomentLaws as moment_laws
use Rattle.pair_demands.specs.Enough.{PairAtMostEight}
use Rattle.demands.specs.Moments.{Exceeds}
use Rattle.pair_demands.specs.Given.{party_at, PairFaultless, PairNoRoomAfter, GivenPair}
use Rattle.pair_demands.specs.Own.{own_in}
use Rattle.pair_demands.specs.Record.{PairRecordSays}
use Rattle.pair_demands.proofs.PairLaws as pair_laws
use Rattle.pair_demands.proofs.EndLaws as end_laws
use Rattle.pair_demands.proofs.AloneLaws as alone_laws
use Rattle.pair_demands.proofs.BufferLaws as buffer_laws

-- ---- Demand 1
-- every input has an answer and a state of the buffers
pub pair_answers : (c e : Corner) (os : List ℕ) (b : PairLent) → (r : PairAnswer) × (b' : PairLent) × PairIs c e os b r b'
pair_answers = pair_laws.pair_is_some

-- and only one
pub pair_is_one : {c e : Corner} {os : List ℕ} {b b₁ b₂ : PairLent} {r₁ r₂ : PairAnswer} → PairIs c e os b r₁ b₁
    → PairIs c e os b r₂ b₂ → (r₁ ≡ r₂) × (b₁ ≡ b₂)
pair_is_one = pair_laws.pair_is_one

module _ {c e : Corner} {os : List ℕ} {b b' : PairLent} {r : PairAnswer} (w : PairIs c e os b r b') where
  -- each refusal exactly on its occasion: 1, 2, 3, 10; then 20, 4, 5, 6 at the first faulty place; then 7
  pub refused_exactly : (q : Refusal) → r ≡ Err q ↔ GivenPair c e os b (Err q)
  refused_exactly = pair_laws.refused_when w

  -- and acceptance exactly on its own, with the facts of both parties' surviving steps
  pub accepted_exactly : r ≡ Ok (pair_facts_of c e (steps_by 0 os) (steps_by 1 os)) ↔ GivenPair c e os b (Ok tt)
  accepted_exactly = pair_laws.accepted_when w

  -- "no room" is exact over the union: nothing else is wrong, and at some moment the nodes that either needs exceed the records
  pub no_room_exactly : ((i : ℕ) × (r ≡ Err (NoRoom i)))
      ↔ PairFaultless c e os b
      × ((k : ℕ) × (k ≤ length os) × Exceeds (pair_nodes_after c e os k) (pair_records_in (length b.table)))
  no_room_exactly = pair_laws.no_room-when w

  -- its place is that of the last operation done at the first such moment, 0 before the first
  pub no_room-place : (i : ℕ) → r ≡ Err (NoRoom i)
      ↔ PairFaultless c e os b × ((k : ℕ) × (i ≡ pred k) × PairNoRoomAfter c e os (pair_records_in (length b.table)) k)
  no_room-place = pair_laws.no_room-at w

module _ {c e : Corner} {os : List ℕ} {b b' : PairLent} where
  -- a refusal leaves the buffers untouched
  pub refused_untouched : (q : Refusal) → (refusal_number q ≡ 7 → ⊥) → PairIs c e os b (Err q) b' → b' ≡ b
  refused_untouched = pair_laws.untouched

  -- except that "no room" leaves them all zero
  pub no_room_zero : (i : ℕ) → PairIs c e os b (Err (NoRoom i)) b'
      → (b'.table ≡ replicate (length b.table) 0) × (b'.marks ≡ replicate (length b.marks) 0)
      × (b'.first ≡ replicate (length b.first) 0) × (b'.second ≡ replicate (length b.second) 0)
  no_room_zero = pair_laws.all_zero

-- ---- Demand 2: the records
-- the nodes in use are those that either party needs, each once
pub nodes_of_either : (ps qs : List Corner) (a : Corner)
    → Memᴰ a (union_of ps qs) ↔ Memᴰ a (nodes_of ps) ⊎ Memᴰ a (nodes_of qs)
nodes_of_either = union_laws.union_either

pub nodes_once : (ps qs : List Corner) → Distinct (union_of ps qs)
nodes_once = union_laws.union_distinct

module _ (c e : Corner) (os : List ℕ) where
  -- after every operation each of them stands in exactly one record, and nothing else stands in any
  pub nodes_in_place : (k : ℕ) → InPlace (slots_after c e os k) (needs_after c e os k)
  nodes_in_place k = moment_laws.slots_of_in_place c e (take k os)

  -- the root in record 0
  pub root_zero : (k : ℕ) → At (slots_after c e os k) 0 origin
  root_zero k = moment_laws.root_zero c e (take k os)

  -- numbers of nodes that stay in use do not change
  pub number_stays : (k : ℕ) → k < length os → (i : ℕ) (a : Corner) → At (slots_after c e os k) i a
      → Memᴰ a (needs_after c e os (suc k)) → At (slots_after c e os (suc k)) i a
  number_stays = moment_laws.number_stays c e os

  -- an operation settles the records: what is not needed is freed, then what is new is placed
  pub settled_next : (k : ℕ) → k < length os
      → slots_after c e os (suc k) ≡ settle (slots_after c e os k) (needs_after c e os (suc k))
  settled_next = moment_laws.slots_after-next c e os

-- before the first operation, the first start's ancestors from the root down, then the second's
pub starts_placed : (c e : Corner) → slots_after c e [] 0 ≡ placed_all (placed_all [] (path_of c)) (path_of e)
starts_placed = union_laws.starts_placed

module _ (c e : Corner) (os : List ℕ) (k : ℕ) (inside : k < length os) where
  -- a step of either party frees nothing, and places the path of the corner that it now stands on, nearer the root first
  pub step_first : party_of (get_or os k 0) ≡ 0 → op_of (get_or os k 0) < 4
      → slots_after c e os (suc k) ≡ placed_all (slots_after c e os k) (path_of (end_from c (own_after 0 os (suc k))))
  step_first = byte_laws.byte_step_first c e os k inside

  pub step_second : party_of (get_or os k 0) ≡ 1 → op_of (get_or os k 0) < 4
      → slots_after c e os (suc k) ≡ placed_all (slots_after c e os k) (path_of (end_from e (own_after 1 os (suc k))))
  step_second = byte_laws.byte_step_second c e os k inside

  -- a take-back only frees what neither party needs any more
  pub back-first : party_of (get_or os k 0) ≡ 0 → op_of (get_or os k 0) ≡ 4
      → slots_after c e os (suc k) ≡ map (kept_for (needs_after c e os (suc k))) (slots_after c e os k)
  back-first = byte_laws.byte_back-first c e os k inside

  pub back_second : party_of (get_or os k 0) ≡ 1 → op_of (get_or os k 0) ≡ 4
      → slots_after c e os (suc k) ≡ map (kept_for (needs_after c e os (suc k))) (slots_after c e os k)
  back_second = byte_laws.byte_back_second c e os k inside

-- a node that is placed and stands nowhere takes the lowest free record, and all others stay
pub new_takes_lowest : (slots : List Slot) (a : Corner) → ((i : ℕ) → At slots i a → ⊥) → TakesLowest a slots (placed slots a)
new_takes_lowest = slot_laws.placed_takes

-- and one that stands somewhere changes nothing
pub known_stays : (slots : List Slot) (a : Corner) (i : ℕ) → At slots i a → placed slots a ≡ slots
known_stays = slot_laws.placed_known

-- ---- Demand 2: what an accepted call answers and leaves
module _ {c e : Corner} {os : List ℕ} {b b' : PairLent} {f : PairFacts} (w : PairIs c e os b (Ok f) b') where
  -- nothing was wrong with it, and the table was large enough at every moment
  pub faultless : PairFaultless c e os b
      × ((k : ℕ) → k ≤ length os → pair_nodes_after c e os k ≤ pair_records_in (length b.table))
  faultless = pair_laws.its_faultless w

  -- the nodes in use once, the rest for each party
  pub facts : f ≡ pair_facts_of c e (steps_by 0 os) (steps_by 1 os)
  facts = pair_laws.its_facts w

  -- a party's verdict, meeting, area, steps, corners and last corner are those of its own start and surviving steps
  pub own_facts : (q : ℕ) → q < 2 → by_party q f.first f.second ≡ party_facts_of (by_party q c e) (steps_by q os)
  own_facts = end_laws.own_facts w

  -- which is what a call of its own would answer, apart from the nodes
  pub as_alone : (q : ℕ) → q < 2 → {t ms ch t' ms' ch' : List ℕ} {g : Facts}
      → WalkIs (by_party q c e) (own_ops q os) t ms ch (Ok g) t' ms' ch' → by_party q f.first f.second ≡ own_in g
  as_alone = end_laws.as_alone w

  -- so is its chain: the surviving steps, then zeros
  pub own-chain : (q : ℕ) → q < 2
      → by_party q b'.first b'.second ≡ steps_by q os ++ replicate (length os - length (steps_by q os)) 0
  own-chain = end_laws.own-chain w

  -- and so are its eleven words in the record of a node
  pub own-words : (q : ℕ) → q < 2 → (a : Corner) (i n : ℕ) → At (slots_of c e os) i a → n < 11
      → get_or b'.table (pair_word_at i (own_word q n)) 0 ≡ get_or (own_of (corners_from (by_party q c e) (steps_by q os)) a) n 0
  own-words = end_laws.own-words w

  -- if a party does not need a node, all eleven are zero
  pub own_absent : (q : ℕ) → q < 2 → (a : Corner) (i n : ℕ) → At (slots_of c e os) i a → n < 11
      → (InUse (corners_from (by_party q c e) (steps_by q os)) a → ⊥) → get_or b'.table (pair_word_at i (own_word q n)) 0 ≡ 0
  own_absent = end_laws.own_absent w

  -- "every word of the table": the record of each node in use says what the table of words says
  pub record_words_lem : (a : Corner) (i : ℕ) → At (slots_of c e os) i a
      → PairRecordSays (slots_of c e os) (corners_from c (steps_by 0 os)) (corners_from e (steps_by 1 os)) a
      (λ n. get_or b'.table (pair_word_at i n) 0)
  record_words_lem = end_laws.its_record w

  -- and a record that neither party needs is all zero
  pub free_words : (i n : ℕ) → FreeAt (slots_of c e os) i → n < pair_width → get_or b'.table (pair_word_at i n) 0 ≡ 0
  free_words = end_laws.its_free w

  -- after each operation: the nodes in use by either
  pub mark_nodes : (k : ℕ) → k < length os → get_or b'.marks (mark_words * k) 0 ≡ pair_nodes_after c e os (suc k)
  mark_nodes = buffer_laws.mark_nodes w

  -- the visits at the corner of the party that moved
  pub mark_visits : (k : ℕ) → k < length os
      → get_or b'.marks (mark_words * k + 1) 0 ≡ visits_of (by_party (party_at os k) c e) (own_after (party_at os k) os (suc k))
  mark_visits = buffer_laws.mark_visits w

  -- the records that differ before and after
  pub mark-changes : (k : ℕ) → k < length os
      → get_or b'.marks (mark_words * k + 2) 0 ≡ changes_by pair_width (pair_records_in (length b.table))
      (pair_table_after (pair_records_in (length b.table)) c e os k)
      (pair_table_after (pair_records_in (length b.table)) c e os (suc k))
  mark-changes = buffer_laws.mark-changes w

  -- every node in use has a record of the table
  pub records_enough : length (slots_of c e os) ≤ pair_records_in (length b.table)
  records_enough = buffer_laws.its-records w

  -- no buffer changes its length
  pub same_lengths : (length b'.table ≡ length b.table) × (length b'.marks ≡ length b.marks)
      × (length b'.first ≡ length b.first) × (length b'.second ≡ length b.second)
  same_lengths = buffer_laws.its_lengths w

-- how many of the records 0, 1, .. differ in a word in two tables
pub changes_counted : (r : ℕ) (t u : List ℕ) → changes_by pair_width r t u ≡ count (differs_at pair_width t u) (numbers_from 0 r)
changes_counted = change_laws.changes_counted pair_width

-- a record does not differ exactly if all its words are the same
pub differs_exactly : (t u : List ℕ) (i : ℕ) → differs_at pair_width t u i ≡ false ↔ record_at pair_width t i
    ≡ record_at pair_width u i
differs_exactly = change_laws.differs_exactly pair_width

-- ---- "a party's verdict, meeting, area, chain, visits and edge counts depend on its own start and operations alone"
module _ {c e c₁ e₁ : Corner} {os os₁ : List ℕ} {b b' b₁ b₁' : PairLent} {f f₁ : PairFacts}
    (w : PairIs c e os b (Ok f) b') (v : PairIs c₁ e₁ os₁ b₁ (Ok f₁) b₁')
    (q : ℕ) (party : q < 2) (start : by_party q c e ≡ by_party q c₁ e₁) (operations : own_ops q os ≡ own_ops q os₁) where
  -- verdict, steps, corners, meeting, area, last corner
  pub alike_facts : by_party q f.first f.second ≡ by_party q f₁.first f₁.second
  alike_facts = end_laws.alike_facts w v q party start operations

  -- chain: the same surviving steps, however long the two inputs are
  pub alike_steps : take (by_party q f.first f.second).steps (by_party q b'.first b'.second)
      ≡ take (by_party q f₁.first f₁.second).steps (by_party q b₁'.first b₁'.second)
  alike_steps = end_laws.alike_steps w v q party start operations

  -- link steps, visits, needing step, first visit and edge counts of each node
  pub alike_words : (a : Corner) (i j n : ℕ) → At (slots_of c e os) i a → At (slots_of c₁ e₁ os₁) j a → n < 11
      → get_or b'.table (pair_word_at i (own_word q n)) 0 ≡ get_or b₁'.table (pair_word_at j (own_word q n)) 0
  alike_words = end_laws.alike_words w v q party start operations

  -- a node that has a record in one call only has none of this party's words there
  pub alike_absent : (a : Corner) (i n : ℕ) → At (slots_of c e os) i a → ((j : ℕ) → At (slots_of c₁ e₁ os₁) j a → ⊥) → n < 11
      → get_or b'.table (pair_word_at i (own_word q n)) 0 ≡ 0
  alike_absent = end_laws.alike_absent w v q party start operations

-- ---- "two neighbouring operations of different parties, exchanged, give the same end apart from node numbers, the refs that
-- hold them and marks, provided both orders are accepted"
module _ {c e : Corner} (xs : List ℕ) (o p : ℕ) (ys : List ℕ) {b b' b₁ b₁' : PairLent} {f f₁ : PairFacts}
    (w : PairIs c e (xs ++ (o ∷ p ∷ ys)) b (Ok f) b')
    (v : PairIs c e (xs ++ (p ∷ o ∷ ys)) b₁ (Ok f₁) b₁') (different : party_of o ≡ party_of p → ⊥) where
  pub exchanged_facts : f ≡ f₁
  exchanged_facts = end_laws.exchanged_facts xs o p ys w v different

  pub exchanged_table : SameButNumbers (slots_of c e (xs ++ (o ∷ p ∷ ys))) (slots_of c e (xs ++ (p ∷ o ∷ ys)))
      b'.table b₁'.table
  exchanged_table = end_laws.exchanged_table xs o p ys w v different

  pub exchanged_chain : (q : ℕ) → q < 2 → by_party q b'.first b'.second ≡ by_party q b₁'.first b₁'.second
  exchanged_chain = end_laws.exchanged_chain xs o p ys w v different

-- ---- Demand 3
-- if it is accepted, so is the record of the surviving steps alone in a table of the same size, in whatever way the two parties'
-- steps are mixed
module _ {c e : Corner} {os alone : List ℕ} {b b' b₁ b₂ : PairLent} {f : PairFacts} {r : PairAnswer}
    (w : PairIs c e os b (Ok f) b') (a : AloneOf os alone) (v : PairIs c e alone b₁ r b₂)
    (lent : PairLentAlone alone b b₁) where
  -- both give the same answer
  pub alone_answer : r ≡ Ok f
  alone_answer = alone_laws.alone_answer w a v lent

  -- the same table apart from node numbers and refs
  pub alone_table : SameButNumbers (slots_of c e os) (slots_of c e alone) b'.table b₂.table
  alone_table = alone_laws.alone_table w a v lent

  -- and the same surviving steps
  pub alone_steps : (q : ℕ) → q < 2 → take (by_party q f.first f.second).steps (by_party q b₂.first b₂.second)
      ≡ take (by_party q f.first f.second).steps (by_party q b'.first b'.second)
  alone_steps = alone_laws.alone_steps w a v lent

-- one such record: the bytes whose steps survive, mixed as they came
pub alone_some : {c e : Corner} {os : List ℕ} {b b' : PairLent} {f : PairFacts} → PairIs c e os b (Ok f) b'
    → AloneOf os (alone_in os)
alone_some = alone_laws.alone_some

-- after every operation at most eight nodes for each different corner of both parties, and 136; half of it is enough
module _ {c e : Corner} {os : List ℕ} {b : PairLent} (h : PairFaultless c e os b) where
  pub at_most_eight : (k : ℕ) → PairAtMostEight (pair_nodes_after c e os k) (pair_corners_after c e os k)
  at_most_eight = alone_laws.at_most_eight h

  pub four_and_more : (k : ℕ) → pair_nodes_after c e os k ≤ 4 * pair_corners_after c e os k + 128
  four_and_more = alone_laws.four_and_more h

module _ {c e : Corner} {os : List ℕ} {b b' : PairLent} {r : PairAnswer} (w : PairIs c e os b r b') where
  -- so a table that large at every moment is never too small
  pub enough_eight : ((k : ℕ) → k ≤ length os → 8 * pair_corners_after c e os k + 136 ≤ pair_records_in (length b.table))
      → (i : ℕ)
      → r ≡ Err (NoRoom i) → ⊥
  enough_eight = alone_laws.enough_eight w

  -- nor one with 131,208 records, whatever the two walks
  pub enough_always : 131208 ≤ pair_records_in (length b.table) → (i : ℕ) → r ≡ Err (NoRoom i) → ⊥
  enough_always = alone_laws.enough_always w

-- Two parties that follow their operations in one table: the steps of each in its chain, and what the run answers. The first has
-- walked ds from c, the second es from e.
-- Assumes nothing.
use Rattle.std.specs.Prelude.{List, [], ◌∷◌, ◌≡◌, ℕ, ◌*◌, ◌<◌, Err, None, Ok, Option, Result, Some, length, ◌%◌, ◌^◌}
use Rattle.pair_run.specs.declared.PairTurn.{PairTurn}
use Rattle.pair_move.specs.declared.Stride.{Stride}
use Rattle.std.proofs.lemmas.List.Edits.{sets}
use Rattle.answer.specs.declared.Refusal.{Refusal}
use Rattle.answer.specs.declared.Refusal.TheVariants.{NoRoom}
use Rattle.grid.specs.declared.Corner.{Corner}
use Rattle.layout.specs.Marks.{mark_words, changes_by}
use Rattle.steps.specs.Operations.{operate, Fine}
use Rattle.pair_steps.specs.Parties.{by_party, steps_by}
use Rattle.pair_table.specs.Slots.{Slot, needs_of, settle, slots_at_start, slots_of}
use Rattle.pair_table.specs.Words.{pair_width, pair_records_in, pair_table_of, pair_marks_of, visits_of}
use Rattle.pair.specs.Call.{pair_room_from}
use Rattle.pair_table_laws.specs.Walked.{PairWalked}
use Rattle.pair_child.specs.declared.Stock.{Stock}
use Rattle.pair_child.specs.Finds.{StockIs}
use Rattle.walk_step.specs.Chains.{ChainKeeps}
use Rattle.pair_move.specs.declared.Party.{Party}
use Rattle.pair_move.specs.Moves.{PartyIs, Moves}
use Rattle.pair_run.specs.declared.Pair.{Pair}

-- the steps of the first and of the second after operation o of party q
abbrev pub first_by : ℕ → List ℕ → ℕ → List ℕ
first_by q ds o = by_party q (operate ds o) ds

abbrev pub second_by : ℕ → List ℕ → ℕ → List ℕ
second_by q es o = by_party q es (operate es o)

-- the records after it
abbrev pub slots_by : Corner → Corner → List Slot → ℕ → List ℕ → List ℕ → ℕ → List Slot
slots_by c e slots q ds es o = settle slots (needs_of c e (first_by q ds o) (second_by q es o))

-- party q, p, between two operations: the table of both, and its own steps in its chain
pub record PairKept (t chain : List ℕ) (c e : Corner) (ds es : List ℕ) (slots : List Slot) (q : ℕ) (p : Party)
    (s : Stock) : Type 0 where
  pub moves : Moves t c e ds es slots q p s
  pub own : ChainKeeps (by_party q c e) chain (by_party q ds es)

-- of some walks for which the operation o of party q is not a fault, with space in its chain, in a table of whole records
pub record PairReady (t chain : List ℕ) (q : ℕ) (p : Party) (s : Stock) (o : ℕ) : Type 0 where
  pub first : Corner
  pub second : Corner
  pub firsts : List ℕ
  pub seconds : List ℕ
  pub slots : List Slot
  pub here : PairKept t chain first second firsts seconds slots q p s
  pub fine : Fine p.steps o
  pub next : (o ≡ 4 → ⊥) → p.steps < length chain
  pub party : q < 2
  pub words : length t < 2 ^ 32
  pub whole : length t % pair_width ≡ 0

-- how many of this many records the operation o of party q changes
abbrev changes_to : ℕ → Corner → Corner → List Slot → ℕ → List ℕ → List ℕ → ℕ → ℕ
changes_to records c e slots q ds es o =
    changes_by pair_width records (pair_table_of (records * pair_width) c e slots ds es)
    (pair_table_of (records * pair_width) c e (slots_by c e slots q ds es o) (first_by q ds o) (second_by q es o))

-- the answer to operation o of party q, in a table of this many words: both after it, and how many records it changed; or the
-- nodes that both then need are more than the records
abbrev pub PairActed : ℕ → Corner → Corner → List ℕ → List ℕ → List Slot → ℕ → ℕ → List ℕ → List ℕ → Option PairTurn → Type 0
PairActed words c e ds es slots q o t chain (Some x) =
    PairKept t chain c e (first_by q ds o) (second_by q es o) (slots_by c e slots q ds es o) q x.stride.party x.stride.stock
    × (length t ≡ words)
    × (x.changed ≡ changes_to (pair_records_in words) c e slots q ds es o)
PairActed words c e ds es slots q o t chain None =
    pair_records_in words < length (needs_of c e (first_by q ds o) (second_by q es o))

-- the mark of operation o of party q
abbrev pub mark_by : ℕ → Corner → Corner → List Slot → ℕ → List ℕ → List ℕ → ℕ → List ℕ
mark_by records c e slots q ds es o =
    length (needs_of c e (first_by q ds o) (second_by q es o))
    ∷ visits_of (by_party q c e) (by_party q (first_by q ds o) (second_by q es o))
    ∷ changes_to records c e slots q ds es o
    ∷ []

-- the same with its mark, at place i of the marks ms₀; the refusal is "no room" at i
abbrev pub PairPerformed : ℕ → List ℕ → ℕ → Corner → Corner → List ℕ → List ℕ → List Slot → ℕ → ℕ → List ℕ → List ℕ
    → List ℕ → Result Stride Refusal → Type 0
PairPerformed words ms₀ i c e ds es slots q o t ms chain (Ok x) =
    PairKept t chain c e (first_by q ds o) (second_by q es o) (slots_by c e slots q ds es o) q x.party x.stock
    × (length t ≡ words)
    × (ms ≡ sets ms₀ (mark_words * i) (mark_by (pair_records_in words) c e slots q ds es o))
PairPerformed words ms₀ i c e ds es slots q o t ms chain (Err r) =
    (r ≡ NoRoom i) × (pair_records_in words < length (needs_of c e (first_by q ds o) (second_by q es o)))

-- both parties between two operations
pub record BothKept (t first second : List ℕ) (c e : Corner) (ds es : List ℕ) (slots : List Slot) (one two : Party)
    (s : Stock) : Type 0 where
  pub walked : PairWalked t c e ds es slots
  pub stock : StockIs s slots
  pub one-is : PartyIs slots c ds one
  pub two_is : PartyIs slots e es two
  pub one_keeps : ChainKeeps c first ds
  pub two_keeps : ChainKeeps e second es

-- before the first operation, with any chains
abbrev pub PairStarts : List ℕ → List ℕ → List ℕ → Pair → Type 0
PairStarts t first second w =
    BothKept t first second w.first.at w.second.at [] [] (slots_at_start w.first.at w.second.at)
    w.first w.second w.stock

-- the answer to all operations, with the chains as they then stand
abbrev pub PairRan : ℕ → Corner → Corner → List ℕ → List ℕ → List ℕ → List ℕ → List ℕ → Result Pair Refusal → Type 0
PairRan words c e ops t ms first second (Ok w) =
    BothKept t first second c e (steps_by 0 ops) (steps_by 1 ops) (slots_of c e ops) w.first w.second w.stock
    × (ms ≡ pair_marks_of (pair_records_in words) c e ops)
    × (pair_room_from (pair_records_in words) c e 0 [] [] ops ≡ Ok tt)
PairRan words c e ops t ms first second (Err r) =
    pair_room_from (pair_records_in words) c e 0 [] [] ops ≡ Err r

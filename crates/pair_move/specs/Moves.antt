-- One of two parties on its way: where it stands and its tally, in the table that both share, as the definitions have them. The
-- first walks ds from c, the second es from e.
-- Assumes nothing.
use Rattle.std.specs.Prelude.{List, [], ◌∷◌, ◌++◌, ◌≡◌, ℕ, suc, ◌+◌, ◌<◌, length, None, Option, Some, true}
use Rattle.pair_move.specs.declared.Stride.{Stride}
use Rattle.answer.specs.Limits.{no_meeting}
use Rattle.grid.specs.declared.Corner.{Corner}
use Rattle.grid.specs.Grid.{same, stepped, corners_from, end_from}
use Rattle.lists.specs.Lists.{find, count}
use Rattle.tree_laws.specs.State.{later, state_of, reached}
use Rattle.pair_steps.specs.Parties.{by_party}
use Rattle.pair_table.specs.Slots.{Slot, needs_of, settle}
use Rattle.pair_table.specs.Words.{pair_records_in}
use Rattle.pair_laws.specs.Stand.{At, HeldOnce}
use Rattle.pair_table_laws.specs.Hold.{Both}
use Rattle.pair_table_laws.specs.Look.{Look}
use Rattle.pair_table_laws.specs.Walked.{PairWalked}
use Rattle.pair_child.specs.declared.Stock.{Stock}
use Rattle.pair_child.specs.Finds.{StockIs}
use Rattle.walk_step.specs.Tallies.{TallyIs}
use Rattle.pair_move.specs.declared.Party.{Party}

-- the steps of the first and of the second, if party q goes one more
abbrev pub first_after : ℕ → List ℕ → ℕ → List ℕ
first_after q ds d = by_party q (ds ++ (d ∷ [])) ds

abbrev pub second_after : ℕ → List ℕ → ℕ → List ℕ
second_after q es d = by_party q es (es ++ (d ∷ []))

-- a party with no step, at its start
abbrev pub fresh_party : Corner → ℕ → Party
fresh_party c node = record { node = node; at = c; steps = 0; tally = record { corners = 1; j = no_meeting; k = no_meeting } }

-- a party that walked ds from c stands in these records, with its tally
pub record PartyIs (slots : List Slot) (c : Corner) (ds : List ℕ) (p : Party) : Type 0 where
  pub here : At slots p.node (end_from c ds)
  pub corner : p.at ≡ end_from c ds
  pub steps : p.steps ≡ length ds
  pub counted : TallyIs c ds p.tally

-- the table is that of both, p is party q, and s is what is in use
pub record Moves (t : List ℕ) (c e : Corner) (ds es : List ℕ) (slots : List Slot) (q : ℕ) (p : Party) (s : Stock) : Type 0 where
  pub walked : PairWalked t c e ds es slots
  pub party : PartyIs slots (by_party q c e) (by_party q ds es) p
  pub stock : StockIs s slots

-- of some walks
pub record Moving (t : List ℕ) (q : ℕ) (p : Party) (s : Stock) : Type 0 where
  pub first : Corner
  pub second : Corner
  pub firsts : List ℕ
  pub seconds : List ℕ
  pub slots : List Slot
  pub moves : Moves t first second firsts seconds slots q p s

-- of some walks in which the last step of party q is d
pub record Withdrawing (t : List ℕ) (q : ℕ) (p : Party) (s : Stock) (d : ℕ) : Type 0 where
  pub first : Corner
  pub second : Corner
  pub firsts : List ℕ
  pub seconds : List ℕ
  pub slots : List Slot
  pub moves : Moves t first second (first_after q firsts d) (second_after q seconds d) slots q p s

-- the visits of the corner where a step d led, the number of the first, and that of the step
pub record StepCounted (c : Corner) (ds : List ℕ) (d visits first n : ℕ) : Type 0 where
  pub seen : visits ≡ count (same (stepped d (end_from c ds))) (corners_from c ds) + 1
  pub found : first ≡ later (find (same (stepped d (end_from c ds))) (corners_from c ds)) true (suc (suc (length ds)))
  pub number : n ≡ suc (length ds)

-- party q, p, walked ds from c, and the node in record v, to which its step n leads in direction d, is found, made and linked
pub record Arrives (t : List ℕ) (slots : List Slot) (C : Both) (q : ℕ) (c : Corner) (ds : List ℕ) (p : Party)
    (v d n : ℕ) : Type 0 where
  pub once : HeldOnce slots
  pub party : PartyIs slots c ds p
  pub look : Look C slots q (reached (state_of (corners_from c ds)) (suc (length ds)) (end_from c ds) (stepped d (end_from c ds)))
      (stepped d (end_from c ds)) t (suc v)
  pub number : n ≡ suc (length ds)

pub record Arriving (t : List ℕ) (q : ℕ) (p : Party) (v d n : ℕ) : Type 0 where
  pub slots : List Slot
  pub both : Both
  pub start : Corner
  pub chain : List ℕ
  pub arrives : Arrives t slots both q start chain p v d n

-- the answer to a step d: the table, the party and what is in use are those of one step more; or the nodes that both then need
-- are more than the records
abbrev pub PairAdvanced : List ℕ → Corner → Corner → List ℕ → List ℕ → List Slot → ℕ → ℕ → List ℕ → Option Stride → Type 0
PairAdvanced t c e ds es slots q d t' (Some w) =
    Moves t' c e (first_after q ds d) (second_after q es d)
    (settle slots (needs_of c e (first_after q ds d) (second_after q es d))) q w.party w.stock
PairAdvanced t c e ds es slots q d t' None =
    pair_records_in (length t) < length (needs_of c e (first_after q ds d) (second_after q es d))

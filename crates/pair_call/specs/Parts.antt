-- The starts of two parties planted, and their walks when they are over.
-- Assumes nothing.
use Rattle.std.specs.Prelude.{List, [], ◌++◌, ◌≡◌, ℕ, ◌-◌, ◌<◌, length, None, Option, Some, replicate}
use Rattle.answer.specs.declared.PairFacts.{PairFacts}
use Rattle.grid.specs.declared.Corner.{Corner}
use Rattle.pair_table.specs.Slots.{needs_of}
use Rattle.pair_table.specs.Words.{pair_records_in}
use Rattle.walk.specs.Walk.{party_facts_of}
use Rattle.pair_child.specs.declared.Located.{Located}
use Rattle.pair_move.specs.Moves.{fresh_party}
use Rattle.pair_run.specs.declared.Pair.{Pair}
use Rattle.pair_run.specs.Runs.{PairStarts}

-- both parties with no step, at the nodes that were located
abbrev pub parties_at : Corner → Located → Corner → Located → Pair
parties_at c one e two = record { first = fresh_party c one.node; second = fresh_party e two.node; stock = two.stock }

-- both starts in a table of this many words, or the nodes that they need are more than the records
abbrev pub PairPlanted : ℕ → Corner → Corner → List ℕ → Option Pair → Type 0
PairPlanted words c e t (Some w) =
    (w.first.at ≡ c) × (w.second.at ≡ e) × ((first second : List ℕ) → PairStarts t first second w)
PairPlanted words c e t None = pair_records_in words < length (needs_of c e [] [])

-- a chain that held the steps ds holds them, then zeros
abbrev pub ChainEnds : List ℕ → List ℕ → List ℕ → Type 0
ChainEnds chain ds chain' = chain' ≡ ds ++ replicate (length chain - length ds) 0

-- the facts of both, with this many nodes
abbrev pub facts_with : ℕ → Corner → Corner → List ℕ → List ℕ → PairFacts
facts_with n c e ds es = record { nodes = n; first = party_facts_of c ds; second = party_facts_of e es }

-- A walk that follows its operations: its steps in the chain, and what the run answers.
-- Assumes nothing.
use Rattle.std.specs.Prelude.{List, [], ◌≡◌, ℕ, ◌*◌, ◌<◌, length, Err, None, Ok, Option, Result, Some, replicate, ◌^◌, ◌≤◌}
use Rattle.std.proofs.lemmas.List.Edits.{sets}
use Rattle.answer.specs.declared.Refusal.{Refusal}
use Rattle.answer.specs.Limits.{most_input, Near}
use Rattle.walk.specs.Walk.{room_from}
use Rattle.grid.specs.declared.Corner.{Corner}
use Rattle.grid.specs.Grid.{corners_from}
use Rattle.layout.specs.Table.{width, records_in}
use Rattle.layout.specs.Marks.{mark_words, changes_of, mark_of, marks_of, chain_of}
use Rattle.walk_step.specs.declared.Walk.{Walk}
use Rattle.walk_step.specs.Spots.{Walked}
use Rattle.walk_step.specs.Walks.{Known, fresh}
use Rattle.walk_step.specs.Chains.{ChainKeeps}
use Rattle.tree.specs.Nodes.{nodes_of}
use Rattle.walk_run.specs.declared.Turn.{Turn}
use Rattle.steps.specs.Operations.{survivors, operations_judged, Fine}

-- the walk from c with the steps ds, which stand in the chain
pub record Chained (c : Corner) (t chain ds : List ℕ) (w : Walk) : Type 0 where
  pub known : Known t c ds w
  pub own : ChainKeeps c chain ds

-- some walk for which the operation o is not a fault, with space in the chain, in a table of fewer than 2 ^ 32 words
pub record Ready (t chain : List ℕ) (w : Walk) (o : ℕ) : Type 0 where
  pub start : Corner
  pub steps : List ℕ
  pub chained : Chained start t chain steps w
  pub fine : Fine w.spot.steps o
  pub next : (o ≡ 4 → ⊥) → w.spot.steps < length chain
  pub words : length t < 2 ^ 32

-- before the first operation: the table of the walk from c with no step, which stands at the node, operations with no fault, and
-- marks and a chain of the lengths that they ask for
pub record WalkStarts (c : Corner) (node : ℕ) (ops t marks chain : List ℕ) : Type 0 where
  pub near : Near c
  pub walked : Walked t c [] (fresh c node).spot
  pub words : length t < 2 ^ 32
  pub marks_length : length marks ≡ mark_words * length ops
  pub chain_length : length chain ≡ length ops
  pub few : length ops ≤ most_input
  pub fine : operations_judged 0 0 ops ≡ Ok tt

-- the answer to an operation, before which the steps were ds, and after which they are es: how many records it changed, too
abbrev pub Acted : ℕ → Corner → List ℕ → List ℕ → List ℕ → List ℕ → Option Turn → Type 0
Acted words c t chain ds es (Some x) =
    Chained c t chain es x.walk × (length t ≡ words) × (x.changed ≡ changes_of c ds es)
Acted words c t chain ds es None =
    (words < width * length (nodes_of (corners_from c es))) × (t ≡ replicate words 0)

-- the same with its mark, at place i of the marks ms₀; the steps were ds, and are es
abbrev pub Performed : ℕ → List ℕ → ℕ → Corner → List ℕ → List ℕ → List ℕ → List ℕ → List ℕ → Option Walk → Type 0
Performed words ms₀ i c t ms chain ds es (Some w) =
    Chained c t chain es w × (length t ≡ words) × (ms ≡ sets ms₀ (mark_words * i) (mark_of c ds es))
Performed words ms₀ i c t ms chain ds es None =
    (words < width * length (nodes_of (corners_from c es))) × (t ≡ replicate words 0)

-- the answer to all of them, with the chain as it then stands
abbrev pub PerformedAll : ℕ → Corner → List ℕ → List ℕ → List ℕ → List ℕ → Result Walk Refusal → Type 0
PerformedAll words c ops t ms chain (Ok w) =
    Chained c t chain (survivors ops) w × (ms ≡ marks_of c ops) × (room_from (records_in words) c 0 [] ops ≡ Ok tt)
PerformedAll words c ops t ms chain (Err r) =
    (room_from (records_in words) c 0 [] ops ≡ Err r) × (t ≡ replicate words 0)

-- the answer to all of them: the walk, with zeros after its steps in the chain, or all three buffers zero
abbrev pub Ended : ℕ → Corner → List ℕ → List ℕ → List ℕ → List ℕ → Result Walk Refusal → Type 0
Ended words c ops t ms chain (Ok w) =
    Chained c t chain (survivors ops) w × (chain ≡ chain_of ops) × (ms ≡ marks_of c ops)
    × (room_from (records_in words) c 0 [] ops ≡ Ok tt)
Ended words c ops t ms chain (Err r) =
    (room_from (records_in words) c 0 [] ops ≡ Err r) × (t ≡ replicate words 0) × (ms ≡ replicate (length ms) 0)
    × (chain ≡ replicate (length chain) 0)

-- What a take-back of party q finds in a table that two share, and what it leaves there. C has the other party's state, S is the
-- state of party q that it leads to.
-- Assumes nothing.
use mathlib.Core.List.{List, Memᴰ}
use Rattle.std.specs.Prelude.{◌≡◌, ℕ, zero, suc, ◌-◌, ◌<◌, min, None, Option, Some}
use Rattle.grid.specs.declared.Corner.{Corner}
use Rattle.grid.specs.Grid.{same}
use Rattle.grid.specs.Tree.{root, path_of, child_word}
use Rattle.layout.specs.Table.{parent_word, neighbour_word, link_word, need_word}
use Rattle.lists.specs.Lists.{gather}
use Rattle.tree_laws.specs.State.{State, Sound}
use Rattle.pair_table.specs.Slots.{Slot}
use Rattle.pair_laws.specs.Stand.{At, HeldOnce}
use Rattle.pair_table_laws.specs.Hold.{Both, with_party, of_party, words_in, SettledIn, PairTable}
use Rattle.pair_table_laws.specs.Stores.{pair_unlink_in, pair_unneed_in, pair_drop_in}
use Rattle.pair_table_laws.specs.Undo.{PairUnlinkAt, PairDropAt, Fewer}
use Rattle.pair_words.specs.Places.{InTable}
use Rattle.pair_child.specs.declared.Stock.{Stock}
use Rattle.pair_child.specs.Finds.{StockIs}

-- ---- the links
-- record u lies in the table, and so does that of its neighbour in the direction d if step s of party q linked the two
pub record PairJoined (t : List ℕ) (q u d s : ℕ) : Type 0 where
  pub here : InTable t u
  pub party : q < 2
  pub way : d < 4
  pub there : words_in t u (of_party q (link_word d)) ≡ s
      → (0 < words_in t u (neighbour_word d)) × InTable t (words_in t u (neighbour_word d) - 1)

-- the record of a ref; there is none of 0
abbrev pub node_at_ref : ℕ → Option ℕ
node_at_ref zero = None
node_at_ref (suc u) = Some u

-- one level: a link of the step s is taken away, and the parent is next; any other link stays, and nothing is next
pub record PairCleared (t : List ℕ) (q u d s : ℕ) (t' : List ℕ) (next : Option ℕ) : Type 0 where
  pub own : words_in t u (of_party q (link_word d)) ≡ s
      → (t' ≡ pair_unlink_in q t u (words_in t u (neighbour_word d) - 1) d) × (next ≡ node_at_ref (words_in t' u parent_word))
  pub other : (words_in t u (of_party q (link_word d)) ≡ s → ⊥) → (t' ≡ t) × (next ≡ None)

-- the links that step s made on its way to z are being taken away; next is the node c, in record u
pub record PairUnlinks (t : List ℕ) (q u : ℕ) (c : Corner) (d s : ℕ) (C : Both) (slots : List Slot) (S : State)
    (z : Corner) : Type 0 where
  pub party : q < 2
  pub sound : Sound S
  pub pos : 0 < s
  pub dir : d < 4
  pub small : (x y : Corner) → S.step x y < s
  pub once : HeldOnce slots
  pub stands : (a : Corner) → Memᴰ a (gather same S.nodes (path_of z)) → (i : ℕ) × At slots i a
  pub others : (x y : Corner) → (C (1 - q)).step x y ≡ (C (1 - q)).step y x
  pub held : PairUnlinkAt C slots q S s z d t u
  pub is : held.at ≡ c
  pub needed : Memᴰ c (gather same S.nodes (path_of z))

-- the same, for some states, records and corner
pub record PairUnlinkable (t : List ℕ) (q u : ℕ) (c : Corner) (d s : ℕ) : Type 0 where
  pub both : Both
  pub slots : List Slot
  pub state : State
  pub end : Corner
  pub holds : PairUnlinks t q u c d s both slots state end

-- ---- the nodes
-- one node less: record u is freed
abbrev pub freed_in : Stock → ℕ → Stock
freed_in s u = record { nodes = s.nodes - 1; low = min s.low u }

-- party q leaves the node c in record u, a child of that in record up: its record is freed if the other party does not need it
pub record PairLeft (t : List ℕ) (q : ℕ) (s : Stock) (u up : ℕ) (c : Corner) (t' : List ℕ) (r : Stock) : Type 0 where
  pub alone : words_in t u (of_party (1 - q) need_word) ≡ 0 → (t' ≡ pair_drop_in t u up (child_word c)) × (r ≡ freed_in s u)
  pub shared : 0 < words_in t u (of_party (1 - q) need_word) → (t' ≡ pair_unneed_in q t u) × (r ≡ s)

-- the nodes that step n needed are being given up; next is h, in record u
pub record PairDrops (t : List ℕ) (q : ℕ) (s : Stock) (u : ℕ) (h : Corner) (n : ℕ) (C : Both) (slots : List Slot)
    (S : State) : Type 0 where
  pub party : q < 2
  pub sound : Sound S
  pub small : (x : Corner) → S.need x < n
  pub top : At slots 0 root
  pub stock : StockIs s slots
  pub held : PairDropAt C slots q S n t u h

-- the same, for some states and records
pub record PairDroppable (t : List ℕ) (q : ℕ) (s : Stock) (u : ℕ) (h : Corner) (n : ℕ) : Type 0 where
  pub both : Both
  pub slots : List Slot
  pub state : State
  pub holds : PairDrops t q s u h n both slots state

-- all of them: the table holds S, in the records without those that neither party needs then
pub record PairDropped (C : Both) (slots : List Slot) (q : ℕ) (S : State) (t : List ℕ) (s : Stock) : Type 0 where
  pub left : List Slot
  pub less : Fewer left slots
  pub table : PairTable t left (with_party C q S)
  pub settled : SettledIn left (with_party C q S)
  pub stock : StockIs s left

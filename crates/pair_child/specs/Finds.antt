-- The child of a node, found, needed from now on, or made in the lowest free record: what it leaves in the table, word by word;
-- and by the nodes that stand there.
-- Assumes nothing.
use Rattle.std.specs.Prelude.{Bool, true, false, not, ◌&&◌, List, None, Option, Some, ◌≡◌, ℕ, suc, ◌+◌, ◌*◌, ◌<◌, ◌≤◌, eqb, leb, length}
use Rattle.grid.specs.declared.Corner.{Corner}
use Rattle.grid.specs.Tree.{path_of}
use Rattle.layout.specs.Table.{parent_word, need_word}
use Rattle.tree_laws.specs.State.{State, grown}
use Rattle.pair_table.specs.Slots.{Slot, placed, placed_all}
use Rattle.pair_table.specs.Words.{pair_width, pair_records_in}
use Rattle.pair_laws.specs.Stand.{At, HeldBelow, held_in, lowest}
use Rattle.pair_table_laws.specs.Hold.{Both, of_party, words_in}
use Rattle.pair_table_laws.specs.Stores.{pair_need_in, pair_node_in}
use Rattle.pair_table_laws.specs.Look.{Child, Look, NoRoomFor}
use Rattle.pair_child.specs.declared.Stock.{Stock}
use Rattle.pair_child.specs.declared.Located.{Located}

-- record r is in the table
abbrev pub in_table : List ℕ → ℕ → Bool
in_table t r = leb (suc r * pair_width) (length t)

-- and has a parent
abbrev pub taken_at : List ℕ → ℕ → Bool
taken_at t r = in_table t r && not (eqb (words_in t r parent_word) 0)

-- r is the first record from low on that is not taken
pub record ScannedTo (t : List ℕ) (low r : ℕ) : Type 0 where
  pub from : low ≤ r
  pub passed : (i : ℕ) → low ≤ i → i < r → taken_at t i ≡ true
  pub stops : taken_at t r ≡ false

-- a node, and what is in use then
abbrev pub found : ℕ → Stock → Located
found u s = record { node = u; stock = s }

-- one node more, in record k
abbrev pub stocked : Stock → ℕ → Stock
stocked s k = record { nodes = s.nodes + 1; low = k + 1 }

-- record k, or nothing if it is not in the table
abbrev pub MadeAt : ℕ → List ℕ → Stock → ℕ → ℕ → ℕ → ℕ → List ℕ → Option Located → Type 0
MadeAt q t s u w step k t' r =
    (in_table t k ≡ true → (t' ≡ pair_node_in q t k u w step) × (r ≡ Some (found k (stocked s k))))
    × (in_table t k ≡ false → r ≡ None)

-- the child in word w of record u, made by step in the first record from low on that is not taken
pub record Makes (q : ℕ) (t : List ℕ) (s : Stock) (u w step : ℕ) (t' : List ℕ) (r : Option Located) : Type 0 where
  pub number : ℕ
  pub scanned : ScannedTo t s.low number
  pub made : MadeAt q t s u w step number t' r

-- record v needed by step, unless party q needs it already
abbrev pub claim_in : ℕ → List ℕ → ℕ → ℕ → List ℕ
claim_in q t v step = elim (eqb (words_in t v (of_party q need_word)) 0) [ true ↦ pair_need_in q t v step | false ↦ t ]

-- the child in word w of record u: made, or record v, which stands there
abbrev pub Childed : ℕ → List ℕ → Stock → ℕ → ℕ → ℕ → List ℕ → Option Located → Type 0
Childed q t s u w step t' r =
    (words_in t u w ≡ 0 → Makes q t s u w step t' r)
    × ((v : ℕ) → words_in t u w ≡ suc v → (t' ≡ claim_in q t v step) × (r ≡ Some (found v s)))

-- ---- what is in use: this many nodes, and no record before low is free
pub record StockIs (s : Stock) (slots : List Slot) : Type 0 where
  pub nodes : s.nodes ≡ held_in slots
  pub above : 0 < s.low
  pub low : HeldBelow slots s.low

-- the child e of a node that stands, for step s of party q, whose state was T: found or made, or there is no record for it
abbrev pub ChildFound : Both → List Slot → ℕ → State → Corner → ℕ → List ℕ → List ℕ → Option Located → Type 0
ChildFound C slots q T e s t t' (Some v) = Child C slots q (grown T e s) e t' (suc v.node) × StockIs v.stock (placed slots e)
ChildFound C slots q T e s t t' None = ((i : ℕ) → At slots i e → ⊥) × (pair_records_in (length t) ≤ lowest slots)

-- a lookup of node e by party q, in records slots of table t, if the states were B: now its state is S, the path of e stands, and
-- e is the node that is answered; or the table is too small for that path
abbrev pub Finds : Both → List Slot → ℕ → State → Corner → List ℕ → List ℕ → Option Located → Type 0
Finds B slots q S e t t' (Some v) = Look B slots q S e t' (suc v.node) × StockIs v.stock (placed_all slots (path_of e))
Finds B slots q S e t t' None = NoRoomFor slots e t

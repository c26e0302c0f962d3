-- Where a party stands in a table that two share, and what a lookup from there starts from: at its node, at the level where its
-- climb stops, and on the way down again.
-- Assumes nothing.
use Rattle.std.specs.Prelude.{false, ◌≡◌, ℕ, suc}
use mathlib.Core.List.{List, Memᴰ}
use Rattle.grid.specs.declared.Corner.{Corner}
use Rattle.grid.specs.Grid.{stepped}
use Rattle.grid.specs.Tree.{root, parent_of, is_root, path_of, up_by}
use Rattle.tree_laws.specs.State.{raised}
use Rattle.pair_table.specs.Slots.{Slot, placed_all}
use Rattle.pair_laws.specs.Stand.{At}
use Rattle.pair_table_laws.specs.Hold.{Both, SettledIn, PairTable}
use Rattle.pair_table_laws.specs.Look.{Look, PairDescends}
use Rattle.pair_child.specs.declared.Stock.{Stock}
use Rattle.pair_child.specs.declared.Located.{Located}
use Rattle.pair_child.specs.Finds.{StockIs}

-- the table holds these states, and record u is the node c, which party q needs
pub record Stands (t : List ℕ) (slots : List Slot) (B : Both) (q u : ℕ) (c : Corner) : Type 0 where
  pub table : PairTable t slots B
  pub settled : SettledIn slots B
  pub here : At slots u c
  pub needed : Memᴰ c (B q).nodes

-- some states
pub record PairStanding (t : List ℕ) (q u : ℕ) (c : Corner) : Type 0 where
  pub slots : List Slot
  pub both : Both
  pub stands : Stands t slots both q u c

-- a lookup starts there: the root stands in the first record, and s is what is in use
pub record Looks (t : List ℕ) (slots : List Slot) (B : Both) (q u : ℕ) (c : Corner) (s : Stock) : Type 0 where
  pub stands : Stands t slots B q u c
  pub top : At slots 0 root
  pub stock : StockIs s slots

pub record Looking (t : List ℕ) (q u : ℕ) (c : Corner) (s : Stock) : Type 0 where
  pub slots : List Slot
  pub both : Both
  pub looks : Looks t slots both q u c s

-- a stands in record u; its neighbour in direction d is not linked and no root, and the parent of that neighbour is found: v
pub record Lifts (t : List ℕ) (slots : List Slot) (B : Both) (q : ℕ) (v : Located) (u : ℕ) (a : Corner) (d s : ℕ) : Type 0 where
  pub settled : SettledIn slots B
  pub here : At slots u a
  pub needed : Memᴰ a (B q).nodes
  pub none : (B q).step a (stepped d a) ≡ 0
  pub deep : is_root (stepped d a) ≡ false
  pub look : Look B slots q (raised (B q) s a (stepped d a)) (parent_of (stepped d a)) t (suc v.node)
  pub top : At slots 0 root
  pub stock : StockIs v.stock (placed_all slots (path_of (parent_of (stepped d a))))

pub record Lifting (t : List ℕ) (q : ℕ) (v : Located) (u : ℕ) (a : Corner) (d s : ℕ) : Type 0 where
  pub slots : List Slot
  pub both : Both
  pub lifts : Lifts t slots both q v u a d s

-- the neighbour v of the node this many levels above c, which stands in record u, is found, made and linked
pub record ComesDown (t : List ℕ) (slots : List Slot) (B : Both) (q : ℕ) (v : Located) (u : ℕ) (c : Corner)
    (d s level : ℕ) : Type 0 where
  pub settled : SettledIn slots B
  pub start : Memᴰ c (B q).nodes
  pub top : At slots 0 root
  pub descends : PairDescends B slots q s c d level t u (suc v.node)
  pub stock : StockIs v.stock (placed_all slots (path_of (stepped d (up_by level c))))

pub record Coming (t : List ℕ) (q : ℕ) (v : Located) (u : ℕ) (c : Corner) (d s level : ℕ) : Type 0 where
  pub slots : List Slot
  pub both : Both
  pub comes : ComesDown t slots both q v u c d s level

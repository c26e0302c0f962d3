-- A table in which the start of party q is planted.
-- Assumes nothing.
use Rattle.std.specs.Prelude.{List, ◌≡◌, ℕ}
use Rattle.tree_laws.specs.State.{planted_of}
use Rattle.grid.specs.Tree.{root}
use Rattle.pair_table.specs.Slots.{Slot}
use Rattle.pair_laws.specs.Stand.{At}
use Rattle.pair_table_laws.specs.Hold.{Both, SettledIn, PairTable}
use Rattle.pair_child.specs.declared.Stock.{Stock}
use Rattle.pair_child.specs.Finds.{StockIs}

-- the root alone is in use
abbrev pub root_stock : Stock
root_stock = record { nodes = 1; low = 1 }

-- the table holds these states, the root stands in the first record, and party q needs it alone; s is what is in use
pub record Plants (t : List ℕ) (slots : List Slot) (C : Both) (q : ℕ) (s : Stock) : Type 0 where
  pub table : PairTable t slots C
  pub settled : SettledIn slots C
  pub own : C q ≡ planted_of root
  pub top : At slots 0 root
  pub stock : StockIs s slots

-- for some states and records
pub record Planting (t : List ℕ) (q : ℕ) (s : Stock) : Type 0 where
  pub slots : List Slot
  pub both : Both
  pub plants : Plants t slots both q s

-- The way down a digital tree, and what is kept of the tree while keys are added. Assumes nothing.
use Rattle.lists.specs.Lists.{find, add}
use Rattle.std.specs.Prelude.{Err, Ok, Result, ◌≡◌, true, false, List, ℕ, zero, suc, ◌+◌, ◌*◌, ◌/◌, ◌%◌, ◌<◌, ◌≤◌, eqb, length, take, get_or}

-- the way down to the key k from node i, if r holds the digits that are left; the first argument bounds how long it is
abbrev pub seek_from : ℕ → List ℕ → List ℕ → ℕ → ℕ → ℕ → Result ℕ ℕ
seek_from zero keys kids k i r = Err 0
seek_from (suc f) keys kids k i r =
    elim (eqb (get_or keys i 0) k) [
      | true ↦ Ok i
      | false ↦
          elim (get_or kids (2 * i + r % 2) 0) [ zero ↦ Err (2 * i + r % 2) | suc c ↦ seek_from f keys kids k (suc c) (r / 2) ]
    ]

-- the first `used` keys are in the tree: a child has a higher number than its parent, there are none past the nodes, and the way
-- down to a key ends at its node
pub record Tree (keys kids : List ℕ) (used : ℕ) : Type 0 where
  pub some : 0 < used
  pub room : used ≤ length keys
  pub pairs : length kids ≡ 2 * length keys
  pub deeper : (l : ℕ) → 0 < get_or kids l 0 → (l < 2 * get_or kids l 0) × (get_or kids l 0 < used)
  pub found : (j : ℕ) → j < used → seek_from used keys kids (get_or keys j 0) 0 (get_or keys j 0) ≡ Ok j

-- the key has joined the others at their end, unless it was there, and its place is the node's number
pub record Seated (keys : List ℕ) (used k : ℕ) (keys' kids' : List ℕ) (node used' : ℕ) : Type 0 where
  pub tree : Tree keys' kids' used'
  pub joined : take used' keys' ≡ add eqb (take used keys) k
  pub place : find (eqb k) (take used' keys') ≡ suc node
  pub same : length keys' ≡ length keys

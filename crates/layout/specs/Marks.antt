-- The marks after each operation, and the chain of surviving steps (RULES 5.3, 5.4). Assumes nothing.
use Rattle.std.specs.Prelude.{max, Bool, true, false, not, ◌&&◌, List, [], ◌∷◌, ◌++◌, length, take, drop, replicate, ℕ, zero, suc, ◌+◌, ◌-◌, ◌*◌, eqb}
use Rattle.lists.specs.Lists.{tally, count}
use Rattle.grid.specs.{declared.Corner.Corner, Grid.same, Grid.corners_from, Grid.end_from}
use Rattle.steps.specs.Operations.{operate, survivors}
use Rattle.tree.specs.Nodes.{nodes_of}
use Rattle.layout.specs.Table.{width, table_of}

-- words of a mark
abbrev pub mark_words : ℕ
mark_words = 3

-- two rows of words are the same, word by word
abbrev pub same_words : List ℕ → List ℕ → Bool
same_words [] [] = true
same_words [] (y ∷ m) = false
same_words (x ∷ l) [] = false
same_words (x ∷ l) (y ∷ m) = eqb x y && same_words l m

-- how many of the first n records, of w words each, differ in two tables
abbrev pub changes_by : ℕ → ℕ → List ℕ → List ℕ → ℕ
changes_by w zero t u = 0
changes_by w (suc n) t u = tally (not (same_words (take w t) (take w u))) + changes_by w n (drop w t) (drop w u)

-- in two tables of one walk
abbrev pub changes_in : ℕ → List ℕ → List ℕ → ℕ
changes_in n t u = changes_by width n t u

-- how many records differ in the tables of the walks with the steps ds and es, both of as many records as either needs
abbrev pub changes_of : Corner → List ℕ → List ℕ → ℕ
changes_of c ds es =
    let n = max (length (nodes_of (corners_from c ds))) (length (nodes_of (corners_from c es))) in
    changes_in n (table_of (n * width) c ds) (table_of (n * width) c es)

-- of an operation with the steps ds before it and es after it: the nodes then in use, the visits at the corner where the walk
-- then stands, the records that differ
abbrev pub mark_of : Corner → List ℕ → List ℕ → List ℕ
mark_of c ds es =
    length (nodes_of (corners_from c es)) ∷ count (same (end_from c es)) (corners_from c es) ∷ changes_of c ds es ∷ []

abbrev pub marks_from : Corner → List ℕ → List ℕ → List ℕ
marks_from c ds [] = []
marks_from c ds (o ∷ os) = mark_of c ds (operate ds o) ++ marks_from c (operate ds o) os

-- the mark after each operation, one after the other
abbrev pub marks_of : Corner → List ℕ → List ℕ
marks_of c os = marks_from c [] os

-- the surviving steps, then zeros
abbrev pub chain_of : List ℕ → List ℕ
chain_of os = survivors os ++ replicate (length os - length (survivors os)) 0

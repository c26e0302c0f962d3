-- Records, marks and chains, computed on small walks.
-- Assumes nothing.
use mathlib.Core.List.{List, [], ◌∷◌}
use mathlib.Core.Path.{◌≡◌, refl}
use Prim.Native.Nat.{ℕ, ◌+◌}
use lib.IntN.{pos}
use lib.ListN.{drop}
use Rattle.grid.specs.declared.Corner.{Corner}
use Rattle.grid.specs.Grid.{corner, origin, corners_from}
use Rattle.grid.specs.Tree.{root}
use Rattle.tree.specs.Nodes.{nodes_of}
use Rattle.layout.specs.Table.{width, record_of, edges_of, table_of}
use Rattle.layout.specs.Marks.{changes_of, marks_of, chain_of}

-- the record of a node after a walk from the origin
record_after : List ℕ → Corner → List ℕ
record_after ds a = record_of (corners_from origin ds) (nodes_of (corners_from origin ds)) a

-- the unvisited (1,1) of 0011: a child in word 5, a link south to (1,0), needed by step 4, never visited, and none of its edges walked
unvisited_record : record_after (0 ∷ 0 ∷ 1 ∷ 1 ∷ []) (corner (pos 1) (pos 1))
    ≡ 1 ∷ 0 ∷ 0 ∷ 0 ∷ 0 ∷ 6 ∷ 0 ∷ 0 ∷ 0 ∷ 0 ∷ 0 ∷ 0 ∷ 0 ∷ 2 ∷ 0 ∷ 0 ∷ 0 ∷ 4 ∷ 0 ∷ 4 ∷ 0 ∷ 0 ∷ 0 ∷ 0 ∷ 0 ∷ []
unfolding record_after
unvisited_record = refl

-- visited later, it has one visit, was needed by step 4 and first visited at p6; of its edges that to the north was walked
visited_later : drop 18 (record_after (0 ∷ 0 ∷ 1 ∷ 1 ∷ 2 ∷ 3 ∷ []) (corner (pos 1) (pos 1))) ≡ 1 ∷ 4 ∷ 7 ∷ 0 ∷ 1 ∷ 0 ∷ 0 ∷ []
unfolding record_after
visited_later = refl

-- the root of 01223: five children in five words, and a link to the east alone, though the corners north and west are nodes
root_record : record_after (0 ∷ 1 ∷ 2 ∷ 2 ∷ 3 ∷ []) root
    ≡ 0 ∷ 0 ∷ 6 ∷ 5 ∷ 0 ∷ 0 ∷ 4 ∷ 0 ∷ 2 ∷ 3 ∷ 2 ∷ 0 ∷ 0 ∷ 0 ∷ 1 ∷ 0 ∷ 0 ∷ 0 ∷ 1 ∷ 0 ∷ 1 ∷ 1 ∷ 0 ∷ 0 ∷ 0 ∷ []
unfolding record_after
root_record = refl

-- three steps over one edge, two of them east: both its ends hold 3
walked_thrice : edges_of (corners_from origin (0 ∷ 2 ∷ 0 ∷ [])) root 0 ≡ 3
walked_thrice = refl

the_other_end : edges_of (corners_from origin (0 ∷ 2 ∷ 0 ∷ [])) (corner (pos 1) (pos 0)) 2 ≡ 3
the_other_end = refl

-- a record is 25 words
record_width : width ≡ 25
record_width = refl

-- one record in use, and zeros after it
zeros_after : drop width (table_of (width + 4) origin []) ≡ 0 ∷ 0 ∷ 0 ∷ 0 ∷ []
zeros_after = refl

-- after 0, 2, 0 and a take-back: nodes, visits at the corner where the walk now stands, and the two ends of the step, whose
-- records alone differ
marks_of_a-take-back : marks_of origin (0 ∷ 2 ∷ 0 ∷ 4 ∷ []) ≡ 2 ∷ 1 ∷ 2 ∷ 2 ∷ 2 ∷ 2 ∷ 2 ∷ 2 ∷ 2 ∷ 2 ∷ 2 ∷ 2 ∷ []
marks_of_a-take-back = refl

-- the last step of 0011 makes (1,1) and (2,2): they differ, and so do (2,1) below, (1,0) beside the one, and the root above it
five-records-differ : changes_of origin (0 ∷ 0 ∷ 1 ∷ []) (0 ∷ 0 ∷ 1 ∷ 1 ∷ []) ≡ 5
five-records-differ = refl

-- a walk that is not changed changes no record
none_differs : changes_of origin (0 ∷ 1 ∷ []) (0 ∷ 1 ∷ []) ≡ 0
none_differs = refl

chain_of_a-take-back : chain_of (0 ∷ 2 ∷ 1 ∷ 4 ∷ []) ≡ 0 ∷ 2 ∷ 0 ∷ 0 ∷ []
chain_of_a-take-back = refl

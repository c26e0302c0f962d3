-- Nodes and links, computed on small walks.
-- Assumes nothing.
use mathlib.Core.List.{[], ◌∷◌}
use mathlib.Core.Path.{◌≡◌, refl}
use lib.IntN.{pos, negsuc}
use Rattle.grid.specs.Grid.{corner, origin, corners_from}
use Rattle.grid.specs.Tree.{root}
use Rattle.tree.specs.Nodes.{nodes_of, ref_of, need_of, link_step_of}

-- nobody stood on (1,1), and it is a node: an ancestor of (2,2), numbered before it
unvisited_node : nodes_of (corners_from origin (0 ∷ 0 ∷ 1 ∷ 1 ∷ []))
    ≡ root ∷ corner (pos 1) (pos 0) ∷ corner (pos 2) (pos 0) ∷ corner (pos 2) (pos 1) ∷ corner (pos 1) (pos 1) ∷ corner (pos 2) (pos 2) ∷ []
unvisited_node = refl

-- nobody walked from (1,0) to (1,1), and they are linked, at level 1 of step 4
unwalked_link : link_step_of (corners_from origin (0 ∷ 0 ∷ 1 ∷ 1 ∷ [])) (corner (pos 1) (pos 0)) 1 ≡ 4
unwalked_link = refl

-- the first of three steps over one edge made the link
first_step_links : link_step_of (corners_from origin (0 ∷ 2 ∷ 0 ∷ [])) root 0 ≡ 1
first_step_links = refl

-- the edge from (-1,0) to (0,0) is walked at step 6, and its link is made at level 1 of step 3
link_before_the_walk : link_step_of (corners_from origin (3 ∷ 2 ∷ 2 ∷ 1 ∷ 0 ∷ 0 ∷ [])) (corner (negsuc 0) (pos 0)) 0 ≡ 3
link_before_the_walk = refl

no_link : link_step_of (corners_from origin (0 ∷ 0 ∷ [])) root 1 ≡ 0
no_link = refl

-- (1,1) and (-1,1) are two nodes
two_nodes : ref_of (nodes_of (corners_from origin (0 ∷ 1 ∷ 2 ∷ 2 ∷ []))) (corner (negsuc 0) (pos 1)) ≡ 5
two_nodes = refl

-- the link of a step east stands west of its end too
link_back : link_step_of (corners_from origin (0 ∷ [])) (corner (pos 1) (pos 0)) 2 ≡ 1
link_back = refl

-- (1,1) is needed by step 4, though it is visited by step 6 only
needed-before_visited : need_of (corners_from origin (0 ∷ 0 ∷ 1 ∷ 1 ∷ 2 ∷ 3 ∷ [])) (corner (pos 1) (pos 1)) ≡ 4
needed-before_visited = refl

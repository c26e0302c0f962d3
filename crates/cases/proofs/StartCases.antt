-- Walks that start elsewhere, computed: the start's ancestors, what word 19 says of them, and four corners that need 59 nodes.
-- Assumes nothing.
use mathlib.Core.List.{List, [], ◌∷◌}
use mathlib.Core.Path.{◌≡◌, refl}
use Prim.Native.Nat.{ℕ}
use lib.IntN.{pos, negsuc}
use lib.ListN.{length}
use Rattle.answer.specs.Refusal.{verdict_number}
use Rattle.grid.specs.declared.Corner.{Corner}
use Rattle.grid.specs.Grid.{corner, corners_from}
use Rattle.grid.specs.Tree.{root}
use Rattle.layout.specs.Marks.{marks_of}
use Rattle.trace.specs.Meeting.{visited_of}
use Rattle.trace.specs.Verdict.{verdict_of, area_of}
use Rattle.tree.specs.Nodes.{nodes_of, need_of}

-- around (16383,16383) four large parts of the tree meet
abbrev lift : Corner
lift = corner (pos 16383) (pos 16383)

abbrev round : List ℕ
round = 0 ∷ 1 ∷ 2 ∷ 3 ∷ []

four_corners : length (visited_of (corners_from lift round)) ≡ 4
four_corners = refl

fifty_nine_nodes : length (nodes_of (corners_from lift round)) ≡ 59
fifty_nine_nodes = refl

-- closed means that the end is the start
a-room-there : verdict_number (verdict_of lift round) ≡ 2
a-room-there = refl

its_area : area_of lift round ≡ pos 1
its_area = refl

-- the ancestors of the start come first, from the root down, and no step needs them
ancestors_first : nodes_of (corners_from (corner (pos 3) (negsuc 1)) (2 ∷ []))
    ≡ root ∷ corner (pos 1) (negsuc 0) ∷ corner (pos 3) (negsuc 1) ∷ corner (pos 2) (negsuc 1) ∷ []
ancestors_first = refl

needed-by_no_step : need_of (corners_from (corner (pos 3) (negsuc 1)) (2 ∷ [])) (corner (pos 3) (negsuc 1)) ≡ 0
needed-by_no_step = refl

needed-by_step_one : need_of (corners_from (corner (pos 3) (negsuc 1)) (2 ∷ [])) (corner (pos 2) (negsuc 1)) ≡ 1
needed-by_step_one = refl

-- what is there from the beginning stays when the step is taken back
marks_there : marks_of (corner (pos 3) (negsuc 1)) (2 ∷ 4 ∷ []) ≡ 4 ∷ 1 ∷ 3 ∷ 3 ∷ 1 ∷ 3 ∷ []
marks_there = refl

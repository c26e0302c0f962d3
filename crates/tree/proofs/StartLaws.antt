-- The nodes of a walk with no step: its start and the ancestors of it.
-- Assumes nothing.
use mathlib.Core.Bool.{true}
use mathlib.Core.List.{List, [], ◌∷◌, append-nil}
use mathlib.Core.Path.{◌≡◌, refl, ap, ◌∙◌}
use Rattle.grid.specs.declared.Corner.{Corner}
use Rattle.grid.specs.Grid.{same}
use Rattle.grid.specs.Tree.{path_of}
use Rattle.lists.specs.Lists.{gather}
use Rattle.tree.specs.Nodes.{nodes_of}
use Rattle.grid.proofs.CornerLaws.{same_sound}
use Rattle.grid.proofs.AncestorLaws.{path_of_distinct}
use Rattle.lists.proofs.KeepLaws.{keep, gather-keep}

-- in the order of the path, from the root down
pub nodes_start : (c : Corner) → nodes_of (c ∷ []) ≡ path_of c
nodes_start c = ap (gather same []) (append-nil (path_of c)) ∙ gather-keep same same_sound [] (path_of c) (path_of_distinct c) ∙ all (path_of c)
  where
    all : (l : List Corner) → keep (λ x. true) l ≡ l
    all [] = refl
    all (x ∷ l) = ap (λ (m : List Corner). x ∷ m) (all l)

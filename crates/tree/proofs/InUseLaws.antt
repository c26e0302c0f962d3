-- The nodes in use are the visited corners and their ancestors, nothing else; the root is first; a step adds the new part of its
-- corner's path, nearer the root first.
-- Assumes nothing.
use mathlib.Core.Bool.{not, false}
use mathlib.Core.List.Memᴰ
use mathlib.Core.List.{List, [], ◌∷◌, ◌++◌, Memᴰ}
use mathlib.Core.Logic.{⊎_elim}
use mathlib.Core.Path.{◌≡◌, ap, ◌∙◌}
use Prim.Native.Nat.{suc, ◌<◌}
use Rattle.lists.specs.Lists.{any, gather}
use Rattle.lists.proofs.FindLaws.{find_pos}
use Rattle.lists.proofs.GatherLaws.{gather-more, mem→any, mem-gather-right, mem-gather_cases}
use Rattle.lists.proofs.KeepLaws.{keep, gather-keep}
use Rattle.grid.specs.declared.Corner.{Corner}
use Rattle.grid.specs.Grid.{same}
use Rattle.grid.specs.Tree.{root, parent_of, is_root, path_of}
use Rattle.grid.proofs.AncestorLaws.{ancestor_parent, ancestor_path, path_ancestor, path_of-first, path_of_distinct}
use Rattle.grid.proofs.CornerLaws.{same_refl, same_sound}
use Rattle.tree.specs.Nodes.{paths_of, nodes_of, ref_of, InUse}
use Rattle.tree.proofs.NodeLaws.{mem_paths, mem_paths_cases, nodes_of_snoc}

pub node_in_use : (ps : List Corner) (a : Corner) → Memᴰ a (nodes_of ps) → InUse ps a
node_in_use ps a m =
    let h = mem_paths_cases ps (⊎_elim (λ n. absurd (Memᴰ.not-nil n)) (λ n. n) (mem-gather_cases same same_sound same_refl [] (paths_of ps) m)) in
    (h.0, h.1, path_ancestor h.0 a h.2)

pub in_use_node : (ps : List Corner) (a : Corner) → InUse ps a → Memᴰ a (nodes_of ps)
in_use_node ps a u = mem-gather-right same same_sound same_refl [] (paths_of ps) (mem_paths ps u.1 (ancestor_path u.2.0 u.0 a u.2.1))

-- so it has a number
pub in_use_ref : (ps : List Corner) (a : Corner) → InUse ps a → 0 < ref_of (nodes_of ps) a
in_use_ref ps a u = find_pos (same a) (nodes_of ps) (mem→any same same_sound same_refl (in_use_node ps a u))

-- so is the parent of what is in use
pub parent_in_use : (ps : List Corner) (a : Corner) → is_root a ≡ false → InUse ps a → InUse ps (parent_of a)
parent_in_use ps a r u = (u.0, u.1, (suc u.2.0, ancestor_parent u.2.0 u.0 a r u.2.1))

-- the root is number 0
pub nodes_of-first : (p : Corner) (ps : List Corner) → (r : List Corner) × (nodes_of (p ∷ ps) ≡ root ∷ r)
nodes_of-first p ps =
    let h = path_of-first p in
    let k = gather-more same (root ∷ []) (h.0 ++ paths_of ps) in
    (k.0, ap (λ (l : List Corner). gather same [] (l ++ paths_of ps)) h.1 ∙ k.1)

-- a corner more adds its path's nodes that are not in use yet, in the order of the path
pub nodes_of_new : (ps : List Corner) (p : Corner) → nodes_of (ps ++ (p ∷ [])) ≡ nodes_of ps ++ keep (λ a. not (any (same a) (nodes_of ps))) (path_of p)
nodes_of_new ps p = nodes_of_snoc ps p ∙ gather-keep same same_sound (nodes_of ps) (path_of p) (path_of_distinct p)

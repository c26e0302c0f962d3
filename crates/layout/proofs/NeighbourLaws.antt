-- The neighbour's ref stands in a record exactly if there is a link.
-- Assumes nothing.
use mathlib.Core.List.{List}
use mathlib.Core.Path.{◌≡◌, refl}
use Prim.Native.Nat.{ℕ, zero, suc, ◌<◌}
use native.Mathlib.Omega.{arith}
use Rattle.grid.specs.declared.Corner.{Corner}
use Rattle.grid.specs.Grid.{stepped}
use Rattle.tree.specs.Nodes.{nodes_of, ref_of, link_step_of}
use Rattle.tree.proofs.InUseLaws.{in_use_ref}
use Rattle.tree.proofs.LinkStepLaws.{link_made, link_in_use}
use Rattle.layout.specs.Table.{neighbour_ref_of}

module _ (ps : List Corner) (a : Corner) (d : ℕ) where
  -- with a link, it is the ref of a node in use
  pub neighbour_linked : 0 < link_step_of ps a d → (neighbour_ref_of ps (nodes_of ps) a d ≡ ref_of (nodes_of ps) (stepped d a)) × (0 < ref_of (nodes_of ps) (stepped d a))
  neighbour_linked h = (by (link_step_of ps a d) refl, in_use_ref ps (stepped d a) (link_in_use ps a (stepped d a) (link_step_of ps a d) (link_made ps a d h)).1)
    where
      by : (n : ℕ) → link_step_of ps a d ≡ n → neighbour_ref_of ps (nodes_of ps) a d ≡ ref_of (nodes_of ps) (stepped d a)
      by zero e = absurd (omega arith)
      by (suc k) e = rw (e, neighbour_ref_of)

  -- with none, it is 0, be there a node or not
  pub neighbour_none : link_step_of ps a d ≡ 0 → neighbour_ref_of ps (nodes_of ps) a d ≡ 0
  neighbour_none e = rw (e, neighbour_ref_of)

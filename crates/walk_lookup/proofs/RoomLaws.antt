-- A lookup that found the table full promises nothing about it, so that any table may be left.
-- Assumes nothing.
use mathlib.Core.List.{List}
use mathlib.Core.Path.{◌≡◌, refl}
use Prim.Native.Nat.{ℕ}
use native.Mathlib.Omega.{arith}
use Rattle.grid.specs.declared.Corner.{Corner}
use Rattle.grid.specs.Grid.{same}
use Rattle.grid.specs.Tree.{path_of}
use Rattle.lists.specs.Lists.{gather}
use Rattle.tree_laws.specs.State.{State, reached, Made}
use Rattle.grid.proofs.CornerLaws.{same_refl, same_sound}
use Rattle.lists.proofs.GatherLaws.{mem-gather-right}
use Rattle.tree.proofs.NodeLaws.{mem_path}
use Rattle.tree_laws.proofs.AddLaws.{ref_pos}

pub none_made : (words : ℕ) (S : State) (s : ℕ) (a e : Corner) (t t' : List ℕ) (r n n' : ℕ) → r ≡ 0 → Made words (reached S s a e) e t r n → Made words (reached S s a e) e t' 0 n'
none_made words S s a e t t' r n n' z made = record {
  fits = λ f. absurd (omega (arith, (made.fits f).1, ref_pos (gather same S.nodes (path_of e)) e (mem-gather-right same same_sound same_refl S.nodes (path_of e) (mem_path e))));
  full = λ f. refl;
}

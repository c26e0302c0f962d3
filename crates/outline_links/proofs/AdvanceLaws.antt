-- What a step promises, from what its parts do.
-- Assumes nothing.
use mathlib.Core.List.{List}
use mathlib.Core.Logic.{inl, inr}
use mathlib.Core.Path.{◌≡◌, refl, sym, ◌∙◌}
use Prim.Native.Nat.{ℕ, zero, suc, ◌+◌, ◌-◌, ◌*◌}
use native.Mathlib.Numerals.{add-one}
use native.Mathlib.Omega.{arith}
use lib.ListN.{get_or, set}
use Rattle.grid.specs.Grid.{back}
use Rattle.outline_roster.specs.Tree.{Seated}
use Rattle.outline_links.specs.Store.{StepLinked}

module _ (keys kids links : List ℕ) (used node k d l : ℕ) (e : l ≡ get_or links (4 * node + d) 0) where
  pub along_link : (l ≡ 0 → ⊥) → StepLinked keys kids links used node k d keys kids links (l - 1) used
  along_link n = inl (record { link = sym e ∙ one l n; same = (refl, refl, refl, refl) })
    where
      one : (l : ℕ) → (l ≡ 0 → ⊥) → l ≡ suc (l - 1)
      one zero n = absurd (n refl)
      one (suc m) n = omega arith

  pub joined_new : {keys' kids' : List ℕ} {node' used' : ℕ} (b : ℕ) → l ≡ 0 → b ≡ back d → Seated keys used k keys' kids' node' used'
      → StepLinked keys kids links used node k d keys' kids' (set (set links (4 * node + d) (node' + 1)) (4 * node' + b) (node + 1)) node' used'
  joined_new {keys'} {kids'} {node'} {used'} b z f s = inr (record { none = sym e ∙ z; seated = s; words = rw (f, add-one node, add-one node') })

-- What the level above two nodes has, field by field.
-- Assumes nothing.
use mathlib.Core.Bool.{not}
use mathlib.Core.List.{List}
use mathlib.Core.Path.{◌≡◌, refl, ap, sym, subst}
use Prim.Native.Nat.{ℕ, ◌+◌, ◌-◌, ◌*◌}
use lib.Dec.{eqb}
use lib.ListN.{get_or}
use Rattle.lists.specs.Lists.{tally}
use Rattle.layout.specs.Table.{parent_word, neighbour_word}
use Rattle.walk_change.specs.declared.Level.{Level}
use Rattle.walk_change.specs.Above.{level_above}

pub level_told : (words : ℕ) (t : List ℕ) (u v d : ℕ) {l : Level} → l ≡ level_above words t u v d
    → (l.u ≡ get_or t (u * words + parent_word) 0 - 1)
    × (l.v ≡ get_or t ((get_or t (u * words + parent_word) 0 - 1) * words + neighbour_word d) 0 - 1)
    × (l.count ≡ tally (not (eqb l.u v)) + tally (not (eqb l.v u)))
level_told words t u v d e = (
  ap (λ (x : Level). x.u) e,
  ap (λ (x : Level). x.v) e,
  subst (λ (x : Level). x.count ≡ tally (not (eqb x.u v)) + tally (not (eqb x.v u))) (sym e) refl,
)

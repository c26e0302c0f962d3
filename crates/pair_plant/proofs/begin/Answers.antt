-- `pair_plant::begin` meets its contract.
use mathlib.Core.List.{List}
use mathlib.Core.Path.{refl, ap, ◌∙◌}
use Prim.Native.Nat.{ℕ}
use lib.ListN.{set}
use Rattle.layout.specs.Table.{need_word}
use Rattle.pair_table.specs.Words.{pair_word_at}
use Rattle.pair_table_laws.specs.Hold.{of_party}
use Rattle.pair_plant.proofs.begin.Goals as goal

pub returns : goal.returns
returns c =
    (c.need-2.ensures ∙ ap (λ (l : List ℕ). set l (pair_word_at 0 (of_party 1 need_word)) 1) (c.need.ensures ∙ ap (λ (l : List ℕ). set l (pair_word_at 0 (of_party 0 need_word)) 1) c.zero.ensures), refl)

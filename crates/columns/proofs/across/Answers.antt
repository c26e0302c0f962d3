-- `columns::across` meets its contract.
use Rattle.std.proofs.Common.{ℕ, ◌+◌, ◌%◌, ◌^◌, List, get_or, ap₂, ◌∙◌}
use Rattle.columns.proofs.StepLaws.{across_by}
use Rattle.columns.proofs.across.Goals as goal

pub returns : goal.returns
returns c =
    let a = c.args in
    ap₂ (λ (l : List ℕ) (d : ℕ). (a.x + get_or l d 0) % 2 ^ 32) c.requires.0 c.from.ensures
    ∙ across_by a.x a.d c.requires.1 c.requires.2 c.requires.3
